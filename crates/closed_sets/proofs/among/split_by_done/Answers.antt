use Rattle.std.proofs.Common.{◌≡◌, ℕ, ◌↔◌, ◌++◌, [], ◌∷◌, not, List, length, sym, subst, rules}
use Rattle.std.specs.List.{Contains, filter}
use Rattle.closed_sets.specs.Families.{IsSet}
use Rattle.closed_sets.specs.Search.{AreSplit, is_one}
use Rattle.closed_sets.proofs.Lists.{one_is_set}
use Rattle.closed_sets.proofs.Partners.{split_is}
use Rattle.closed_sets.proofs.among.split_by_done.Goals as goal

pub without-requires-2 : goal.without-requires-2
without-requires-2 c =
    let one : c.as_slice-3.result.now ≡ c.args.item ∷ [] = search rules in
    subst IsSet (sym one) (one_is_set c.args.item)

pub returns : goal.returns
returns c =
    let all : List ℕ = c.set_of-all.result.items in
    let left : List ℕ = c.in_ok-left.left.items in
    let candidates : List ℕ = c.in_ok-candidates.candidates.items in
    let front : List ℕ = c.in_ok-numbers.numbers.items in
    let copy : c.in_ok-copy.copy.items ≡ c.args.numbers.now = search rules in
    let all_are : (x : ℕ) → Contains all x ↔ Contains c.args.numbers.now x = subst (λ (xs : List ℕ). (x : ℕ) → Contains all x ↔ Contains xs x) copy c.set_of-all.ensures.exactly in
    let left_is : left ≡ filter (λ number. not (is_one c.args.done.now number)) all = subst (λ (xs : List ℕ). left ≡ filter (λ number. not (is_one c.args.done.now number)) xs) c.as_slice.ensures.value c.in_ok-left.ensures in
    let one : c.as_slice-3.result.now ≡ c.args.item ∷ [] = search rules in
    let listed : candidates ≡ filter (λ number. not (is_one c.as_slice-3.result.now number)) left = subst (λ (xs : List ℕ). candidates ≡ filter (λ number. not (is_one c.as_slice-3.result.now number)) xs) c.as_slice-2.ensures.value c.in_ok-candidates.ensures in
    let candidates_are : candidates ≡ filter (λ number. not (is_one (c.args.item ∷ []) number)) left = subst (λ (xs : List ℕ). candidates ≡ filter (λ number. not (is_one xs number)) left) one listed in
    let front_is : front ≡ filter (is_one c.args.done.now) all = search rules in
    let is : c.extend_from_slice.new.self.items ≡ front ++ candidates = search rules in
    let first : length front ≡ c.len-first.result = search rules in
    subst (λ (n : ℕ). AreSplit c.args.item c.args.done.now c.args.numbers.now c.extend_from_slice.new.self.items n) first
    (split_is c.args.item c.args.done.now c.args.numbers.now all left candidates front c.extend_from_slice.new.self.items c.set_of-all.ensures.is_set all_are left_is candidates_are front_is is)
