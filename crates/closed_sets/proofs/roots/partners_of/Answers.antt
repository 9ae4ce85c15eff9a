use Rattle.std.proofs.Common.{◌≡◌, ℕ, ◌↔◌, ◌++◌, not, List, length, subst, rules}
use Rattle.std.specs.List.{Contains, filter}
use Rattle.closed_sets.specs.Search.{ArePartners, IsPaired, is_one}
use Rattle.closed_sets.proofs.Pairs.{partners_are}
use Rattle.closed_sets.proofs.roots.partners_of.Goals as goal

pub returns : goal.returns
returns c =
    let pairs : List (ℕ × ℕ) = c.args.pairs.now in
    let free : List (ℕ × ℕ) = c.in_ok-free.free.items in
    let all : List ℕ = c.in_ok-all.all.items in
    let candidates : List ℕ = c.in_ok-candidates.candidates.items in
    let rest : List ℕ = c.in_ok-numbers.numbers.items in
    let are : (x : ℕ) → Contains candidates x ↔ ((y : ℕ) × IsPaired free x y) = subst (λ (ps : List (ℕ × ℕ)). (x : ℕ) → Contains candidates x ↔ ((y : ℕ) × IsPaired ps x y)) c.as_slice.ensures.value c.in_ok-candidates.ensures.exactly in
    let rest_is : rest ≡ filter (λ number. not (is_one candidates number)) all = search rules in
    let is : c.extend_from_slice.new.self.items ≡ rest ++ candidates = search rules in
    let first : length rest ≡ c.len-first.result = search rules in
    subst (λ (n : ℕ). ArePartners pairs c.args.done.now c.extend_from_slice.new.self.items n) first
    (partners_are pairs free c.args.done.now all candidates rest c.extend_from_slice.new.self.items c.in_ok-free.ensures c.in_ok-all.ensures.is_set c.in_ok-all.ensures.exactly c.in_ok-candidates.ensures.is_set are rest_is is)
