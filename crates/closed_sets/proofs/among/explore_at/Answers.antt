use Rattle.std.proofs.Common.{◌≡◌, ℕ, ◌+◌, ◌-◌, ◌≤◌, ◌<◌, Bool, false, nat_eq, List, [], ◌∷◌, ◌++◌, length, map, take, drop, get_or, sym, ◌∙◌, ap, subst, length-append, arith, rules}
use Rattle.std.specs.Vec.{vec_len}
use Rattle.std.proofs.lemmas.Bool.{eqb-true, false≢true}
use Rattle.closed_sets.specs.Counting.{Rises}
use Rattle.closed_sets.specs.Search.{AreFitting, IsBranch, IsClosedFrom, IsUnion, LiesInThree}
use Rattle.closed_sets.proofs.Lists.{empty}
use Rattle.closed_sets.proofs.Nodes.{one_left, to_the_end}
use Rattle.closed_sets.proofs.Partners.{branch_at_it, gains_none, none_below}
use Rattle.closed_sets.proofs.Paying.{paid_after, paid_free, rises_part, rises_then}
use Rattle.closed_sets.proofs.Rooted.{gains_below, node_below, paid_below}
use Rattle.closed_sets.proofs.Starts.{few_around}
use Rattle.closed_sets.proofs.among.explore_at.Goals as goal

-- what calls tell of slices
union_there : (item number : ℕ) (one other set : List ℕ) → one ≡ item ∷ [] → other ≡ number ∷ [] → IsUnion one other set → IsUnion (item ∷ []) (number ∷ []) set
union_there item number one other set e f u = subst (λ (xs : List ℕ). IsUnion xs (number ∷ []) set) e (subst (λ (xs : List ℕ). IsUnion one xs set) f u)

behind_there : (Fits : List ℕ → Type 0) (slice set numbers kept : List ℕ) (place : ℕ) → slice ≡ set → AreFitting Fits slice (take (length numbers - (place + 1)) (drop (place + 1) numbers)) kept → AreFitting Fits set (drop (place + 1) numbers) kept
behind_there Fits slice set numbers kept place e k = subst (λ (xs : List ℕ). AreFitting Fits set xs kept) (to_the_end numbers (place + 1)) (subst (λ (s : List ℕ). AreFitting Fits s (take (length numbers - (place + 1)) (drop (place + 1) numbers)) kept) e k)

behind_tests : (numbers : List ℕ) (place start stop : ℕ) → Rises (length (take (length numbers - (place + 1)) (drop (place + 1) numbers))) start stop → Rises (length (drop (place + 1) numbers)) start stop
behind_tests numbers place start stop r = subst (λ (xs : List ℕ). Rises (length xs) start stop) (to_the_end numbers (place + 1)) r

-- the tests of the numbers behind, and of those before
one_test : (numbers : List ℕ) (place size start stop : ℕ) → place < length numbers → length numbers ≤ size → Rises (length (take (length numbers - (place + 1)) (drop (place + 1) numbers))) start stop → Rises size start stop
one_test numbers place size start stop h most r =
    let few = few_around numbers place h in
    rises_part (length (drop (place + 1) numbers)) size start stop (behind_tests numbers place start stop r) (omega arith)

both_tests : (numbers : List ℕ) (place size start middle stop : ℕ) → place < length numbers → length numbers ≤ size → Rises (length (take (length numbers - (place + 1)) (drop (place + 1) numbers))) start middle → Rises (length (take place numbers)) middle stop → Rises size start stop
both_tests numbers place size start middle stop h most r t =
    let few = few_around numbers place h in
    rises_then (length (drop (place + 1) numbers)) (length (take place numbers)) size start middle stop (behind_tests numbers place start middle r) t (omega arith)

some_left : (xs : List ℕ) (is_empty : Bool) → is_empty ≡ nat_eq (length xs) 0 → is_empty ≡ false → 0 < length xs
some_left [] is_empty e f = absurd (false≢true (sym f ∙ e))
some_left (x ∷ xs) is_empty e f = omega arith

few_both : (numbers : List ℕ) (place : ℕ) (candidates excluded more : List ℕ) → place < length numbers → length candidates ≤ length (drop (place + 1) numbers) → length excluded ≤ length (take place numbers) → more ≡ excluded ++ candidates → length more ≤ length numbers
few_both numbers place candidates excluded more h a b e =
    let few = few_around numbers place h in
    let all : length more ≡ length excluded + length candidates = ap length e ∙ length-append excluded candidates in
    omega arith

pub returns-in_err-candidates-clause-paid : goal.returns-in_err-candidates-clause-paid
returns-in_err-candidates-clause-paid g c = λ size h. paid_free _ size size _ _ (one_test c.args.numbers.now c.args.place size _ _ c.requires.place h c.in_err-candidates.ensures.tests)

pub returns-then-is_empty-clause-gains : goal.returns-then-is_empty-clause-gains
returns-then-is_empty-clause-gains g c =
    let fits = g.F.Family.Fits c.args.family.now in
    let law = g.met.F.Family.hereditary c.args.family.now in
    let one : c.as_slice.result.now ≡ c.args.item ∷ [] = search rules in
    let other : c.as_slice-2.result.now ≡ get_or c.args.numbers.now c.args.place 0 ∷ [] = search rules in
    let u = union_there c.args.item (get_or c.args.numbers.now c.args.place 0) c.as_slice.result.now c.as_slice-2.result.now c.in_ok-set.set.items one other c.in_ok-set.ensures in
    let after = behind_there fits c.as_slice-3.result.now c.in_ok-set.set.items c.args.numbers.now c.in_ok-candidates.candidates.items c.args.place c.as_slice-3.ensures.value c.in_ok-candidates.ensures.kept in
    let len : vec_len c.in_ok-candidates.candidates ≡ length c.in_ok-candidates.candidates.items = search rules in
    let is_empty : c.is_empty.result ≡ nat_eq (length c.in_ok-candidates.candidates.items) 0 = subst (λ (n : ℕ). c.is_empty.result ≡ nat_eq n 0) len c.is_empty.ensures in
    let none : c.in_ok-candidates.candidates.items ≡ [] = empty c.in_ok-candidates.candidates.items (eqb-true (length c.in_ok-candidates.candidates.items) 0 (sym is_empty ∙ c.if-is_empty.true)) in
    gains_none fits law c.args.item (IsClosedFrom (LiesInThree fits) (get_or c.args.numbers.now c.args.place 0 ∷ c.args.item ∷ []) (take c.args.place c.args.numbers.now)) (map (λ set. set.items) c.args.found.now.items)
    (none_below fits law c.args.item c.args.numbers.now c.requires.numbers c.args.place c.requires.place c.in_ok-set.set.items u c.in_ok-candidates.candidates.items after none)

pub returns-then-is_empty-clause-paid : goal.returns-then-is_empty-clause-paid
returns-then-is_empty-clause-paid g c = λ size h. paid_free _ size size _ _ (one_test c.args.numbers.now c.args.place size _ _ c.requires.place h c.in_ok-candidates.ensures.tests)

pub returns-in_err-others-clause-paid : goal.returns-in_err-others-clause-paid
returns-in_err-others-clause-paid g c = λ size h. paid_free _ size size _ _ (both_tests c.args.numbers.now c.args.place size _ _ _ c.requires.place h c.in_ok-candidates.ensures.tests c.in_err-others.ensures.tests)

pub returns-in_err-extend_from_slice-clause-paid : goal.returns-in_err-extend_from_slice-clause-paid
returns-in_err-extend_from_slice-clause-paid g c = λ size h. paid_free _ size size _ _ (both_tests c.args.numbers.now c.args.place size _ _ _ c.requires.place h c.in_ok-candidates.ensures.tests c.in_ok-others.ensures.tests)

pub explore-requires : goal.explore-requires
explore-requires g c =
    let fits = g.F.Family.Fits c.args.family.now in
    let law = g.met.F.Family.hereditary c.args.family.now in
    let one : c.as_slice.result.now ≡ c.args.item ∷ [] = search rules in
    let other : c.as_slice-2.result.now ≡ get_or c.args.numbers.now c.args.place 0 ∷ [] = search rules in
    let u = union_there c.args.item (get_or c.args.numbers.now c.args.place 0) c.as_slice.result.now c.as_slice-2.result.now c.in_ok-set.set.items one other c.in_ok-set.ensures in
    let after = behind_there fits c.as_slice-3.result.now c.in_ok-set.set.items c.args.numbers.now c.in_ok-candidates.candidates.items c.args.place c.as_slice-3.ensures.value c.in_ok-candidates.ensures.kept in
    let before : AreFitting fits c.in_ok-set.set.items (take c.args.place c.args.numbers.now) c.in_ok-others.others.items = subst (λ (xs : List ℕ). AreFitting fits xs (take c.args.place c.args.numbers.now) c.in_ok-others.others.items) c.as_slice-4.ensures.value c.in_ok-others.ensures.kept in
    let more : c.extend_from_slice.new.self.items ≡ c.in_ok-others.others.items ++ c.in_ok-candidates.candidates.items = search rules in
    let first : length c.in_ok-others.others.items ≡ c.len-first.result = search rules in
    let len : vec_len c.in_ok-candidates.candidates ≡ length c.in_ok-candidates.candidates.items = search rules in
    let is_empty : c.is_empty.result ≡ nat_eq (length c.in_ok-candidates.candidates.items) 0 = subst (λ (n : ℕ). c.is_empty.result ≡ nat_eq n 0) len c.is_empty.ensures in
    let x = one_left 0 c.in_ok-candidates.candidates.items (some_left c.in_ok-candidates.candidates.items c.is_empty.result is_empty c.if-is_empty.false) in
    let b = subst (IsBranch (LiesInThree fits) (c.args.item ∷ []) (take c.args.place c.args.numbers.now) (get_or c.args.numbers.now c.args.place 0) c.in_ok-set.set.items c.extend_from_slice.new.self.items) first
    (branch_at_it fits law c.args.item c.args.numbers.now c.requires.numbers c.args.place c.requires.place c.in_ok-set.set.items u c.in_ok-candidates.candidates.items after c.in_ok-others.others.items c.extend_from_slice.new.self.items x.0 x.1 before more) in
    node_below fits law c.args.item c.args.numbers.now c.requires.numbers c.args.place c.requires.place c.in_ok-set.set.items u c.extend_from_slice.new.self.items c.len-first.result b

pub returns-in_err-explore-clause-paid : goal.returns-in_err-explore-clause-paid
returns-in_err-explore-clause-paid g c = λ size h.
    let fits = g.F.Family.Fits c.args.family.now in
    let law = g.met.F.Family.hereditary c.args.family.now in
    let one : c.as_slice.result.now ≡ c.args.item ∷ [] = search rules in
    let other : c.as_slice-2.result.now ≡ get_or c.args.numbers.now c.args.place 0 ∷ [] = search rules in
    let u = union_there c.args.item (get_or c.args.numbers.now c.args.place 0) c.as_slice.result.now c.as_slice-2.result.now c.in_ok-set.set.items one other c.in_ok-set.ensures in
    let after = behind_there fits c.as_slice-3.result.now c.in_ok-set.set.items c.args.numbers.now c.in_ok-candidates.candidates.items c.args.place c.as_slice-3.ensures.value c.in_ok-candidates.ensures.kept in
    let before : AreFitting fits c.in_ok-set.set.items (take c.args.place c.args.numbers.now) c.in_ok-others.others.items = subst (λ (xs : List ℕ). AreFitting fits xs (take c.args.place c.args.numbers.now) c.in_ok-others.others.items) c.as_slice-4.ensures.value c.in_ok-others.ensures.kept in
    let more : c.extend_from_slice.new.self.items ≡ c.in_ok-others.others.items ++ c.in_ok-candidates.candidates.items = search rules in
    let first : length c.in_ok-others.others.items ≡ c.len-first.result = search rules in
    let len : vec_len c.in_ok-candidates.candidates ≡ length c.in_ok-candidates.candidates.items = search rules in
    let is_empty : c.is_empty.result ≡ nat_eq (length c.in_ok-candidates.candidates.items) 0 = subst (λ (n : ℕ). c.is_empty.result ≡ nat_eq n 0) len c.is_empty.ensures in
    let x = one_left 0 c.in_ok-candidates.candidates.items (some_left c.in_ok-candidates.candidates.items c.is_empty.result is_empty c.if-is_empty.false) in
    let b = subst (IsBranch (LiesInThree fits) (c.args.item ∷ []) (take c.args.place c.args.numbers.now) (get_or c.args.numbers.now c.args.place 0) c.in_ok-set.set.items c.extend_from_slice.new.self.items) first
    (branch_at_it fits law c.args.item c.args.numbers.now c.requires.numbers c.args.place c.requires.place c.in_ok-set.set.items u c.in_ok-candidates.candidates.items after c.in_ok-others.others.items c.extend_from_slice.new.self.items x.0 x.1 before more) in
    let few = few_both c.args.numbers.now c.args.place c.in_ok-candidates.candidates.items c.in_ok-others.others.items c.extend_from_slice.new.self.items c.requires.place after.few before.few more in
    paid_after _ size size 0 size _ _ _ (omega arith) (both_tests c.args.numbers.now c.args.place size _ _ _ c.requires.place h c.in_ok-candidates.ensures.tests c.in_ok-others.ensures.tests)
    (paid_below fits law c.args.item c.args.numbers.now c.requires.numbers c.args.place c.requires.place c.in_ok-set.set.items u c.extend_from_slice.new.self.items c.len-first.result b size 0 _ _ (c.in_err-explore.ensures.paid size (omega arith)))

pub returns-clause-gains : goal.returns-clause-gains
returns-clause-gains g c =
    let fits = g.F.Family.Fits c.args.family.now in
    let law = g.met.F.Family.hereditary c.args.family.now in
    let one : c.as_slice.result.now ≡ c.args.item ∷ [] = search rules in
    let other : c.as_slice-2.result.now ≡ get_or c.args.numbers.now c.args.place 0 ∷ [] = search rules in
    let u = union_there c.args.item (get_or c.args.numbers.now c.args.place 0) c.as_slice.result.now c.as_slice-2.result.now c.in_ok-set.set.items one other c.in_ok-set.ensures in
    let after = behind_there fits c.as_slice-3.result.now c.in_ok-set.set.items c.args.numbers.now c.in_ok-candidates.candidates.items c.args.place c.as_slice-3.ensures.value c.in_ok-candidates.ensures.kept in
    let before : AreFitting fits c.in_ok-set.set.items (take c.args.place c.args.numbers.now) c.in_ok-others.others.items = subst (λ (xs : List ℕ). AreFitting fits xs (take c.args.place c.args.numbers.now) c.in_ok-others.others.items) c.as_slice-4.ensures.value c.in_ok-others.ensures.kept in
    let more : c.extend_from_slice.new.self.items ≡ c.in_ok-others.others.items ++ c.in_ok-candidates.candidates.items = search rules in
    let first : length c.in_ok-others.others.items ≡ c.len-first.result = search rules in
    let len : vec_len c.in_ok-candidates.candidates ≡ length c.in_ok-candidates.candidates.items = search rules in
    let is_empty : c.is_empty.result ≡ nat_eq (length c.in_ok-candidates.candidates.items) 0 = subst (λ (n : ℕ). c.is_empty.result ≡ nat_eq n 0) len c.is_empty.ensures in
    let x = one_left 0 c.in_ok-candidates.candidates.items (some_left c.in_ok-candidates.candidates.items c.is_empty.result is_empty c.if-is_empty.false) in
    let b = subst (IsBranch (LiesInThree fits) (c.args.item ∷ []) (take c.args.place c.args.numbers.now) (get_or c.args.numbers.now c.args.place 0) c.in_ok-set.set.items c.extend_from_slice.new.self.items) first
    (branch_at_it fits law c.args.item c.args.numbers.now c.requires.numbers c.args.place c.requires.place c.in_ok-set.set.items u c.in_ok-candidates.candidates.items after c.in_ok-others.others.items c.extend_from_slice.new.self.items x.0 x.1 before more) in
    gains_below fits law c.args.item c.args.numbers.now c.requires.numbers c.args.place c.requires.place c.in_ok-set.set.items u c.extend_from_slice.new.self.items c.len-first.result b (map (λ set. set.items) c.args.found.now.items) (map (λ set. set.items) c.explore.new.found.items) c.in_ok-explore.ensures.gains

pub returns-clause-paid : goal.returns-clause-paid
returns-clause-paid g c = λ size h.
    let fits = g.F.Family.Fits c.args.family.now in
    let law = g.met.F.Family.hereditary c.args.family.now in
    let one : c.as_slice.result.now ≡ c.args.item ∷ [] = search rules in
    let other : c.as_slice-2.result.now ≡ get_or c.args.numbers.now c.args.place 0 ∷ [] = search rules in
    let u = union_there c.args.item (get_or c.args.numbers.now c.args.place 0) c.as_slice.result.now c.as_slice-2.result.now c.in_ok-set.set.items one other c.in_ok-set.ensures in
    let after = behind_there fits c.as_slice-3.result.now c.in_ok-set.set.items c.args.numbers.now c.in_ok-candidates.candidates.items c.args.place c.as_slice-3.ensures.value c.in_ok-candidates.ensures.kept in
    let before : AreFitting fits c.in_ok-set.set.items (take c.args.place c.args.numbers.now) c.in_ok-others.others.items = subst (λ (xs : List ℕ). AreFitting fits xs (take c.args.place c.args.numbers.now) c.in_ok-others.others.items) c.as_slice-4.ensures.value c.in_ok-others.ensures.kept in
    let more : c.extend_from_slice.new.self.items ≡ c.in_ok-others.others.items ++ c.in_ok-candidates.candidates.items = search rules in
    let first : length c.in_ok-others.others.items ≡ c.len-first.result = search rules in
    let len : vec_len c.in_ok-candidates.candidates ≡ length c.in_ok-candidates.candidates.items = search rules in
    let is_empty : c.is_empty.result ≡ nat_eq (length c.in_ok-candidates.candidates.items) 0 = subst (λ (n : ℕ). c.is_empty.result ≡ nat_eq n 0) len c.is_empty.ensures in
    let x = one_left 0 c.in_ok-candidates.candidates.items (some_left c.in_ok-candidates.candidates.items c.is_empty.result is_empty c.if-is_empty.false) in
    let b = subst (IsBranch (LiesInThree fits) (c.args.item ∷ []) (take c.args.place c.args.numbers.now) (get_or c.args.numbers.now c.args.place 0) c.in_ok-set.set.items c.extend_from_slice.new.self.items) first
    (branch_at_it fits law c.args.item c.args.numbers.now c.requires.numbers c.args.place c.requires.place c.in_ok-set.set.items u c.in_ok-candidates.candidates.items after c.in_ok-others.others.items c.extend_from_slice.new.self.items x.0 x.1 before more) in
    let few = few_both c.args.numbers.now c.args.place c.in_ok-candidates.candidates.items c.in_ok-others.others.items c.extend_from_slice.new.self.items c.requires.place after.few before.few more in
    paid_after _ size size 0 size _ _ _ (omega arith) (both_tests c.args.numbers.now c.args.place size _ _ _ c.requires.place h c.in_ok-candidates.ensures.tests c.in_ok-others.ensures.tests)
    (paid_below fits law c.args.item c.args.numbers.now c.requires.numbers c.args.place c.requires.place c.in_ok-set.set.items u c.extend_from_slice.new.self.items c.len-first.result b size 0 _ _ (c.in_ok-explore.ensures.paid size (omega arith)))
