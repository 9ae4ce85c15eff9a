use Rattle.std.proofs.Common.{◌≡◌, ℕ, ◌+◌, ◌<◌, List, [], ◌∷◌, ◌++◌, inl, inr, sym, subst, arith, rules}
use Rattle.std.specs.List.{Contains}
use Rattle.std.proofs.lemmas.Bool.{cases_lt}
use Rattle.std.proofs.lemmas.List.Elements.{Contains-append_left, Contains-push}
use Rattle.closed_sets.proofs.tests.numbers_below_ten.Goals as goal

one_more : (numbers new : List ℕ) (number : ℕ) → new ≡ numbers ++ number ∷ [] → ((x : ℕ) → x < number → Contains numbers x) → (x : ℕ) → x < number + 1 → Contains new x
one_more numbers new number e h x less = subst (λ (xs : List ℕ). Contains xs x) (sym e) (elim (cases_lt x number) [
  | inl below ↦ Contains-append_left numbers (number ∷ []) x (h x below)
  | inr above ↦ (let same : number ≡ x = omega arith in subst (Contains (numbers ++ number ∷ [])) same (Contains-push numbers number))
])

pub loop-number-init : goal.loop-number-init
loop-number-init c = λ x less. absurd (omega arith)

pub loop-number-preserved : goal.loop-number-preserved
loop-number-preserved c =
    let pushed : c.push.new.self.items ≡ c.loop-number.numbers.items ++ c.loop-number.number ∷ [] = search rules in
    one_more c.loop-number.numbers.items c.push.new.self.items c.loop-number.number pushed c.loop-number.invariant

pub returns : goal.returns
returns c = λ x less. c.loop-number.invariant x (omega arith)
