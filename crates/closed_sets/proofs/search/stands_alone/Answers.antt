use Rattle.std.proofs.Common.{◌≡◌, ℕ, Bool, IsTrue, true, List, [], ◌∷◌, nat_eq, length, refl, sym, ◌∙◌, ◌↔◌, subst}
use Rattle.std.specs.List.{Contains}
use Rattle.std.proofs.lemmas.Bool.{eqb-true}
use Rattle.closed_sets.specs.Around.{FitTogether}
use Rattle.closed_sets.proofs.Lists.{empty, in_front, in_none}
use Rattle.closed_sets.proofs.search.stands_alone.Goals as goal

-- what fits with all excluded numbers stands alone where there are none
none_excluded : (Fits : List ℕ → Type 0) (excluded largest : List ℕ) (alone : Bool) → alone ≡ nat_eq (length excluded) 0 → ((x : ℕ) → Contains excluded x → FitTogether Fits (x ∷ largest)) → IsTrue alone ↔ ((x : ℕ) → Contains excluded x → ¬ FitTogether Fits (x ∷ largest))
none_excluded Fits excluded largest alone e fit = (
  λ t x c k. in_none x (subst (λ (xs : List ℕ). Contains xs x) (empty excluded (eqb-true (length excluded) 0 (sym e ∙ t))) c),
  λ h. e ∙ by excluded fit h,
)
  where
    by : (excluded : List ℕ) → ((x : ℕ) → Contains excluded x → FitTogether Fits (x ∷ largest)) → ((x : ℕ) → Contains excluded x → ¬ FitTogether Fits (x ∷ largest)) → nat_eq (length excluded) 0 ≡ true
    by [] fit h = refl
    by (x ∷ xs) fit h = absurd (h x (in_front x xs) (fit x (in_front x xs)))

pub returns-then-is_empty-clause-alone : goal.returns-then-is_empty-clause-alone
returns-then-is_empty-clause-alone g c =
    let none : c.args.candidates.now ≡ [] = empty c.args.candidates.now (eqb-true (length c.args.candidates.now) 0 (sym c.is_empty.ensures ∙ c.if-is_empty.true)) in
    none_excluded (g.F.Family.Fits c.args.family.now) c.args.excluded.now c.args.largest.now c.is_empty-then-is_empty.result c.is_empty-then-is_empty.ensures (c.requires none)
