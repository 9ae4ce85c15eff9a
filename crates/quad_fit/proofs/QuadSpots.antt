-- A quadratic passes spots exactly where it passes each of them.
use Rattle.std.proofs.Common.{◌≡◌, ℕ, ◌+◌, ◌≤◌, ◌<◌, ◌↔◌, Bool, true, false, List, length, take, map, get_or, IsTrue, sym, subst, ap, ◌∙◌, arith}
use Rattle.std.proofs.lemmas.Bool.{false≢true}
use Rattle.std.proofs.lemmas.List.{get_or-map, length-map, take_all}
use Rattle.std.proofs.lemmas.List.Elements.{All-map, All-more}
use Rattle.std.specs.List.{All}
use Rattle.sky_math.specs.Quadratics.{Point}
use Rattle.sky_units.specs.SpotData.{SpotData}

module _ (P : Point → Type 0) (f : SpotData → Point) (spots : List SpotData) where
  pub one_more : (i : ℕ) (spot : SpotData) (b : Bool) → i < length spots → spot ≡ get_or spots i spot → IsTrue b ↔ P (f spot) → b ≡ true → All (λ x. P (f x)) (take i spots) → All (λ x. P (f x)) (take (i + 1) spots)
  one_more i spot b h e told true_is before = All-more (λ x. P (f x)) spots i spot h before (subst (λ x. P (f x)) e (told.0 true_is))

  pub all_seen : (i : ℕ) → length spots ≤ i → All (λ x. P (f x)) (take i spots) → All P (map f spots)
  all_seen i h before = All-map P f spots (subst (All (λ x. P (f x))) (take_all i spots h) before)

  pub not_all : (i : ℕ) (spot : SpotData) (b : Bool) → i < length spots → spot ≡ get_or spots i spot → IsTrue b ↔ P (f spot) → b ≡ false → All P (map f spots) → ⊥
  not_all i spot b h e told false_is all =
      let there : P (get_or (map f spots) i (f spot)) = all i (f spot) (omega (arith, length-map spots f, h)) in
      let is : get_or (map f spots) i (f spot) ≡ f spot = get_or-map f spots i spot (f spot) h ∙ ap f (sym e) in
      let here : P (f spot) = subst P is there in
      false≢true (sym false_is ∙ told.1 here)
