-- What is kept lies in its range.
use Rattle.std.proofs.Common.{◌≡◌, ℕ, ◌*◌, ◌^◌, ◌≤◌, Bool, true, false, pos, neg_ℤ, arith, refl, ap, if◌then◌else◌}
use Rattle.std.specs.Ordering.{int_eq}
use Rattle.std.proofs.lemmas.Int.{ints}
use Rattle.std.proofs.lemmas.Bool.Decides.{Decides-int_eq, not_from_Decides}
use Rattle.sky_units.specs.Ranges.{IsBetween, IsRightAscension}
use Rattle.miti_text.specs.Numerals.{signed}
use Rattle.miti_text.specs.Quantities.{places, limit, kept, IsKept}
use Rattle.miti_text.specs.declared.quantities.Quantity.{Quantity}
use Rattle.miti_text.specs.declared.quantities.Quantity.TheVariants.{Epoch, RightAscension, Declination, Magnitude}

between : (is_negative : Bool) (below above u : ℕ) → u ≤ (if is_negative then below else above) → IsBetween (neg_ℤ (pos below)) (pos above) (signed is_negative u)
between true below above u within = record { from = omega (arith, ints); to = omega (arith, ints) }
between false below above u within = record { from = omega (arith, ints); to = omega (arith, ints) }

below_turn : (u : ℕ) (x : Bool) → int_eq (pos u) (pos 360000000) ≡ x → u ≤ 360000000 → IsRightAscension (if int_eq (pos u) (pos 360000000) then pos 0 else pos u)
below_turn u true e within = rw e (record { from = omega (arith, ints); to = omega (arith, ints) })
below_turn u false e within =
    let differ : (u ≡ 360000000) → ⊥ = λ same. not_from_Decides (int_eq (pos u) (pos 360000000)) (Decides-int_eq (pos u) (pos 360000000)) e (ap pos same) in
    rw e (record { from = omega (arith, ints); to = omega (arith, ints, differ) })

pub in_range : (quantity : Quantity) (is_negative : Bool) (u : ℕ) → u ≤ limit quantity is_negative * 10 ^ places quantity → IsKept quantity (kept quantity (signed is_negative u))
in_range Epoch true u within = between true 0 200000000000 u within
in_range Epoch false u within = between false 0 200000000000 u within
in_range RightAscension true u within = let none : u ≡ 0 = omega arith in rw none (record { from = omega (arith, ints); to = omega (arith, ints) })
in_range RightAscension false u within = below_turn u (int_eq (pos u) (pos 360000000)) refl within
in_range Declination true u within = between true 90000000 90000000 u within
in_range Declination false u within = between false 90000000 90000000 u within
in_range Magnitude true u within = between true 1000000 1000000 u within
in_range Magnitude false u within = between false 1000000 1000000 u within
