-- The numbers and the tracklets of a night, where it has as many of the one as of the other.
use Rattle.std.proofs.Common.{◌≡◌, ℕ, List, [], ◌∷◌, length, refl, ap, arith}
use Rattle.sky_units.specs.TrackletData.{TrackletData, NightTracklets}
use Rattle.set_grow.specs.Nights.{numbered_by}
use Rattle.set_grow.specs.Numbered.{numbers_in, without_numbers}

pub numbers_are : (numbers : List ℕ) (tracklets : NightTracklets) → length numbers ≡ length tracklets → numbers_in (numbered_by numbers tracklets) ≡ numbers
numbers_are [] tracklets e = refl
numbers_are (n ∷ numbers) [] e = absurd (omega (arith, e))
numbers_are (n ∷ numbers) (t ∷ tracklets) e = ap (λ (rest : List ℕ). n ∷ rest) (numbers_are numbers tracklets (omega (arith, e)))

pub tracklets_are : (numbers : List ℕ) (tracklets : NightTracklets) → length numbers ≡ length tracklets → without_numbers (numbered_by numbers tracklets) ≡ tracklets
tracklets_are [] [] e = refl
tracklets_are [] (t ∷ tracklets) e = absurd (omega (arith, e))
tracklets_are (n ∷ numbers) [] e = absurd (omega (arith, e))
tracklets_are (n ∷ numbers) (t ∷ tracklets) e = ap (λ (rest : List TrackletData). t ∷ rest) (tracklets_are numbers tracklets (omega (arith, e)))
