-- Worked examples: the first draws of the sky of 1, its first object, and its two lines, by computing.
use Rattle.std.specs.Prelude.{◌≡◌, [], ◌∷◌, ◌++◌, codes, pos, neg_ℤ, refl, map}
use Rattle.std.specs.Fmt.{digits}
use Rattle.miti_text.specs.Written.{line_of}
use Rattle.made_sky.specs.Draws.{drawn, share, after_draws}
use Rattle.made_sky.specs.Motions.{motion_from, motion_of, sighted, state_before}
use Rattle.made_sky.specs.Sightings.{sighting, sightings}
use Rattle.made_sky.specs.MadeSky.{made_text}

first_states : map (λ n. after_draws n (state_before 1 0)) (1 ∷ 2 ∷ 3 ∷ 4 ∷ 5 ∷ 6 ∷ [])
    ≡ 1103527590 ∷ 377401575 ∷ 662824084 ∷ 1147902781 ∷ 2035015474 ∷ 368800899 ∷ []
unfolding drawn
first_states = refl

first_object : motion_of 1 0
    ≡ record { ra = pos 138700; dec = neg_ℤ (pos 3242587); ra_rate = neg_ℤ (pos 114809); dec_rate = pos 6907; ra_acceleration = pos 8953; dec_acceleration = neg_ℤ (pos 6566) }
unfolding motion_from drawn share
first_object = refl

one_object : made_text (record { number = 1; nights = 1; objects = 1 })
    ≡ codes "g0n0e0 59000.250000 0.138700 -3.242587 20.000 500 obj0\n" ++ codes "g0n0e1 59000.270000 0.136404 -3.242451 20.000 500 obj0\n"
unfolding motion_from drawn share sighted line_of digits
one_object = refl

-- nights first, then exposures, then objects
order : sightings 2 2
    ≡ sighting 0 0 0 ∷ sighting 0 0 1 ∷ sighting 0 1 0 ∷ sighting 0 1 1 ∷ sighting 1 0 0 ∷ sighting 1 0 1 ∷ sighting 1 1 0 ∷ sighting 1 1 1 ∷ []
order = refl
