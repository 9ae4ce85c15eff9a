-- Worked examples of pairs, which compute.
use Rattle.std.proofs.Common.{◌≡◌, ℤ, pos, negsuc, true, false, [], ◌∷◌, refl}
use Rattle.sky_units.specs.SpotData.{SpotData}
use Rattle.sky_units.specs.SettingsData.{standard_settings}
use Rattle.sky_units.specs.Pairs.{keeps_rate, are_pair, pairs_of}

abbrev spot : ℤ → ℤ → ℤ → SpotData
spot epoch ra dec = record { num = 0; epoch = epoch; ra = ra; dec = dec }

-- at half a degree a day, 10,000 ticks allow 5,000 units and no more
keeps_the_rate_at_its_limit : keeps_rate (pos 500000) (pos 10000) (pos 5000) ≡ true
keeps_the_rate_at_its_limit = refl

keeps_the_rate_backwards : keeps_rate (pos 500000) (pos 10000) (negsuc 4999) ≡ true
keeps_the_rate_backwards = refl

passes_the_rate : keeps_rate (pos 500000) (pos 10000) (pos 5001) ≡ false
passes_the_rate = refl

passes_the_rate_backwards : keeps_rate (pos 500000) (pos 10000) (negsuc 5000) ≡ false
passes_the_rate_backwards = refl

-- the gap counts to its end, and equal epochs are no pair
at_the_gap : are_pair standard_settings (spot (pos 59000250000) (pos 10000000) (pos 5000000)) (spot (pos 59000312500) (pos 10000000) (pos 5000000)) ≡ true
at_the_gap = refl

beyond_the_gap : are_pair standard_settings (spot (pos 59000250000) (pos 10000000) (pos 5000000)) (spot (pos 59000312501) (pos 10000000) (pos 5000000)) ≡ false
beyond_the_gap = refl

at_one_epoch : are_pair standard_settings (spot (pos 59000250000) (pos 10000000) (pos 5000000)) (spot (pos 59000250000) (pos 10000000) (pos 5000000)) ≡ false
at_one_epoch = refl

-- the right ascension goes round the circle
across_zero : are_pair standard_settings (spot (pos 59000250000) (pos 359999000) (pos 5000000)) (spot (pos 59000270000) (pos 1000) (pos 5000000)) ≡ true
across_zero = refl

-- four detections of one night, each two of them a pair
one_night : pairs_of standard_settings (
    spot (pos 59000250000) (pos 10000000) (pos 5000000)
    ∷ spot (pos 59000260000) (pos 10001000) (pos 5000000)
    ∷ spot (pos 59000270000) (pos 10002500) (pos 5000000)
    ∷ spot (pos 59000280000) (pos 10003000) (pos 5000000) ∷ []) ≡ (0, 1) ∷ (0, 2) ∷ (0, 3) ∷ (1, 2) ∷ (1, 3) ∷ (2, 3) ∷ []
one_night = refl
