-- Nights that come one after another.
use Rattle.std.proofs.Common.{◌≡◌, ◌++◌, ◌∷◌, [], ℤ, ◌<ℤ◌, List, get_or, ap₂, arith}
use Rattle.std.proofs.lemmas.Int.{ints}
use Rattle.std.specs.Int.Signed.{lt_z}
use Rattle.std.specs.List.{All}
use Rattle.exposure_log.proofs.Searching.{filter_all, filter_none}
use Rattle.kept_nights.specs.KeptNights.{with_night}
use Rattle.night_tree.specs.Nights.{NightData}

-- a later night stands behind the others
pub put_behind : (nights : List NightData) (night : NightData) (number : ℤ) → night.number ≡ number → All (λ (kept : NightData). kept.number <ℤ number) nights → with_night night nights ≡ nights ++ night ∷ []
put_behind nights night number is below = ap₂ (λ (front behind : List NightData). front ++ night ∷ behind)
    (filter_all (λ (kept : NightData). lt_z kept.number night.number) nights (λ k d l. let before : (get_or nights k d).number <ℤ number = below k d l in grind (arith, ints)))
    (filter_none (λ (kept : NightData). lt_z night.number kept.number) nights (λ k d l. let before : (get_or nights k d).number <ℤ number = below k d l in grind (arith, ints)))
