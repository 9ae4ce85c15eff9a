-- The words behind `ask`.
use Rattle.std.specs.Prelude.{ℕ, List, [], ◌∷◌, ◌++◌, codes, decimal, map, slice_get, Option, Some, None}
use Rattle.std.specs.Fmt.{signed_decimal}
use Rattle.std.specs.Option.{option_map_or}
use Rattle.sky_units.specs.declared.ask_errors.AskError.{AskError}
use Rattle.sky_units.specs.declared.ask_errors.AskError.TheVariants.{Unknown, Twice, NoMemory}
use Rattle.sky_units.specs.declared.asked.Asked.{Asked}
use Rattle.sky_units.specs.declared.asked.Asked.TheVariants.{Listed, Inside, NotTracklet, FewNights, Spread, Misfit}
use Rattle.sky_units.specs.declared.axis.Axis.{Axis}
use Rattle.sky_units.specs.declared.axis.Axis.TheVariants.{Ra, Dec}
use Rattle.sky_units.specs.declared.certificates.Cert.{Cert}
use Rattle.sky_units.specs.declared.certificates.Cert.TheVariants.{Three, Four}

-- the id at a place of the asked list
abbrev pub id_at : List (List ℕ) → ℕ → List ℕ
id_at ids place = option_map_or (λ id. id) (slice_get ids place) []

abbrev pub axis_name : Axis → List ℕ
axis_name Ra = codes "ra"
axis_name Dec = codes "dec"

-- a certificate: how many ids it has, and these; none is 0
abbrev pub cert_words : List (List ℕ) → Option Cert → List (List ℕ)
cert_words ids None = codes "0" ∷ []
cert_words ids (Some (Three places)) = codes "3" ∷ map (id_at ids) places
cert_words ids (Some (Four places)) = codes "4" ∷ map (id_at ids) places

-- what asked detections are
abbrev pub asked_words : List (List ℕ) → Asked → List (List ℕ)
asked_words ids (Listed k) = codes "listed" ∷ decimal k ∷ []
asked_words ids (Inside k) = codes "inside" ∷ decimal k ∷ []
asked_words ids (NotTracklet night) = codes "untracked" ∷ signed_decimal night ∷ []
asked_words ids (FewNights n) = codes "nights" ∷ decimal n ∷ []
asked_words ids (Spread axis a b) = codes "spread" ∷ axis_name axis ∷ id_at ids a ∷ id_at ids b ∷ []
asked_words ids (Misfit ra dec) = codes "misfit" ∷ codes "ra" ∷ (cert_words ids ra ++ codes "dec" ∷ cert_words ids dec)

-- why asked ids have no answer: the name of the error, and the id
abbrev pub ask_error_words : List (List ℕ) → AskError → List (List ℕ)
ask_error_words ids (Unknown place) = codes "unknown" ∷ id_at ids place ∷ []
ask_error_words ids (Twice place) = codes "twice" ∷ id_at ids place ∷ []
ask_error_words ids NoMemory = []
