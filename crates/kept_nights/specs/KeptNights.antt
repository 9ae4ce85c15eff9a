-- The nights that a linker keeps: one for each night with held exposures.
use Rattle.std.specs.Prelude.{ℤ, pos, ◌+ℤ◌, ◌<ℤ◌, Bool, not, List, [], ◌∷◌, ◌++◌, map}
use Rattle.std.specs.Int.{int_gap}
use Rattle.std.specs.Int.Signed.{lt_z}
use Rattle.std.specs.List.{filter, list_any}
use Rattle.std.specs.Option.{option_map_or}
use Rattle.std.specs.Ordering.{int_eq}
use Rattle.sky_math.specs.Lists.{EachTwo}
use Rattle.sky_math.specs.Night.{night_at}
use Rattle.sky_units.specs.Pairs.{below}
use Rattle.exposure_log.specs.Held.{LogData, spots_of_night}
use Rattle.night_tree.specs.Nights.{NightData, tracklets_of}
use Rattle.kept_nights.specs.LinkerState.{LinkerState}

-- the nights of a window, from its first to its last
abbrev pub nights_in : ℤ × ℤ → List ℤ
nights_in window = map (λ i. window.0 +ℤ pos i) (below (int_gap window.0 (window.1 +ℤ pos 1)))

-- an exposure of the night is held
abbrev pub is_held_night : LogData → ℤ → Bool
is_held_night log night = list_any (λ x. int_eq (night_at log.night_shift x.epoch) night) log.exposures

-- the nights with held exposures, in order of time; there are none without a window
abbrev pub held_nights : LogData → List ℤ
held_nights log = option_map_or (λ window. filter (is_held_night log) (nights_in window)) log.window []

-- a night with the tracklets of its held detections
abbrev pub night_data : LinkerState → ℤ → NightData
night_data s night = record { number = night; tracklets = tracklets_of s.settings (spots_of_night s.log night) }

-- the nights with held exposures, each with exactly the tracklets of its held detections
abbrev pub nights_of : LinkerState → List NightData
nights_of s = map (night_data s) (held_nights s.log)

-- their numbers rise
abbrev pub RiseByNumber : List NightData → Type 0
RiseByNumber nights = EachTwo (λ (one later : NightData). one.number <ℤ later.number) nights

-- the nights with one more, in place of that of its number
abbrev pub with_night : NightData → List NightData → List NightData
with_night night nights = filter (λ (kept : NightData). lt_z kept.number night.number) nights ++ night ∷ filter (λ (kept : NightData). lt_z night.number kept.number) nights

-- the nights without that of a number
abbrev pub without_night : ℤ → List NightData → List NightData
without_night number nights = filter (λ (night : NightData). not (int_eq night.number number)) nights
