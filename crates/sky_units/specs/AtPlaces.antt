-- Spots by their places: a place is an index, from 0.
use Rattle.std.specs.Prelude.{ℕ, List, slice_get}
use Rattle.std.specs.List.{filter_map}
use Rattle.sky_units.specs.SpotData.{SpotData}

-- the spots at some places
abbrev pub spots_at : List SpotData → List ℕ → List SpotData
spots_at spots places = filter_map (slice_get spots) places
