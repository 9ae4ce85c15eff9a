-- The purge of a group, which is a list of places of spots: while they lie on no line, the spot that lies farthest from the least-squares lines is dropped.
use Rattle.std.specs.Prelude.{if◌then◌else◌, ℕ, List, [], ◌∷◌, Option, Some, None, length, map, max, nat_lt, remove}
use Rattle.std.specs.Int.RustNames.{unsigned_abs}
use Rattle.std.specs.List.{list_all}
use Rattle.sky_units.specs.AtPlaces.{spots_at}
use Rattle.sky_units.specs.Motion.{point_from, points}
use Rattle.sky_units.specs.SettingsData.{SettingsData}
use Rattle.sky_units.specs.SpotData.{SpotData}
use Rattle.sky_units.specs.declared.axis.Axis.{Axis}
use Rattle.sky_units.specs.declared.axis.Axis.TheVariants.{Ra, Dec}
use Rattle.line_fit.specs.Lines.{lies_on_line}
use Rattle.purge.specs.LeastSquares.{line_over, residual}
use Prim.Native.Nat.{zero, suc}

-- how far a spot lies from the least-squares line of an axis, times a number that is the same for all spots and both axes
abbrev pub distance : Axis → List SpotData → SpotData → SpotData → ℕ
distance axis spots first spot = unsigned_abs (residual (line_over (points axis spots)) (point_from axis first spot))

-- the greater of the distances on the two axes
abbrev pub deviation : List SpotData → SpotData → SpotData → ℕ
deviation spots first spot = max (distance Ra spots first spot) (distance Dec spots first spot)

-- the deviation of each spot
abbrev pub deviations : List SpotData → List ℕ
deviations [] = []
deviations (first ∷ rest) = map (deviation (first ∷ rest) first) (first ∷ rest)

-- where the greatest number stands, the last one of several: a number with less ones alone behind it is the greatest of them
abbrev pub last_greatest : List ℕ → ℕ
last_greatest [] = 0
last_greatest (x ∷ rest) = if list_all (λ y. nat_lt y x) rest then 0 else suc (last_greatest rest)

-- the place of the worst spot: that of the greatest deviation, the latest one of several
abbrev pub worst : List SpotData → ℕ
worst spots = last_greatest (deviations spots)

-- what is left of at most n places of spots: nothing where they are fewer than two, all where their spots lie on a line, else what is left without
-- the worst one
abbrev pub purged : SettingsData → ℕ → List SpotData → List ℕ → Option (List ℕ)
purged settings zero spots places = None
purged settings (suc n) spots places =
    if nat_lt (length places) 2 then None
    else (if lies_on_line settings.purge_tol settings.rate_ra settings.rate_dec (spots_at spots places) then Some places else purged settings n spots (remove places (worst (spots_at spots places))))

-- the places that are left of a group
abbrev pub purge_of : SettingsData → List SpotData → List ℕ → Option (List ℕ)
purge_of settings spots group = purged settings (length group) spots group
