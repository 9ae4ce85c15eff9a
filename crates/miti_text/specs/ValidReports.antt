-- When a report is valid.
use Rattle.std.specs.Prelude.{◌≡◌, ◌≤◌, ◌*◌, ℤ, IfSome, None, [], length, IsTrue}
use Rattle.std.specs.List.{All}
use Rattle.sky_units.specs.Limits.{most_nights, IsWindow, IsNear}
use Rattle.sky_units.specs.QuadData.{QuadData, IsQuad}
use Rattle.sky_units.specs.Ranges.{IsDeclination, IsEpoch, IsRightAscension}
use Rattle.sky_units.specs.declared.reports.Track.{Track}
use Rattle.sky_units.specs.declared.reports.Report.{Report}
use Rattle.miti_text.specs.Observation.{is_id}

-- a window of no more nights than it may have, which are near
pub record IsValidWindow (window : ℤ × ℤ) : Type 0 where
  pub nights : IsWindow window
  pub near : IsNear window

-- a quadratic whose base is a position of its axis, whose start is an epoch, and whose numbers keep their bounds
pub record IsValidQuad (IsPosition : ℤ → Type 0) (quad : QuadData) : Type 0 where
  pub base : IsPosition quad.base
  pub start : IsEpoch quad.start
  pub numbers : IsQuad quad.den quad.p quad.v quad.q

-- a track of three nights or more, but no more than a window has, with two or more ids for each, all of which keep the rule of ids
pub record IsValidTrack (track : Track) : Type 0 where
  pub three : 3 ≤ track.nights
  pub few : track.nights ≤ most_nights
  pub two_each : 2 * track.nights ≤ length track.ids
  pub ids : All (λ id. IsTrue (is_id id)) track.ids
  pub ra : IsValidQuad IsRightAscension track.ra
  pub dec : IsValidQuad IsDeclination track.dec

-- a valid window with valid tracks; without a window there is no track
pub record IsValidReport (report : Report) : Type 0 where
  pub window : IfSome report.window IsValidWindow
  pub no_tracks : report.window ≡ None → report.tracks ≡ []
  pub tracks : All IsValidTrack report.tracks
