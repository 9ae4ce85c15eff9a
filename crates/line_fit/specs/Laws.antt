-- What the comparison of slopes tells of lines.
use Rattle.std.specs.Prelude.{ℤ, pos, ◌≤ℤ◌, ◌↔◌, IsTrue, List}
use Rattle.sky_units.specs.Pairs.{EpochsDontFall}
use Rattle.sky_units.specs.SpotData.{SpotData}
use Rattle.line_fit.specs.Lines.{AreOnLine, lies_on_line}

-- the slopes tell exactly whether there is a line
abbrev pub SlopesTellLines : Type 0
SlopesTellLines = (tol rate_ra rate_dec : ℤ) (spots : List SpotData) → pos 0 ≤ℤ tol → EpochsDontFall spots → IsTrue (lies_on_line tol rate_ra rate_dec spots) ↔ AreOnLine tol rate_ra rate_dec spots
