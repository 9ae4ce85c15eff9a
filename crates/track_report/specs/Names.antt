-- The names of refusals. Want of memory is never replied, and has no name.
use Rattle.std.specs.Prelude.{ℕ, List, [], codes}
use Rattle.exposure_log.specs.declared.errors.AddError.{AddError}
use Rattle.exposure_log.specs.declared.errors.AddError.TheVariants as adds
use Rattle.exposure_log.specs.declared.errors.WindowError.{WindowError}
use Rattle.exposure_log.specs.declared.errors.WindowError.TheVariants as windows
use Rattle.miti_text.specs.declared.errors.LineError.{LineError}
use Rattle.miti_text.specs.declared.errors.LineError.TheVariants as lines
use Rattle.script_text.specs.declared.errors.ScriptError.{ScriptError}
use Rattle.script_text.specs.declared.errors.ScriptError.TheVariants as scripts
use Rattle.sky_units.specs.declared.setting_names.SetError.{SetError}
use Rattle.sky_units.specs.declared.setting_names.SetError.TheVariants as settings

abbrev pub line_error_name : LineError → List ℕ
line_error_name lines.Fields = codes "fields"
line_error_name lines.Id = codes "id"
line_error_name lines.Epoch = codes "epoch"
line_error_name lines.Ra = codes "ra"
line_error_name lines.Dec = codes "dec"
line_error_name lines.Mag = codes "mag"
line_error_name lines.Site = codes "site"
line_error_name lines.Name = codes "name"
line_error_name lines.Long = codes "long"
line_error_name lines.Byte = codes "byte"
line_error_name lines.NoMemory = []

abbrev pub script_error_name : ScriptError → List ℕ
script_error_name scripts.Command = codes "command"
script_error_name scripts.Words = codes "words"
script_error_name scripts.Number = codes "number"
script_error_name scripts.NoMemory = []

abbrev pub add_error_name : AddError → List ℕ
add_error_name adds.NoWindow = codes "nowindow"
add_error_name adds.Old = codes "old"
add_error_name adds.New = codes "new"
add_error_name adds.Held = codes "held"
add_error_name (adds.Id place) = codes "id"
add_error_name adds.NightFull = codes "nightfull"
add_error_name adds.Full = codes "full"
add_error_name adds.NoMemory = []

abbrev pub window_error_name : WindowError → List ℕ
window_error_name windows.Order = codes "order"
window_error_name windows.Wide = codes "wide"
window_error_name windows.Back = codes "back"
window_error_name windows.NoMemory = []

abbrev pub set_error_name : SetError → List ℕ
set_error_name settings.Name = codes "name"
set_error_name settings.Range = codes "range"
set_error_name settings.Late = codes "late"
