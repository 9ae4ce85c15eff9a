-- What a script line says.
use Rattle.std.specs.Prelude.{ℕ, List, Result, Ok, Err, ◌==◌, not, nat_lt, length, slice_index, if◌then◌else◌}
use Rattle.std.specs.List.{list_all}
use Rattle.miti_text.specs.Words.{is_blank, words}
use Rattle.miti_text.specs.Observation.{Observation}
use Rattle.miti_text.specs.Lines.{is_text, detection_of}
use Rattle.miti_text.specs.declared.errors.LineError.{LineError}
use Rattle.miti_text.specs.declared.errors.LineError.TheVariants.{Long, Byte}
use Rattle.script_text.specs.Commands.{command_of}
use Rattle.script_text.specs.declared.lines.Line.{Line}
use Rattle.script_text.specs.declared.lines.Line.TheVariants.{Blank, Detection, Bad}
use Rattle.script_text.specs.declared.errors.ScriptError.{ScriptError}

-- a detection line, or one that breaks a rule
abbrev pub detection_line : Result Observation LineError → Result Line ScriptError
detection_line (Ok d) = Ok (Detection d)
detection_line (Err e) = Ok (Bad e)

-- a comment, too long, blank, with a foreign byte, a command, or else a detection line: the first of these
unfoldable pub script_line_of : List ℕ → Result Line ScriptError
script_line_of line =
    if slice_index line 0 == 35 then Ok Blank
    else (if nat_lt 1024 (length line) then Ok (Bad Long)
    else (if list_all is_blank line then Ok Blank
    else (if not (list_all is_text line) then Ok (Bad Byte)
    else (if slice_index line 0 == 33 then command_of (words line)
    else detection_line (detection_of line)))))
