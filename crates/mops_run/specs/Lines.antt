-- What a line of the input is to the program.
use Rattle.std.specs.Prelude.{◌≡◌, ℕ, ◌<◌, ◌^◌, ◌++◌, List, [], ◌∷◌, length, Option, Some, None, Result, Ok, Err}
use Rattle.miti_text.specs.Observation.{Observation}
use Rattle.script_text.specs.Script.{script_line_of}
use Rattle.script_text.specs.declared.lines.Line.{Line}
use Rattle.script_text.specs.declared.lines.Line.TheVariants as lines
use Rattle.script_text.specs.declared.errors.ScriptError.{ScriptError}
use Rattle.sky_units.specs.Limits.{IsNear}
use Rattle.mops_run.specs.declared.lines.Said.{Said}
use Rattle.mops_run.specs.declared.lines.Said.TheVariants.{Nothing, Waits, Refused, Asks, Malformed}
use Rattle.mops_run.specs.declared.lines.Command.{Command}
use Rattle.mops_run.specs.declared.lines.Command.TheVariants as commands

-- nothing, a detection that waits for its delivery, a refused line, a command, or a malformed command
abbrev pub said_of : Result Line ScriptError → Said
said_of (Ok lines.Blank) = Nothing
said_of (Ok (lines.Detection d)) = Waits d
said_of (Ok (lines.Bad error)) = Refused error
said_of (Ok (lines.Set name value)) = Asks (commands.Set name value)
said_of (Ok (lines.Window lo hi)) = Asks (commands.Window lo hi)
said_of (Ok (lines.Tracklets night)) = Asks (commands.Tracklets night)
said_of (Ok lines.Report) = Asks commands.Report
said_of (Ok (lines.Ask ids)) = Asks (commands.Ask ids)
said_of (Ok lines.Stats) = Asks commands.Stats
said_of (Err error) = Malformed error

-- what a line of these bytes is
abbrev pub said_by : List ℕ → Said
said_by line = said_of (script_line_of line)

-- what a line says is left to be answered; or it was a detection, which has joined those that wait
abbrev pub IsLeft : Said → List Observation → List Observation → Option Said → Type 0
IsLeft said old new None = (d : Observation) × (said ≡ Waits d) × (new ≡ old ++ d ∷ [])
IsLeft said old new (Some left) = (left ≡ said) × (new ≡ old)

-- the nights of a window's command are near, as its numbers have at most eighteen digits, and asked ids are few, as a line is short
abbrev pub IsNearCommand : Command → Type 0
IsNearCommand (commands.Set name value) = Unit {0}
IsNearCommand (commands.Window lo hi) = IsNear (lo, hi)
IsNearCommand (commands.Tracklets night) = Unit {0}
IsNearCommand commands.Report = Unit {0}
IsNearCommand (commands.Ask ids) = length ids < 2 ^ 32
IsNearCommand commands.Stats = Unit {0}

abbrev pub IsNearLine : Said → Type 0
IsNearLine (Asks command) = IsNearCommand command
IsNearLine Nothing = Unit {0}
IsNearLine (Waits d) = Unit {0}
IsNearLine (Refused error) = Unit {0}
IsNearLine (Malformed error) = Unit {0}
