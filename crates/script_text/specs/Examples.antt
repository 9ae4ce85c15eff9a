-- Worked examples: what script lines say, by computing.
use Rattle.std.specs.Prelude.{◌≡◌, ℕ, List, [], ◌∷◌, ◌++◌, codes, replicate, Ok, Err, pos, neg_ℤ, refl, Result}
use Rattle.miti_text.specs.Words.{words}
use Rattle.miti_text.specs.Numerals.{number_of}
use Rattle.miti_text.specs.Quantities.{quantity_of}
use Rattle.miti_text.specs.Lines.{detection_of, fields_of}
use Rattle.miti_text.specs.declared.errors.LineError.TheVariants as causes
use Rattle.script_text.specs.Commands.{command_of}
use Rattle.script_text.specs.Script.{script_line_of}
use Rattle.script_text.specs.declared.lines.Line.{Line}
use Rattle.script_text.specs.declared.lines.Line.TheVariants as lines
use Rattle.script_text.specs.declared.errors.ScriptError.{ScriptError}
use Rattle.script_text.specs.declared.errors.ScriptError.TheVariants as errors

abbrev read : List ℕ → Result Line ScriptError
read = script_line_of

-- a line feed ends a line before it comes here; a carriage return is dropped only before one
comments_and_blanks : (read [] ≡ Ok lines.Blank) × (read (codes "#") ≡ Ok lines.Blank) × (read (35 ∷ replicate 2000 200) ≡ Ok lines.Blank)
    × (read (32 ∷ 9 ∷ 32 ∷ []) ≡ Ok lines.Blank) × (read (replicate 1024 32) ≡ Ok lines.Blank) × (read (replicate 1025 32) ≡ Ok (lines.Bad causes.Long))
    × (read (13 ∷ []) ≡ Ok (lines.Bad causes.Byte)) × (read (codes " #") ≡ Ok (lines.Bad causes.Fields))
unfolding script_line_of detection_of words
comments_and_blanks = (refl, refl, refl, refl, refl, refl, refl, refl)

refused_lines : (read (replicate 1025 120) ≡ Ok (lines.Bad causes.Long)) × (read (codes "a 59001.25 10 5 20") ≡ Ok (lines.Bad causes.Fields))
    × (read (codes "a 59001.25 360.0000001 5 20 568 o") ≡ Ok (lines.Bad causes.Ra)) × (read (codes "a 59001.25 10 90.000001 20 568 o") ≡ Ok (lines.Bad causes.Dec))
    × (read (codes "a 59001.25 359.9999999 5 20 568 o")
    ≡ Ok (lines.Detection (record { id = codes "a"; epoch = pos 59001250000; ra = pos 0; dec = pos 5000000; mag = pos 20000; site = codes "568"; name = codes "o" })))
unfolding script_line_of detection_of fields_of quantity_of words
refused_lines = (refl, refl, refl, refl, refl)

commands : (read (codes "!set tol_ra 300") ≡ Ok (lines.Set (codes "tol_ra") (pos 300))) × (read (codes "!set any! -07") ≡ Ok (lines.Set (codes "any!") (neg_ℤ (pos 7))))
    × (read (codes "!window 59000 59015") ≡ Ok (lines.Window (pos 59000) (pos 59015))) × (read (codes "!window  -1 0 ") ≡ Ok (lines.Window (neg_ℤ (pos 1)) (pos 0)))
    × (read (codes "!tracklets 59001") ≡ Ok (lines.Tracklets (pos 59001))) × (read (codes "!report") ≡ Ok lines.Report) × (read (codes "!stats " ++ 9 ∷ []) ≡ Ok lines.Stats)
    × (read (codes "!ask a1 !b #") ≡ Ok (lines.Ask (codes "a1" ∷ codes "!b" ∷ codes "#" ∷ [])))
unfolding script_line_of command_of number_of words
commands = (refl, refl, refl, refl, refl, refl, refl, refl)

malformed_commands : (read (codes "!foo") ≡ Err errors.Command) × (read (codes "!report now") ≡ Err errors.Words) × (read (codes "!window a 5") ≡ Err errors.Number)
    × (read (codes "!set tol_ra 1.5") ≡ Err errors.Number) × (read (codes "!") ≡ Err errors.Command) × (read (codes "! report") ≡ Err errors.Command)
    × (read (codes "!Report") ≡ Err errors.Command) × (read (codes "!reports") ≡ Err errors.Command) × (read (codes "!set") ≡ Err errors.Words)
    × (read (codes "!set a") ≡ Err errors.Words) × (read (codes "!set a 1 2") ≡ Err errors.Words) × (read (codes "!window x") ≡ Err errors.Words)
    × (read (codes "!tracklets") ≡ Err errors.Words) × (read (codes "!tracklets +5") ≡ Err errors.Number)
    × (read (codes "!tracklets 0000000000000000001") ≡ Err errors.Number) × (read (codes "!stats -") ≡ Err errors.Words) × (read (codes "!ask ") ≡ Err errors.Words)
unfolding script_line_of command_of number_of words
malformed_commands = (refl, refl, refl, refl, refl, refl, refl, refl, refl, refl, refl, refl, refl, refl, refl, refl, refl)

-- a command with a foreign byte, and one that is too long, are bad lines; one behind a blank is a detection line
no_commands : (read (codes "!report" ++ 13 ∷ []) ≡ Ok (lines.Bad causes.Byte)) × (read (33 ∷ 127 ∷ []) ≡ Ok (lines.Bad causes.Byte))
    × (read (codes "!report" ++ replicate 1018 32) ≡ Ok (lines.Bad causes.Long)) × (read (codes "!report" ++ replicate 1017 32) ≡ Ok lines.Report)
    × (read (codes " !report") ≡ Ok (lines.Bad causes.Fields)) × (read (codes " !a 59001.25 10 5 20 568 o") ≡ Ok (lines.Bad causes.Id))
unfolding script_line_of command_of detection_of fields_of words
no_commands = (refl, refl, refl, refl, refl, refl)
