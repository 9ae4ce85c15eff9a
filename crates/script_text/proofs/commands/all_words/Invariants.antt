use Rattle.std.proofs.Common.{◌≡◌, ◌++◌, length}
use Rattle.miti_text.specs.Words.{words}
use Rattle.script_text.proofs.commands.all_words.Given as goal

abbrev pub invariant-loop-word : goal.invariant-loop-word
invariant-loop-word l = l.found ++ words l.rest ≡ words l.text

abbrev pub decreases-loop-word : goal.decreases-loop-word
decreases-loop-word l = length (words l.rest)
