use Rattle.std.proofs.Common.{◌≡◌, ◌≤◌, ◌++◌}
use Rattle.miti_text.specs.Written.{last_digits}
use Rattle.miti_text.proofs.writing.add_digits.Given as goal

abbrev pub invariant-loop-left : goal.invariant-loop-left
invariant-loop-left l =
    (l.left ≤ 6)
    × (l.text.items ++ last_digits l.left l.number ≡ l.initial.text.items ++ last_digits l.places l.number)

abbrev pub decreases-loop-left : goal.decreases-loop-left
decreases-loop-left l = l.left
