use Rattle.std.proofs.Common.{take}
use Rattle.window_incr.specs.Asked.{id_at, is_among}
use Rattle.window_incr.proofs.FirstPlaces.{NonePass}
use Rattle.window_incr.proofs.asking.first_repeat.Given as goal

abbrev pub invariant-loop-place : goal.invariant-loop-place
invariant-loop-place l = NonePass (λ place. is_among (take place l.ids) (id_at l.ids place)) l.place
