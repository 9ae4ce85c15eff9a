use Rattle.std.proofs.Common.{◌≡◌, map}
use Rattle.std.specs.List.{range_with_len}
use Rattle.made_sky.specs.Motions.{motion_of, state_before}
use Rattle.made_sky.proofs.sky.Sky.new.Given as goal

abbrev pub invariant-loop : goal.invariant-loop
invariant-loop l =
    (l.draws ≡ state_before l.fn.number l.counter)
    × (l.motions.items ≡ map (motion_of l.fn.number) (range_with_len 0 l.counter))
