use Rattle.std.specs.Prelude.{nat_eq, slice_index_or, []}
use Rattle.std.specs.Cmp.Lexicographic.{pointwise}
use Rattle.sky_units.specs.Tracks.{numbers_of}
use Rattle.window_incr.specs.Asked.{is_part}
use Rattle.window_incr.proofs.FirstPlaces.{NonePass}
use Rattle.window_incr.proofs.asking.number_of_track.Given as goal

abbrev pub invariant-loop-i : goal.invariant-loop-i
invariant-loop-i l = NonePass (λ place. pointwise nat_eq (numbers_of (slice_index_or l.list place [])) l.numbers) l.i
