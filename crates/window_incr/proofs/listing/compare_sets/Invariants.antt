use Rattle.std.proofs.Common.{◌≡◌, ◌++◌, length}
use Rattle.std.specs.Cmp.Lexicographic.{slice_cmp}
use Rattle.std.specs.Option.{option_cmp}
use Rattle.miti_text.specs.CanonicalOrder.{canonical_cmp}
use Rattle.sky_units.specs.TrackletData.{spots_of}
use Rattle.window_incr.specs.Answers.{held_of, set_cmp}
use Rattle.window_incr.proofs.listing.compare_sets.Given as goal

abbrev pub invariant-loop-spot : goal.invariant-loop-spot
invariant-loop-spot l =
    set_cmp l.log l.one l.other
    ≡ slice_cmp (option_cmp canonical_cmp) (held_of l.log (l.left.spots.now ++ spots_of l.left.tracklets.now)) (held_of l.log (l.right.spots.now ++ spots_of l.right.tracklets.now))

abbrev pub decreases-loop-spot : goal.decreases-loop-spot
decreases-loop-spot l = length (l.left.spots.now ++ spots_of l.left.tracklets.now)
