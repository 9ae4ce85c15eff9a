use Rattle.tracklet_register.proofs.Labels.{AreFound}
use Rattle.tracklet_register.proofs.matching.places_of.Given as goal

abbrev pub invariant-loop-place : goal.invariant-loop-place
invariant-loop-place l = AreFound l.tracklets l.places.entries l.place
