use Rattle.std.proofs.Common.{◌≡◌, take}
use Rattle.std.specs.List.{All}
use Rattle.sky_units.specs.TrackletData.{TrackletData}
use Rattle.tracklet_register.proofs.tests.is_new.Given as goal

abbrev pub invariant-loop-other : goal.invariant-loop-other
invariant-loop-other l = All (λ (other : TrackletData). ¬ (other ≡ l.tracklet)) (take l.other-index l.tracklets)
