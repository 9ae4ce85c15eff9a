use Rattle.std.proofs.Common.{◌≡◌, take}
use Rattle.kept_tracks.specs.SeveralNights.{all_gone, all_new}
use Rattle.kept_tracks.proofs.exchanging.change_of.Given as goal

abbrev pub invariant-loop-one : goal.invariant-loop-one
invariant-loop-one l = record {
  went : l.went.items ≡ all_gone (take l.one-index l.done);
  came : l.came.items ≡ all_new (take l.one-index l.done);
}
