use Rattle.kept_tracks.proofs.Copied.{copied}
use Rattle.kept_tracks.proofs.tracks.copies_at.Goals as goal

pub copy_at-requires : goal.copy_at-requires
copy_at-requires c = c.requires c.loop-seat.seat-index (record { night = 0; place = 0 }) c.loop-seat-test.true

pub loop-seat-preserved : goal.loop-seat-preserved
loop-seat-preserved c = copied c.args.nights.now c.args.seats.now c.loop-seat.seat-index (record { night = 0; place = 0 }) _ _ _ c.loop-seat-test.true c.in_ok-copy_at.ensures c.in_ok-push.ensures.items c.loop-seat.invariant
