use Rattle.std.proofs.Common.{arith}
use Rattle.collapse.proofs.Together.{found_at, put_at}
use Rattle.collapse.proofs.uniting.with_place.Goals as goal
use Rattle.collapse.proofs.uniting.with_place.Goals.{else-at-places-via-then-at-places+else-places-at, else-at-places-via-else-at-places}

pub returns-then-places-at : goal.returns-then-places-at
returns-then-places-at c = rw c.in_ok-union.ensures.items (found_at c.args.places.now c.args.place c.first_from-at.result c.if-at-places.true c.first_from-at.ensures.before c.if-places-at.true)

pub returns : goal.returns
returns c = rw (c.in_ok-insert.ensures.items, c.in_ok-union.ensures.items) (put_at c.args.places.now c.args.place c.first_from-at.result c.first_from-at.ensures.within c.first_from-at.ensures.before (λ h. elim c.else-at-places.branch [
  | else-at-places-via-then-at-places+else-places-at w ↦ let a = c.first_from-at.ensures.after h in let n = w.if-places-at.false in omega arith
  | else-at-places-via-else-at-places w ↦ let n = w.if-at-places.false in absurd (omega arith)
]))
