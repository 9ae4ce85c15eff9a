use Rattle.std.proofs.Common.{take, get_or, sym, subst}
use Rattle.std.proofs.lemmas.List.{take_more}
use Rattle.std.proofs.lemmas.List.Elements.{Contains-get_or}
use Rattle.set_grow.specs.Seats.{AreSeatsOf}
use Rattle.set_grow.proofs.Seating.{none_again, none_unseated, seats_more}
use Rattle.set_grow.proofs.seats.seats_of.Goals as goal

pub returns-in_default : goal.returns-in_default
returns-in_default c = λ tracklets. none_unseated c.args.nights.now c.args.numbers.now (get_or c.args.numbers.now c.loop-number.number-index 0) tracklets (Contains-get_or c.args.numbers.now c.loop-number.number-index 0 c.loop-number-test.true) c.in_default.ensures

pub returns-then-not-branch : goal.returns-then-not-branch
returns-then-not-branch c =
    let w = rw c.if-not-branch.true at c.in_ok-put_seat.ensures in
    none_again c.args.nights.now c.args.table.now c.args.numbers.now c.loop-number.number-index 0 c.in-Some.seat w.0 c.loop-number.seats.items c.requires.place c.requires.set c.loop-number-test.true c.loop-number.invariant c.in-Some.ensures w.1 w.2

pub loop-number-preserved : goal.loop-number-preserved
loop-number-preserved c =
    let w = rw c.if-not-branch.false at c.in_ok-put_seat.ensures in
    let more = seats_more c.args.nights.now (take c.loop-number.number-index c.args.numbers.now) (get_or c.args.numbers.now c.loop-number.number-index 0) c.in-Some.seat c.loop-number.seats.items c.put_seat.new.seats.items c.loop-number.invariant c.in-Some.ensures w.0 w.1 in
    subst (λ list. AreSeatsOf c.args.nights.now list c.put_seat.new.seats.items) (sym (take_more c.args.numbers.now c.loop-number.number-index 0 c.loop-number-test.true)) more
