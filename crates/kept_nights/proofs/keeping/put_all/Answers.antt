use Rattle.std.proofs.Common.{length, sym, ap, ◌∙◌, arith}
use Rattle.std.proofs.lemmas.List.{length_push}
use Rattle.kept_nights.specs.Renewed.{with_nights}
use Rattle.kept_nights.proofs.Renewal.{none_left, put_last}
use Rattle.kept_nights.proofs.WithNight.{still_rise}
use Rattle.kept_nights.proofs.keeping.put_all.Goals as goal

pub put-requires-clause-rising : goal.put-requires-clause-rising
put-requires-clause-rising c = c.loop-night.invariant.rising

pub put-requires-clause-room : goal.put-requires-clause-room
put-requires-clause-room c =
    let fewer = ap length c.in-Some.ensures.items in
    omega (arith, fewer, length_push c.pop.new.self.items c.in-Some.night, c.loop-night.invariant.room)

pub loop-night-preserved : goal.loop-night-preserved
loop-night-preserved c =
    let popped = c.in-Some.ensures.items in
    let fewer = ap length popped in
    rw c.put.ensures.put record {
      put = sym (put_last c.pop.new.self.items c.loop-night.nights.items c.in-Some.night) ∙ (ap (λ nights. with_nights nights c.loop-night.nights.items) (sym popped) ∙ c.loop-night.invariant.put);
      rising = still_rise c.in-Some.night c.loop-night.nights.items c.loop-night.invariant.rising;
      room = omega (arith, c.put.ensures.len, c.put.ensures.capacity, fewer, length_push c.pop.new.self.items c.in-Some.night, c.loop-night.invariant.room);
    }

pub returns : goal.returns
returns c = none_left c.loop-night.rest.items c.loop-night.nights.items _ (omega (arith, c.in_default.ensures.cases, c.loop-night.rest.ok.0)) c.loop-night.invariant.put
