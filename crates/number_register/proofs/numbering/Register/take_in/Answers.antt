use Rattle.std.proofs.Common.{◌≡◌, ◌≤◌, ℕ, List, Some, length, arith, sym, ◌∙◌, ap, Option}
use Rattle.miti_text.specs.Observation.{Observation}
use Rattle.number_register.specs.Numbering.{slot, put_at, IsLeastFree}
use Rattle.number_register.specs.IdNumbers.{AreNumbers}
use Rattle.number_register.proofs.Slots.{slot-put, count-put}
use Rattle.number_register.proofs.Ids.{with_new, alike}
use Rattle.number_register.proofs.numbering.Register.take_in.Goals as goal

-- what a register was is what its slots are
same_slots : (inside now : List (Option Observation)) (n : ℕ) (d : Observation) → inside ≡ now → slot inside n ≡ Some d → slot now n ≡ Some d
same_slots inside now n d e h = rw (← e) h

pub put-requires-clause-room : goal.put-requires-clause-room
put-requires-clause-room c = λ h. c.in_ok-make_room.ensures.room (sym c.in_ok-make_room.ensures.same ∙ h)

pub invariant_of-self-in_err-enter : goal.invariant_of-self-in_err-enter
invariant_of-self-in_err-enter c =
    let items : c.make_room.new.slots.items ≡ c.self.inside.slots.items = c.in_ok-make_room.ensures.items in
    let numbers = alike c.self.inside.slots.items c.self.inside.ids.by_hash.entries c.enter.new.self.by_hash.entries c.self.inside.ids.by_id.entries c.in_err-enter.ensures.err.0 c.self.invariant.0 in (
      rw (items, c.in_err-enter.ensures.err.1) numbers,
      rw (items, c.in_ok-make_room.ensures.same) c.self.invariant.1,
      omega (arith, ap length items, c.make_room.new.slots.ok.0, c.self.inside.slots.ok.0, c.self.invariant.2, c.in_ok-make_room.ensures.kept),
    )

pub invariant_of-self-2 : goal.invariant_of-self-2
invariant_of-self-2 c =
    let items : c.make_room.new.slots.items ≡ c.self.inside.slots.items = c.in_ok-make_room.ensures.items in
    let put : c.put.new.slots.items ≡ put_at c.self.inside.slots.items c.least_free-number.result (Some c.args.detection) = rw items at c.put.ensures.items in
    let read : c.as_slice.result.now ≡ c.self.inside.slots.items = c.as_slice.ensures.value ∙ items in
    let least : IsLeastFree (slot c.self.inside.slots.items) c.least_free-number.result = rw read at c.least_free-number.ensures.least in
    let within : c.least_free-number.result ≤ length c.self.inside.slots.items = rw read at c.least_free-number.ensures.within in
    let named : c.bytes.result.now ≡ c.args.detection.id = c.bytes.ensures ∙ ap (λ (x : Observation). x.id) c.detection.view_is in
    let entered = rw named at c.in_ok-enter.ensures.ok in
    let numbers : AreNumbers (put_at c.self.inside.slots.items c.least_free-number.result (Some c.args.detection)) c.enter.new.self.by_hash.entries c.enter.new.self.by_id.entries =
    with_new c.self.inside.slots.items c.least_free-number.result c.args.detection c.self.inside.ids.by_hash.entries c.self.inside.ids.by_id.entries c.self.invariant.0 within least.is_free
    (λ k e held. c.requires.fresh k e (same_slots c.self.inside.slots.items c.args.self.now k e c.self.view_is held)) c.enter.new.self.by_hash.entries c.enter.new.self.by_id.entries entered in
    (rw put numbers, c.put.ensures.free, omega (arith, c.put.ensures.len, c.put.ensures.capacity, c.in_ok-make_room.ensures.free_room))

pub returns-clause-ok : goal.returns-clause-ok
returns-clause-ok c =
    let items : c.make_room.new.slots.items ≡ c.args.self.now = c.in_ok-make_room.ensures.items ∙ c.self.view_is in
    let put : c.put.new.slots.items ≡ put_at c.args.self.now c.least_free-number.result (Some c.args.detection) = rw items at c.put.ensures.items in
    let read : c.as_slice.result.now ≡ c.args.self.now = c.as_slice.ensures.value ∙ items in
    let least : IsLeastFree (slot c.args.self.now) c.least_free-number.result = rw read at c.least_free-number.ensures.least in
    let within : c.least_free-number.result ≤ length c.args.self.now = rw read at c.least_free-number.ensures.within in
    rw put (least, (λ i k. slot-put c.args.self.now c.least_free-number.result (Some c.args.detection) within k i), count-put c.args.self.now c.least_free-number.result c.args.detection least.is_free within)
