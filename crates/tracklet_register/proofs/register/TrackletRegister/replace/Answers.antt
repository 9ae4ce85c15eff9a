use Rattle.std.proofs.Common.{◌≡◌, ℕ, ◌≤◌, ℤ, ◌↔◌, Bool, List, length, sym, subst, ap, ◌∙◌, w64, arith}
use Rattle.std.proofs.lemmas.Int.{to_z-of_z}
use Rattle.std.specs.List.{Contains}
use Rattle.night_tree.specs.Nights.{NightData}
use Rattle.set_grow.specs.Nights.{numbered_by}
use Rattle.sky_units.specs.TrackletData.{NightTracklets}
use Rattle.tracklet_register.proofs.Exchanged.{exchanged}
use Rattle.tracklet_register.proofs.Replaced.{AreSteps, alike, are_apart, can_return, each_once, have_room, is_replaced, leads_alike, register_after}
use Rattle.tracklet_register.specs.Exchanges.{AreExchanged}
use Rattle.tracklet_register.specs.Registers.{DifferAt, HasNight, RegisterData, is_taken, numbers_of, with_numbers}
use Rattle.tracklet_register.specs.Replacing.{AreDifferent, AreRenewed, IsReplaced}
use Rattle.tracklet_register.specs.declared.nights.NightNumbers.{NightNumbers}
use Rattle.tracklet_register.proofs.register.TrackletRegister.replace.Goals as goal

-- the numbers that are lent are those of the night
pub are_numbers : (lent : List ℕ) (slice nights : List NightNumbers) (sent night : ℤ) → lent ≡ numbers_of slice sent → slice ≡ nights → sent ≡ night → lent ≡ numbers_of nights night
are_numbers lent slice nights sent night is same plain = is ∙ (ap (λ (list : List NightNumbers). numbers_of list sent) same ∙ ap (numbers_of nights) plain)

pub prepare-requires-clause-once : goal.prepare-requires-clause-once
prepare-requires-clause-once c =
    let is = are_numbers _ _ c.self.inside.nights.items _ c.args.night c.numbers_of-numbers.ensures c.as_slice.ensures.value (to_z-of_z w64 c.args.night c.ranges.night) in
    subst AreDifferent (sym is) (each_once c.self.inside.table.items c.self.inside.nights.items c.args.night c.self.invariant.leads)

pub prepare-requires-clause-held : goal.prepare-requires-clause-held
prepare-requires-clause-held c =
    let is = are_numbers _ _ c.self.inside.nights.items _ c.args.night c.numbers_of-numbers.ensures c.as_slice.ensures.value (to_z-of_z w64 c.args.night c.ranges.night) in
    λ number d. ap (λ (taken : List Bool). is_taken taken number) c.as_slice-2.ensures.value ∙ c.self.invariant.held c.args.night number (subst (λ (list : List ℕ). Contains list number) is d)

pub invariant_of-self : goal.invariant_of-self
invariant_of-self c = alike c.self.inside.nights.items c.make_room.new.nights.items c.self.inside.table.items c.make_room.new.table.items c.self.inside.taken.items c.make_room.new.taken.items c.self.invariant c.make_room.ensures.nights c.make_room.ensures.table c.make_room.ensures.taken c.make_room.ensures.longer

pub put-requires-clause-leads : goal.put-requires-clause-leads
put-requires-clause-leads c = leads_alike c.self.inside.table.items c.make_room.new.table.items c.self.inside.nights.items c.make_room.new.nights.items c.self.invariant.leads c.make_room.ensures.table c.make_room.ensures.nights

-- what was prepared for the numbers that were lent was prepared for those of the night
renewed_is : (lent numbers : List ℕ) (slice taken : List Bool) (before after : NightTracklets) (now came : List ℕ) (end : ℕ) → lent ≡ numbers → slice ≡ taken
    → AreRenewed (numbered_by lent before) slice after now came end → AreRenewed (numbered_by numbers before) taken after now came end
renewed_is lent numbers slice taken before after now came end is same r =
    subst (λ (marks : List Bool). AreRenewed (numbered_by numbers before) marks after now came end) same (subst (λ (list : List ℕ). AreRenewed (numbered_by list before) slice after now came end) is r)

pub put-requires-clause-within : goal.put-requires-clause-within
put-requires-clause-within c =
    let is = are_numbers _ _ c.self.inside.nights.items _ c.args.night c.numbers_of-numbers.ensures c.as_slice.ensures.value (to_z-of_z w64 c.args.night c.ranges.night) in
    let renewed = renewed_is _ _ _ _ c.args.before.now c.args.after.now _ _ _ is c.as_slice-2.ensures.value c.in_ok-prepared.ensures.renewed in
    have_room c.self.inside.nights.items c.self.inside.table.items c.make_room.new.table.items c.self.inside.taken.items c.args.night c.args.before.now c.args.after.now _ _ c.in_ok-prepared.prepared.end c.self.invariant renewed c.make_room.ensures.longer c.in_ok-make_room.ensures.room.0

pub put-requires-clause-apart : goal.put-requires-clause-apart
put-requires-clause-apart c =
    let plain = to_z-of_z w64 c.args.night c.ranges.night in
    let is = are_numbers _ _ c.self.inside.nights.items _ c.args.night c.numbers_of-numbers.ensures c.as_slice.ensures.value plain in
    let renewed = renewed_is _ _ _ _ c.args.before.now c.args.after.now _ _ _ is c.as_slice-2.ensures.value c.in_ok-prepared.ensures.renewed in
    λ other number differ d. are_apart c.self.inside.nights.items c.self.inside.table.items c.self.inside.taken.items c.args.night c.args.before.now c.args.after.now _ _ c.in_ok-prepared.prepared.end c.self.invariant renewed other number (λ e. differ (e ∙ sym plain))
    (subst (λ (list : List ℕ). Contains list number) (c.make_room.ensures.nights other) d)

-- the steps that were made
steps : (c : goal.After-mark) → AreSteps c.self.inside.nights.items c.put.new.nights.items c.self.inside.table.items c.put.new.table.items c.self.inside.taken.items c.mark.new.taken.items c.args.night c.args.before.now c.args.after.now c.in_ok-prepared.prepared.numbers.items c.in_ok-prepared.prepared.exchange.came.items c.in_ok-prepared.prepared.end
steps c =
    let plain = to_z-of_z w64 c.args.night c.ranges.night in
    let is = are_numbers _ _ c.self.inside.nights.items _ c.args.night c.numbers_of-numbers.ensures c.as_slice.ensures.value plain in
    let renewed = renewed_is _ _ _ _ c.args.before.now c.args.after.now _ _ _ is c.as_slice-2.ensures.value c.in_ok-prepared.ensures.renewed in
    record {
      register = c.self.invariant;
      size = subst (λ (r : RegisterData). length (numbers_of r.nights c.args.night) ≡ length c.args.before.now) (sym c.self.view_is) c.requires.size;
      renewed = renewed;
      few = c.in_ok-prepared.ensures.few;
      here = subst (λ n. numbers_of c.put.new.nights.items n ≡ c.in_ok-prepared.prepared.numbers.items) plain c.put.ensures.here;
      others = λ other differ. c.put.ensures.others other (λ e. differ (e ∙ plain)) ∙ c.make_room.ensures.nights other;
      there = subst (HasNight c.put.new.nights.items) plain c.put.ensures.there;
      leads = c.put.ensures.leads;
      long = subst (λ n. length c.self.inside.table.items ≤ n) (sym c.put.ensures.len) c.make_room.ensures.longer;
      room = subst (λ n. c.in_ok-prepared.prepared.end ≤ n) (sym c.put.ensures.len) c.in_ok-make_room.ensures.room.0;
      listed = λ number d.
          let below = renewed.below number d in
          let room = c.in_ok-make_room.ensures.room.1 in
          c.mark.ensures.listed number (subst (λ (list : List ℕ). Contains list number) (sym c.as_slice-3.ensures.value) d) (omega (arith, below, room));
      unlisted = λ number n. c.mark.ensures.others number (λ d. n (subst (λ (list : List ℕ). Contains list number) c.as_slice-3.ensures.value d)) ∙ c.make_room.ensures.taken number;
    }

-- the numbers that went are those of the night that are no longer
lost : (c : goal.After-mark) → (number : ℕ) → Contains c.in_ok-prepared.prepared.exchange.went.items number ↔ (Contains (numbers_of c.self.inside.nights.items c.args.night) number × ¬ (Contains c.in_ok-prepared.prepared.numbers.items number))
lost c =
    let is = are_numbers _ _ c.self.inside.nights.items _ c.args.night c.numbers_of-numbers.ensures c.as_slice.ensures.value (to_z-of_z w64 c.args.night c.ranges.night) in
    subst (λ (list : List ℕ). (number : ℕ) → Contains c.in_ok-prepared.prepared.exchange.went.items number ↔ (Contains list number × ¬ (Contains c.in_ok-prepared.prepared.numbers.items number))) is c.in_ok-prepared.ensures.went

replaced : (c : goal.After-mark) → IsReplaced (record { nights = c.self.inside.nights.items; taken = c.self.inside.taken.items }) (record { nights = c.put.new.nights.items; taken = c.mark.new.taken.items }) c.args.night c.args.before.now c.args.after.now c.in_ok-prepared.prepared.exchange.went.items c.in_ok-prepared.prepared.exchange.came.items
replaced c = is_replaced _ _ _ _ _ _ _ _ _ _ _ _ (steps c) c.in_ok-prepared.prepared.exchange.went.items (lost c)

pub invariant_of-self-2 : goal.invariant_of-self-2
invariant_of-self-2 c = register_after _ _ _ _ _ _ _ _ _ _ _ _ (steps c)

pub returns-clause-replaced : goal.returns-clause-replaced
returns-clause-replaced c =
    subst (λ (r : RegisterData). IsReplaced r (record { nights = c.put.new.nights.items; taken = c.mark.new.taken.items }) c.args.night c.args.before.now c.args.after.now c.in_ok-prepared.prepared.exchange.went.items c.in_ok-prepared.prepared.exchange.came.items) c.self.view_is (replaced c)

pub returns-clause-back : goal.returns-clause-back
returns-clause-back c =
    let is = are_numbers _ _ c.self.inside.nights.items _ c.args.night c.numbers_of-numbers.ensures c.as_slice.ensures.value (to_z-of_z w64 c.args.night c.ranges.night) in
    can_return _ _ _ _ _ _ _ _ _ _ _ _ (steps c) c.in_ok-prepared.prepared.exchange.before.items (c.in_ok-prepared.ensures.before ∙ is)

pub returns-clause-exchanged : goal.returns-clause-exchanged
returns-clause-exchanged c =
    subst (λ (r : RegisterData). (old new : List NightData) → DifferAt c.args.night c.args.before.now c.args.after.now old new → AreExchanged c.in_ok-prepared.prepared.exchange.went.items c.in_ok-prepared.prepared.exchange.came.items (with_numbers r.nights old) (with_numbers c.put.new.nights.items new)) c.self.view_is
    (exchanged c.self.inside.nights.items c.put.new.nights.items c.self.inside.table.items c.self.inside.taken.items c.mark.new.taken.items c.args.night c.args.before.now c.args.after.now c.in_ok-prepared.prepared.exchange.went.items c.in_ok-prepared.prepared.exchange.came.items c.self.invariant (replaced c))
