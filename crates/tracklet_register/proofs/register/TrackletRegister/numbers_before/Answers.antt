use Rattle.std.proofs.Common.{◌≡◌, ◌↔◌, ℕ, ℤ, ◌<ℤ◌, List, subst, ap, ◌∙◌, w64}
use Rattle.std.proofs.lemmas.Int.{to_z-of_z}
use Rattle.std.specs.List.{Contains}
use Rattle.tracklet_register.proofs.Exchanged.{cut}
use Rattle.tracklet_register.proofs.Replaced.{one_night}
use Rattle.tracklet_register.specs.Registers.{IsBefore, LeadsToPlaces, RegisterData}
use Rattle.tracklet_register.specs.declared.nights.NightNumbers.{NightNumbers}
use Rattle.tracklet_register.proofs.register.TrackletRegister.numbers_before.Goals as goal

-- the numbers in order are those that were found, in the nights as they stand
are_before : (slice nights : List NightNumbers) (sent first : ℤ) (found sorted : List ℕ) → slice ≡ nights → sent ≡ first → ((number : ℕ) → Contains found number ↔ IsBefore slice sent number) → ((number : ℕ) → Contains sorted number ↔ Contains found number)
    → (number : ℕ) → Contains sorted number ↔ IsBefore nights first number
are_before slice nights sent first found sorted same plain before exactly number =
    let there = subst (λ n. Contains found number ↔ IsBefore nights n number) plain (subst (λ (list : List NightNumbers). Contains found number ↔ IsBefore list sent number) same (before number)) in
    (λ c. there.0 ((exactly number).0 c), λ w. (exactly number).1 (there.1 w))

pub returns-clause-exactly : goal.returns-clause-exactly
returns-clause-exactly c =
    are_before c.as_slice.result.now c.args.self.now.nights _ c.args.first c.in_ok-numbers.numbers.items c.in_order.result.items (c.as_slice.ensures.value ∙ ap (λ (r : RegisterData). r.nights) c.self.view_is) (to_z-of_z w64 c.args.first c.ranges.first) c.in_ok-numbers.ensures c.in_order.ensures.exactly

pub returns-clause-apart : goal.returns-clause-apart
returns-clause-apart c =
    let before = are_before c.as_slice.result.now c.args.self.now.nights _ c.args.first c.in_ok-numbers.numbers.items c.in_order.result.items (c.as_slice.ensures.value ∙ ap (λ (r : RegisterData). r.nights) c.self.view_is) (to_z-of_z w64 c.args.first c.ranges.first) c.in_ok-numbers.ensures c.in_order.ensures.exactly in
    let leads : LeadsToPlaces c.self.inside.table.items c.args.self.now.nights = subst (λ (r : RegisterData). LeadsToPlaces c.self.inside.table.items r.nights) c.self.view_is c.self.invariant.leads in
    λ night number late d there.
    let w = (before number).0 d in
    late (subst (λ n. n <ℤ c.args.first) (one_night c.self.inside.table.items c.args.self.now.nights w.0 night number leads w.2 there) w.1)

pub returns-clause-exchanged : goal.returns-clause-exchanged
returns-clause-exchanged c =
    let before = are_before c.as_slice.result.now c.args.self.now.nights _ c.args.first c.in_ok-numbers.numbers.items c.in_order.result.items (c.as_slice.ensures.value ∙ ap (λ (r : RegisterData). r.nights) c.self.view_is) (to_z-of_z w64 c.args.first c.ranges.first) c.in_ok-numbers.ensures c.in_order.ensures.exactly in
    let leads : LeadsToPlaces c.self.inside.table.items c.args.self.now.nights = subst (λ (r : RegisterData). LeadsToPlaces c.self.inside.table.items r.nights) c.self.view_is c.self.invariant.leads in
    cut c.self.inside.table.items c.args.self.now.nights c.args.first c.in_order.result.items leads before
