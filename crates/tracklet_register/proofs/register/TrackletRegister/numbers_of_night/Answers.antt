use Rattle.std.proofs.Common.{◌≡◌, ◌↔◌, ℕ, ℤ, List, subst, ap, ◌∙◌, w64}
use Rattle.std.proofs.lemmas.Int.{to_z-of_z}
use Rattle.std.specs.List.{Contains}
use Rattle.tracklet_register.proofs.Exchanged.{without}
use Rattle.tracklet_register.proofs.Replaced.{one_night}
use Rattle.tracklet_register.specs.Registers.{LeadsToPlaces, RegisterData, numbers_of}
use Rattle.tracklet_register.specs.declared.nights.NightNumbers.{NightNumbers}
use Rattle.tracklet_register.proofs.register.TrackletRegister.numbers_of_night.Goals as goal

-- the numbers in order are those of the night
are_own : (slice nights : List NightNumbers) (sent night : ℤ) (lent copied sorted : List ℕ) → slice ≡ nights → sent ≡ night → lent ≡ numbers_of slice sent → copied ≡ lent → ((number : ℕ) → Contains sorted number ↔ Contains copied number)
    → (number : ℕ) → Contains sorted number ↔ Contains (numbers_of nights night) number
are_own slice nights sent night lent copied sorted view plain own same exactly number =
    subst (λ (list : List ℕ). Contains sorted number ↔ Contains list number) (same ∙ (own ∙ (ap (λ (list : List NightNumbers). numbers_of list sent) view ∙ ap (numbers_of nights) plain))) (exactly number)

pub returns-clause-exactly : goal.returns-clause-exactly
returns-clause-exactly c =
    are_own c.as_slice.result.now c.args.self.now.nights _ c.args.night c.numbers_of.result.now c.in_ok-numbers.numbers.items c.in_order.result.items (c.as_slice.ensures.value ∙ ap (λ (r : RegisterData). r.nights) c.self.view_is) (to_z-of_z w64 c.args.night c.ranges.night) c.numbers_of.ensures c.in_ok-numbers.ensures.items c.in_order.ensures.exactly

pub returns-clause-apart : goal.returns-clause-apart
returns-clause-apart c =
    let own = are_own c.as_slice.result.now c.args.self.now.nights _ c.args.night c.numbers_of.result.now c.in_ok-numbers.numbers.items c.in_order.result.items (c.as_slice.ensures.value ∙ ap (λ (r : RegisterData). r.nights) c.self.view_is) (to_z-of_z w64 c.args.night c.ranges.night) c.numbers_of.ensures c.in_ok-numbers.ensures.items c.in_order.ensures.exactly in
    let leads : LeadsToPlaces c.self.inside.table.items c.args.self.now.nights = subst (λ (r : RegisterData). LeadsToPlaces c.self.inside.table.items r.nights) c.self.view_is c.self.invariant.leads in
    λ other number differ d there. differ (one_night c.self.inside.table.items c.args.self.now.nights other c.args.night number leads there ((own number).0 d))

pub returns-clause-exchanged : goal.returns-clause-exchanged
returns-clause-exchanged c =
    let own = are_own c.as_slice.result.now c.args.self.now.nights _ c.args.night c.numbers_of.result.now c.in_ok-numbers.numbers.items c.in_order.result.items (c.as_slice.ensures.value ∙ ap (λ (r : RegisterData). r.nights) c.self.view_is) (to_z-of_z w64 c.args.night c.ranges.night) c.numbers_of.ensures c.in_ok-numbers.ensures.items c.in_order.ensures.exactly in
    let leads : LeadsToPlaces c.self.inside.table.items c.args.self.now.nights = subst (λ (r : RegisterData). LeadsToPlaces c.self.inside.table.items r.nights) c.self.view_is c.self.invariant.leads in
    without c.self.inside.table.items c.args.self.now.nights c.args.night c.in_order.result.items leads own
