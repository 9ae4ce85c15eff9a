use Rattle.std.proofs.Common.{List, sym, subst}
use Rattle.set_grow.specs.declared.places.Place.{Place}
use Rattle.tracklet_register.proofs.Exchanged.{leads_to_each}
use Rattle.tracklet_register.specs.Registers.{LeadsToPlaces, RegisterData}
use Rattle.tracklet_register.proofs.register.TrackletRegister.table.Goals as goal

pub returns-clause-nights : goal.returns-clause-nights
returns-clause-nights c =
    let leads : LeadsToPlaces c.as_slice.result.now c.args.self.now.nights = subst (λ (table : List Place). LeadsToPlaces table c.args.self.now.nights) (sym c.as_slice.ensures.value) (subst (λ (r : RegisterData). LeadsToPlaces c.self.inside.table.items r.nights) c.self.view_is c.self.invariant.leads) in
    λ nights. leads_to_each c.as_slice.result.now c.args.self.now.nights nights leads
