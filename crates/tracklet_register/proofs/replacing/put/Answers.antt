use Rattle.std.proofs.Common.{◌≡◌, ℕ, Some, List, subst, ap, ◌∙◌, w64}
use Rattle.std.proofs.lemmas.Int.{to_z-of_z}
use Rattle.std.specs.List.{Contains, slice_get}
use Rattle.tracklet_register.proofs.Marks.{place_at}
use Rattle.tracklet_register.proofs.Replaced.{leads_put}
use Rattle.tracklet_register.specs.Registers.{numbers_of}
use Rattle.tracklet_register.proofs.replacing.put.Goals as goal

pub write_places-requires-clause-within : goal.write_places-requires-clause-within
write_places-requires-clause-within c = λ number d. c.requires.within number (subst (λ (list : List ℕ). Contains list number) c.as_slice.ensures.value d)

pub returns-clause-leads : goal.returns-clause-leads
returns-clause-leads c =
    let plain = to_z-of_z w64 c.args.night c.ranges.night in
    leads_put c.args.table.now.items c.write_places.new.table.items c.args.nights.now.items c.put_numbers.new.nights.items c.args.night c.args.numbers.items c.requires.leads
    (subst (λ n. numbers_of c.put_numbers.new.nights.items n ≡ c.args.numbers.items) plain c.put_numbers.ensures.here)
    (λ other differ. c.put_numbers.ensures.others other (λ e. differ (e ∙ plain)))
    (λ place number e. c.write_places.ensures.leads place number (ap (λ (list : List ℕ). slice_get list place) c.as_slice.ensures.value ∙ e) ∙ ap (λ n. Some (place_at n place)) plain)
    (λ number n. c.write_places.ensures.others number (λ d. n (subst (λ (list : List ℕ). Contains list number) c.as_slice.ensures.value d)))
    c.requires.apart
