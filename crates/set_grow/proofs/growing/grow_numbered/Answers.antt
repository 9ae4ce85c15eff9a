use Rattle.std.proofs.Common.{◌≡◌, ℕ, List, Vec, Global, length, map, subst}
use Rattle.std.specs.List.{Contains}
use Rattle.sky_units.specs.SettingsData.{SettingsData}
use Rattle.set_grow.specs.Costs.{HasAllWithOne, IsBounded, IsPaidByBoth}
use Rattle.set_grow.specs.Growing.{AreGrown, IsSetOf}
use Rattle.set_grow.specs.Nights.{NumberedNightData}
use Rattle.set_grow.specs.declared.places.Place.{Place}
use Rattle.set_grow.proofs.PaidBoth.{both_bounded, bounded_as, bounded_none}
use Rattle.set_grow.specs.SkyData.{SkyData}
use Rattle.set_grow.proofs.Gathering.{grown_all, grown_same}
use Rattle.set_grow.proofs.SkyFits.{sky_of}
use Rattle.set_grow.proofs.growing.grow_numbered.Goals as goal

pub returns-clause-sets : goal.returns-clause-sets
returns-clause-sets c =
    let sets : List (List ℕ) = map (λ (set : Vec ℕ Global). set.items) c.in_ok-found.found.items in
    let found : AreGrown c.in_ok-sky.sky c.in_ok-items.items.items sets = subst (λ (list : List ℕ). AreGrown c.in_ok-sky.sky list sets) c.as_slice.ensures.value c.in_ok-found.ensures.sets in
    let same : AreGrown (sky_of c.args.settings.now c.args.nights.now c.args.table.now) c.in_ok-items.items.items sets = subst (λ (s : SkyData). AreGrown s c.in_ok-items.items.items sets) c.in_ok-sky.ensures found in
    let grown : AreGrown (sky_of c.args.settings.now c.args.nights.now c.args.table.now) c.args.added.now sets = grown_same (sky_of c.args.settings.now c.args.nights.now c.args.table.now) c.in_ok-items.items.items c.args.added.now sets c.in_ok-items.ensures.exactly same in
    grown_all c.args.settings.now c.args.nights.now c.args.table.now c.args.added.now sets _ c.requires.place grown c.in_order.ensures.in_order c.in_order.ensures.exactly

found_by : (settings : SettingsData) (nights : List NumberedNightData) (table : List Place) (sky : SkyData) (items slice added : List ℕ) (before after : ℕ) → sky ≡ sky_of settings nights table → slice ≡ items → IsSetOf added items →
    ((numbers : List ℕ) → HasAllWithOne sky slice numbers → IsPaidByBoth sky slice (length numbers) before after) → IsBounded (sky_of settings nights table) added before after
found_by settings nights table sky items slice added before after is same set paid =
    subst (λ (s : SkyData). IsBounded s added before after) is
    (bounded_as sky slice added before after (λ x k. (set.exactly x).0 (subst (λ list. Contains list x) same k)) (both_bounded sky slice before after paid))

pub returns-clause-tests : goal.returns-clause-tests
returns-clause-tests c = found_by c.args.settings.now c.args.nights.now c.args.table.now c.in_ok-sky.sky c.in_ok-items.items.items c.as_slice.result.now c.args.added.now c.args.tally.now.tests c.closed_sets_of.new.tally.tests c.in_ok-sky.ensures c.as_slice.ensures.value c.in_ok-items.ensures c.closed_sets_of.ensures.paid

pub returns-in_err-found-clause-tests : goal.returns-in_err-found-clause-tests
returns-in_err-found-clause-tests c = found_by c.args.settings.now c.args.nights.now c.args.table.now c.in_ok-sky.sky c.in_ok-items.items.items c.as_slice.result.now c.args.added.now c.args.tally.now.tests c.closed_sets_of.new.tally.tests c.in_ok-sky.ensures c.as_slice.ensures.value c.in_ok-items.ensures c.closed_sets_of.ensures.paid

pub returns-in_err-sky-clause-tests : goal.returns-in_err-sky-clause-tests
returns-in_err-sky-clause-tests c = bounded_none (sky_of c.args.settings.now c.args.nights.now c.args.table.now) c.args.added.now c.args.tally.now.tests

pub returns-in_err-items-clause-tests : goal.returns-in_err-items-clause-tests
returns-in_err-items-clause-tests c = bounded_none (sky_of c.args.settings.now c.args.nights.now c.args.table.now) c.args.added.now c.args.tally.now.tests
