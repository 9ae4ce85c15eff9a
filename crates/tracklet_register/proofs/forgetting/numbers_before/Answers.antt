use Rattle.std.proofs.Common.{◌↔◌, ◌⊎◌, ℕ, ◌<ℤ◌, List, get_or, take, sym, subst, w64, to_z, of_z, SFits, rules}
use Rattle.std.proofs.lemmas.Int.{to_z-of_z}
use Rattle.std.proofs.lemmas.List.{take_all, take_more}
use Rattle.std.specs.List.{Contains}
use Rattle.tracklet_register.proofs.Entries.{IsOfEntry, of_entry_all, of_entry_more, of_entry_none}
use Rattle.tracklet_register.specs.Registers.{numbers_of}
use Rattle.tracklet_register.specs.declared.nights.NightNumbers.{NightNumbers}
use Rattle.tracklet_register.proofs.forgetting.numbers_before.Goals as goal

pub loop-index-init : goal.loop-index-init
loop-index-init c = of_entry_none c.args.nights.now _ c.new-numbers.result.items c.new-numbers.ensures.items

pub loop-index-preserved : goal.loop-index-preserved
loop-index-preserved c =
    let first = to_z w64 (of_z w64 c.args.first) in
    let entry : NightNumbers = get_or c.args.nights.now c.loop-index.index c.index-nights-index.result in
    let next = take_more c.args.nights.now c.loop-index.index c.index-nights-index.result c.loop-index-test.true in
    let fits : SFits w64 c.index-nights-index.result.number = search rules in
    let entry_fits : SFits w64 entry.number = subst (λ (night : NightNumbers). SFits w64 night.number) c.index-nights-index.is fits in
    let pushed : (number : ℕ) → Contains c.push_before.new.numbers.items number ↔ (Contains c.loop-index.numbers.items number ⊎ ((entry.number <ℤ first) × Contains (numbers_of c.args.nights.now entry.number) number)) =
    subst (λ n. (number : ℕ) → Contains c.push_before.new.numbers.items number ↔ (Contains c.loop-index.numbers.items number ⊎ ((n <ℤ first) × Contains (numbers_of c.args.nights.now n) number))) (to_z-of_z w64 entry.number entry_fits) c.in_ok-push_before.ensures in
    subst (λ (entries : List NightNumbers). (number : ℕ) → Contains c.push_before.new.numbers.items number ↔ IsOfEntry c.args.nights.now first entries number) (sym next)
    (of_entry_more c.args.nights.now first (take c.loop-index.index c.args.nights.now) entry c.loop-index.numbers.items c.push_before.new.numbers.items c.loop-index.invariant pushed)

pub returns : goal.returns
returns c =
    let all = take_all c.loop-index.index c.args.nights.now c.loop-index-test.false in
    of_entry_all c.args.nights.now c.args.first c.loop-index.numbers.items
    (subst (λ n. (number : ℕ) → Contains c.loop-index.numbers.items number ↔ IsOfEntry c.args.nights.now n c.args.nights.now number) (to_z-of_z w64 c.args.first c.ranges.first)
    (subst (λ (entries : List NightNumbers). (number : ℕ) → Contains c.loop-index.numbers.items number ↔ IsOfEntry c.args.nights.now (to_z w64 (of_z w64 c.args.first)) entries number) all c.loop-index.invariant))
