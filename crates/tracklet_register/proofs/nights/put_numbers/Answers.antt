use Rattle.std.proofs.Common.{◌≡◌, ℕ, ℤ, List, subst, to_z, of_z, w64}
use Rattle.std.proofs.lemmas.Int.{to_z-of_z}
use Rattle.std.specs.List.{All}
use Rattle.tracklet_register.proofs.Entries.{isnt_there, put_elsewhere, put_here, put_is_there, put_keeps}
use Rattle.tracklet_register.specs.Entries.{IsFirstOf, IsOther}
use Rattle.tracklet_register.specs.Registers.{HasNight}
use Rattle.tracklet_register.specs.declared.nights.NightNumbers.{NightNumbers}
use Rattle.tracklet_register.proofs.nights.put_numbers.Goals as goal

-- the index that was found, in the list as it stands
found : (slice nights : List NightNumbers) (sent number : ℤ) (index : ℕ) → slice ≡ nights → sent ≡ number → IsFirstOf slice sent index → IsFirstOf nights number index
found slice nights sent number index same plain f = subst (λ n. IsFirstOf nights n index) plain (subst (λ (list : List NightNumbers). IsFirstOf list sent index) same f)

pub returns-in-Some-clause-here : goal.returns-in-Some-clause-here
returns-in-Some-clause-here c =
    let plain = to_z-of_z w64 c.args.number c.ranges.number in
    put_here c.args.nights.now.items c.args.number c.in-Some.index _ (found _ _ _ c.args.number c.in-Some.index c.as_slice.ensures.value plain c.in-Some.ensures) plain

pub returns-in-Some-clause-others : goal.returns-in-Some-clause-others
returns-in-Some-clause-others c =
    let plain = to_z-of_z w64 c.args.number c.ranges.number in
    λ night differ. put_elsewhere c.args.nights.now.items c.args.number night c.in-Some.index _ (found _ _ _ c.args.number c.in-Some.index c.as_slice.ensures.value plain c.in-Some.ensures) plain differ

pub returns-in-Some-clause-there : goal.returns-in-Some-clause-there
returns-in-Some-clause-there c =
    let plain = to_z-of_z w64 c.args.number c.ranges.number in
    let first : IsFirstOf c.args.nights.now.items c.args.number c.in-Some.index = found _ _ _ c.args.number c.in-Some.index c.as_slice.ensures.value plain c.in-Some.ensures in
    subst (HasNight _) plain (put_is_there c.args.nights.now.items c.in-Some.index _ first.within)

pub returns-in-Some-clause-entered : goal.returns-in-Some-clause-entered
returns-in-Some-clause-entered c =
    let plain = to_z-of_z w64 c.args.number c.ranges.number in
    λ night there. put_keeps c.args.nights.now.items c.args.number night c.in-Some.index _ (found _ _ _ c.args.number c.in-Some.index c.as_slice.ensures.value plain c.in-Some.ensures) plain there

pub returns-in_default-clause-here : goal.returns-in_default-clause-here
returns-in_default-clause-here c =
    let plain = to_z-of_z w64 c.args.number c.ranges.number in
    let none : All (IsOther c.args.number) c.args.nights.now.items = subst (λ n. All (IsOther n) c.args.nights.now.items) plain (subst (λ (nights : List NightNumbers). All (IsOther (to_z w64 (of_z w64 c.args.number))) nights) c.as_slice.ensures.value c.in_default.ensures) in
    absurd (isnt_there c.args.nights.now.items c.args.number none c.requires)
