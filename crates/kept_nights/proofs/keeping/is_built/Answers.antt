use Rattle.std.proofs.Common.{◌≡◌, ℤ, Some, None, sym, subst, w64}
use Rattle.std.proofs.lemmas.Bool.Decides.{Decides-int_eq}
use Rattle.std.proofs.lemmas.Int.{to_z-of_z}
use Rattle.std.specs.List.{find}
use Rattle.std.specs.Ordering.{int_eq}
use Rattle.night_tree.specs.Nights.{NightData}
use Rattle.plain_tracks.proofs.Members.{found_in, none_in}
use Rattle.kept_nights.proofs.keeping.is_built.Goals as goal

pub returns-in-Some : goal.returns-in-Some
returns-in-Some c =
    let found : Some c.in-Some.field-0.now ≡ find (λ (night : NightData). int_eq night.number c.args.number) c.args.nights.now =
    subst (λ (n : ℤ). Some c.in-Some.field-0.now ≡ find (λ (night : NightData). int_eq night.number n) c.args.nights.now) (to_z-of_z w64 c.args.number c.ranges.number) c.in-Some.ensures in
    let there = found_in (λ (night : NightData). int_eq night.number c.args.number) c.args.nights.now c.in-Some.field-0.now (sym found) in
    (c.in-Some.field-0.now, there.0, (Decides-int_eq c.in-Some.field-0.now.number c.args.number).0 there.1)

pub returns-in-None : goal.returns-in-None
returns-in-None c =
    let found : None ≡ find (λ (night : NightData). int_eq night.number c.args.number) c.args.nights.now =
    subst (λ (n : ℤ). None ≡ find (λ (night : NightData). int_eq night.number n) c.args.nights.now) (to_z-of_z w64 c.args.number c.ranges.number) c.in-None.ensures in
    λ night there same. none_in (λ (other : NightData). int_eq other.number c.args.number) c.args.nights.now night (sym found) there ((Decides-int_eq night.number c.args.number).1 same)
