use Rattle.std.proofs.Common.{◌≡◌, ℤ, false, pos, ◌<ℤ◌, SFits, get_or, refl, rules, subst, w64, arith}
use Rattle.std.specs.Int.Signed.{le_z}
use Rattle.std.proofs.lemmas.Int.{ints, to_z-of_z}
use Rattle.sky_units.specs.SettingsData.{AreSettings}
use Rattle.bound_prune.proofs.Meetings.{meeting_may}
use Rattle.bound_prune.proofs.following.may_follow.Goals as goal

not_at_most : (a b : ℤ) → le_z b a ≡ false → a <ℤ b
not_at_most a b h = grind (arith, ints)

pub returns-then-meet : goal.returns-then-meet
returns-then-meet c =
    let a_low : SFits w64 (get_or c.args.a.now.low 2 (pos 0)) = search rules in
    let b_high : SFits w64 (get_or c.args.b.now.high 2 (pos 0)) = search rules in
    let follows = not_at_most (get_or c.args.a.now.low 2 (pos 0)) (get_or c.args.b.now.high 2 (pos 0)) (simp to_z-of_z at c.if-b-a.false) in
    let known : AreSettings c.args.settings.now = subst AreSettings c.settings.view_is c.settings.invariant in
    (λ t. meeting_may c.args.settings.now known c.args.a.now c.args.b.now follows (c.meet.ensures.0 c.if-meet.true), λ h. refl)

pub returns : goal.returns
returns c =
    let a_low : SFits w64 (get_or c.args.a.now.low 2 (pos 0)) = search rules in
    let b_high : SFits w64 (get_or c.args.b.now.high 2 (pos 0)) = search rules in
    let follows = not_at_most (get_or c.args.a.now.low 2 (pos 0)) (get_or c.args.b.now.high 2 (pos 0)) (simp to_z-of_z at c.if-b-a.false) in (
      λ t. record {
        follows = follows;
        dec_way = c.if-not-is_open.ensures.0 refl;
        ra_way = c.if-not-is_open_round.ensures.0 refl;
        dec_rates = c.if-not-rates_agree.ensures.0 refl;
        ra_rates = c.rates_agree-2.ensures.0 t;
      },
      λ h. c.rates_agree-2.ensures.1 h.ra_rates,
    )
