use Rattle.std.proofs.Common.{◌≡◌, ℤ, ◌<ℤ◌, ap, refl, false, to_z, of_z, w64, arith}
use Rattle.std.specs.Int.Signed.{le_z}
use Rattle.std.proofs.lemmas.Int.{ints}
use Rattle.bound_prune.specs.EndsData.{EndsData}
use Rattle.bound_prune.proofs.ends.TrackletEnds.may_precede.Goals as goal

not_at_most : (a b : ℤ) → le_z b a ≡ false → a <ℤ b
not_at_most a b h = grind (arith, ints)

pub returns : goal.returns
returns c =
    let af = c.self.invariant.first_epoch in
    let bl = c.later.invariant.last_epoch in
    let a_first : to_z w64 (of_z w64 c.self.inside.first_epoch) ≡ c.self.inside.first_epoch = omega (arith, ints) in
    let b_last : to_z w64 (of_z w64 c.later.inside.last_epoch) ≡ c.later.inside.last_epoch = omega (arith, ints) in
    let a_is : c.self.inside.first_epoch ≡ c.args.self.now.first_epoch = ap (λ (e : EndsData). e.first_epoch) c.self.view_is in
    let b_is : c.later.inside.last_epoch ≡ c.args.later.now.last_epoch = ap (λ (e : EndsData). e.last_epoch) c.later.view_is in
    let follows : c.args.self.now.first_epoch <ℤ c.args.later.now.last_epoch = not_at_most c.args.self.now.first_epoch c.args.later.now.last_epoch (rw (a_first, b_last, a_is, b_is) at c.if-later-self.false) in
    let dec_way = c.if-not-is_open.ensures.0 refl in
    let ra_way = c.if-not-is_open_round.ensures.0 refl in (
      λ t. record { follows = follows; dec_way = dec_way; ra_way = ra_way; dec_rates = (c.rates_agree.ensures.0 t).0; ra_rates = (c.rates_agree.ensures.0 t).1 },
      λ h. c.rates_agree.ensures.1 (h.dec_rates, h.ra_rates),
    )
