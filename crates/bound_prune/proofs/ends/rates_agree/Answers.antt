use Rattle.std.proofs.Common.{◌≡◌, ◌↔◌, ◌∙◌, IsTrue, ap, sym, to_z, of_z, w64, arith}
use Rattle.std.proofs.lemmas.Bool.{false≢true}
use Rattle.std.proofs.lemmas.Int.{ints}
use Rattle.sky_units.specs.declared.axis.Axis.TheVariants.{Dec, Ra}
use Rattle.bound_prune.specs.BoxEnds.{DifferLittle}
use Rattle.bound_prune.specs.EndsData.{EndsData, bounds_of}
use Rattle.bound_prune.proofs.Travels.{agree}
use Rattle.bound_prune.proofs.ends.rates_agree.Goals as goal

pub returns-then-not-differ_little : goal.returns-then-not-differ_little
returns-then-not-differ_little c =
    let r = c.requires.range in
    let from = r.from in
    let upto = r.to in
    let long : to_z w64 (of_z w64 c.args.longest) ≡ c.args.longest = omega (arith, ints, from, upto) in
    let a_dec : c.a.inside.dec_rates ≡ c.args.a.now.dec_rates = ap (λ (e : EndsData). e.dec_rates) c.a.view_is in
    let b_dec : c.b.inside.dec_rates ≡ c.args.b.now.dec_rates = ap (λ (e : EndsData). e.dec_rates) c.b.view_is in
    let first : IsTrue c.differ_little.result ↔ DifferLittle Dec c.args.settings.now c.args.a.now.dec_rates c.args.b.now.dec_rates c.args.longest = rw (long, a_dec, b_dec) at c.differ_little.ensures in
    let dec = agree Dec c.args.settings.now (bounds_of c.args.a.now) (bounds_of c.args.b.now) c.args.longest c.requires.value in
    (λ t. absurd (false≢true t), λ h. absurd (false≢true (sym c.if-not-differ_little.true ∙ first.1 (dec.1 h.0))))

pub returns : goal.returns
returns c =
    let r = c.requires.range in
    let from = r.from in
    let upto = r.to in
    let long : to_z w64 (of_z w64 c.args.longest) ≡ c.args.longest = omega (arith, ints, from, upto) in
    let a_dec : c.a.inside.dec_rates ≡ c.args.a.now.dec_rates = ap (λ (e : EndsData). e.dec_rates) c.a.view_is in
    let b_dec : c.b.inside.dec_rates ≡ c.args.b.now.dec_rates = ap (λ (e : EndsData). e.dec_rates) c.b.view_is in
    let first : IsTrue c.differ_little.result ↔ DifferLittle Dec c.args.settings.now c.args.a.now.dec_rates c.args.b.now.dec_rates c.args.longest = rw (long, a_dec, b_dec) at c.differ_little.ensures in
    let dec = agree Dec c.args.settings.now (bounds_of c.args.a.now) (bounds_of c.args.b.now) c.args.longest c.requires.value in
    let a_ra : c.a.inside.ra_rates ≡ c.args.a.now.ra_rates = ap (λ (e : EndsData). e.ra_rates) c.a.view_is in
    let b_ra : c.b.inside.ra_rates ≡ c.args.b.now.ra_rates = ap (λ (e : EndsData). e.ra_rates) c.b.view_is in
    let second : IsTrue c.differ_little-2.result ↔ DifferLittle Ra c.args.settings.now c.args.a.now.ra_rates c.args.b.now.ra_rates c.args.longest = rw (long, a_ra, b_ra) at c.differ_little-2.ensures in
    let ra = agree Ra c.args.settings.now (bounds_of c.args.a.now) (bounds_of c.args.b.now) c.args.longest c.requires.value in
    let here : IsTrue c.differ_little.result = c.if-not-differ_little.false in
    (λ t. (dec.0 (first.0 here), ra.0 (second.0 t)), λ h. second.1 (ra.1 h.1))
