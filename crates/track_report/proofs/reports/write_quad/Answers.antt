use Rattle.std.proofs.Common.{ℕ, ℤ, List, codes, rules, SFits, w64}
use Rattle.std.specs.Int.{w128}
use Rattle.std.proofs.Math.Facts.{to_z-of_z}
use Rattle.std.specs.Fmt.{signed_decimal}
use Rattle.track_report.specs.Words.{spaced}
use Rattle.track_report.proofs.Joined.{eight_added}
use Rattle.track_report.proofs.reports.write_quad.Goals as goal

abbrev number : ℤ → List ℕ
number z = spaced (signed_decimal z)

pub returns : goal.returns
returns c =
    let quad = c.quad.inside in
    let base : SFits w64 quad.base = search rules in
    let start : SFits w64 quad.start = search rules in
    let den : SFits w128 quad.den = search rules in
    let p : SFits w128 quad.p = search rules in
    let v : SFits w128 quad.v = search rules in
    let q : SFits w128 quad.q = search rules in
    rw (
      c.in_ok-push.ensures.items,
      c.in_ok-write_number-6.ensures,
      c.in_ok-write_number-5.ensures,
      c.in_ok-write_number-4.ensures,
      c.in_ok-write_number-3.ensures,
      c.in_ok-write_number-2.ensures,
      c.in_ok-write_number.ensures,
      c.in_ok-extend_from_slice.ensures.items,
      ← c.quad.view_is,
      to_z-of_z base,
      to_z-of_z start,
      to_z-of_z den,
      to_z-of_z p,
      to_z-of_z v,
      to_z-of_z q,
    ) (eight_added c.args.text.now.items c.args.axis.now (number quad.base) (number quad.start) (number quad.den)
    (number quad.p) (number quad.v) (number quad.q) (codes "\n"))
