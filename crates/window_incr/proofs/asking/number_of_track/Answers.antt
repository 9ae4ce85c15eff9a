use Rattle.std.proofs.Common.{◌≡◌, ℕ, true, List, sym, ap, ◌∙◌}
use Rattle.std.specs.Prelude.{nat_eq}
use Rattle.std.specs.Cmp.Lexicographic.{pointwise}
use Rattle.sky_units.specs.Tracks.{numbers_of}
use Rattle.window_incr.proofs.TrackNumbers.{number_found, number_missing}
use Rattle.window_incr.proofs.asking.number_of_track.Goals as goal

pub returns-then-eq : goal.returns-then-eq
returns-then-eq c =
    let test : pointwise nat_eq (numbers_of c.index-list-i.result) c.args.numbers.now ≡ true =
    ap (λ (ns : List ℕ). pointwise nat_eq ns c.args.numbers.now) (sym (c.as_slice.ensures.value ∙ c.in_ok-listed.ensures)) ∙ sym c.if-eq.ensures in
    sym (number_found (λ ns. pointwise nat_eq ns c.args.numbers.now) c.args.list.now c.loop-i.i c.index-list-i.result c.loop-i-test.true c.index-list-i.is test c.loop-i.invariant)

pub returns : goal.returns
returns c = sym (number_missing (λ ns. pointwise nat_eq ns c.args.numbers.now) c.args.list.now c.loop-i.i c.loop-i-test.false c.loop-i.invariant)
