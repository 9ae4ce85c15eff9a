use Rattle.std.proofs.Common.{◌≡◌, take, get_or, refl, sym, ◌∙◌}
use Rattle.std.proofs.lemmas.Bool.{false≢true}
use Rattle.std.proofs.lemmas.List.{take_all}
use Rattle.std.proofs.lemmas.List.Elements.{All-more}
use Rattle.std.specs.List.{Contains}
use Rattle.sky_units.specs.Tracks.{AreAmong}
use Rattle.kept_sets.proofs.Basics.{one_of}
use Rattle.kept_sets.proofs.numbers.are_among.Goals as goal

pub returns-then-not-has : goal.returns-then-not-has
returns-then-not-has c = (
  λ h. absurd (false≢true h),
  λ a. absurd (false≢true (c.if-not-has.ensures ∙ (one_of c.args.other.now (get_or c.args.one.now c.loop-item.item-index 0)).1 (a c.loop-item.item-index 0 c.loop-item-test.true))),
)

pub loop-item-preserved : goal.loop-item-preserved
loop-item-preserved c = All-more (Contains c.args.other.now) c.args.one.now c.loop-item.item-index 0 c.loop-item-test.true c.loop-item.invariant ((one_of c.args.other.now (get_or c.args.one.now c.loop-item.item-index 0)).0 (sym c.if-not-has.ensures))

pub returns : goal.returns
returns c =
    let all : take c.loop-item.item-index c.args.one.now ≡ c.args.one.now = take_all c.loop-item.item-index c.args.one.now c.loop-item-test.false in
    let among : AreAmong c.args.one.now c.args.other.now = rw all at c.loop-item.invariant in
    (λ h. among, λ a. refl)
