use Rattle.std.proofs.Common.{ℕ, ◌≡◌, map, take}
use Rattle.std.proofs.lemmas.List.{take_all}
use Rattle.std.proofs.lemmas.List.Elements.{All-more}
use Rattle.subset_drop.specs.Kept.{Passes}
use Rattle.subset_drop.proofs.dropping.passes_holders.Goals as goal

pub returns : goal.returns
returns c =
    let all : take c.loop-holder.holder-index c.args.holders.now ≡ c.args.holders.now = take_all c.loop-holder.holder-index c.args.holders.now c.loop-holder-test.false in
    rw all at c.loop-holder.invariant

pub loop-holder-preserved : goal.loop-holder-preserved
loop-holder-preserved c = All-more (λ (pair : ℕ × ℕ). Passes (map (λ list. list.items) c.args.lists.now) c.args.place pair.1) c.args.holders.now c.loop-holder.holder-index (0, 0) c.loop-holder-test.true c.loop-holder.invariant c.if-not-passes.ensures
