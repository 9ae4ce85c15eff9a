use Rattle.std.proofs.Common.{◌≡◌, ◌<◌, length, map, refl, arith}
use Rattle.std.proofs.lemmas.Bool.{false≢true}
use Rattle.std.proofs.lemmas.List.{length-map}
use Rattle.subset_drop.proofs.Keeping.{passes_more, stays_at}
use Rattle.subset_drop.proofs.dropping.passes_all.Goals as goal

pub returns-then-not-passes : goal.returns-then-not-passes
returns-then-not-passes c = (λ h. absurd (false≢true h), λ s. absurd (c.if-not-passes.ensures s))

pub loop-other-preserved : goal.loop-other-preserved
loop-other-preserved c = passes_more (map (λ list. list.items) c.args.lists.now) c.args.place c.loop-other.other c.loop-other.invariant c.if-not-passes.ensures

pub returns : goal.returns
returns c =
    let size : length (map (λ list. list.items) c.args.lists.now) ≡ length c.args.lists.now = length-map c.args.lists.now (λ list. list.items) in
    let l : c.args.place < length (map (λ list. list.items) c.args.lists.now) = simp length-map c.requires in
    (λ h. stays_at (map (λ list. list.items) c.args.lists.now) c.args.place l (λ other k. c.loop-other.invariant other (omega (arith, size))), λ s. refl)
