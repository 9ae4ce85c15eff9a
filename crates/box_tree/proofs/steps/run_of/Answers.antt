use Rattle.std.proofs.Common.{◌≡◌, ℕ, ◌<◌, List, length, sym, subst}
use Rattle.std.specs.List.{All}
use Rattle.box_tree.specs.Nodes.{run}
use Rattle.box_tree.proofs.Smaller.{run_within}
use Rattle.box_tree.proofs.steps.run_of.Goals as goal

pub returns-clause-places : goal.returns-clause-places
returns-clause-places g c =
    let t = g.T.Located in
    let all = run_within t.AXES t.lows t.highs c.args.index.now c.args.node.now c.requires in
    let read : c.as_slice-order.result.now ≡ c.args.index.now.order.items = c.as_slice-order.ensures.value in
    subst (λ (order : List ℕ). All (λ place. place < length c.args.index.now.items.items) (run order c.args.node.now)) (sym read) all
