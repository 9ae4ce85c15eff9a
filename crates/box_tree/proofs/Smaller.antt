-- The halves of a node, and the places of its items.
use Rattle.std.proofs.Common.{◌≡◌, ℕ, ◌+◌, ◌-◌, ◌<◌, ℤ, List, ◌++◌, length, get_or, sym, ◌∙◌, ap, subst, refl, length-append, arith}
use Rattle.std.specs.List.{All}
use Rattle.std.proofs.lemmas.List.Elements.{All-drop, All-get_or, All-take, at_read}
use Rattle.std.proofs.lemmas.List.Sorted.{All-permutation}
use Rattle.sky_units.specs.Pairs.{below}
use Rattle.box_tree.specs.declared.nodes.Node.{Node}
use Rattle.box_tree.specs.declared.tree.Index.{Index}
use Rattle.box_tree.specs.declared.nodes.Below.TheVariants.{Halves}
use Rattle.box_tree.specs.Nodes.{IsHalved, IsNode, Lies, run}
use Rattle.box_tree.specs.Trees.{HasHalves, HasNode}
use Rattle.box_tree.proofs.Places.{below_within}
use Rattle.box_tree.proofs.Runs.{run_length}

module _ {X : Type 0} (axes : ℕ) (lows highs : X → ℕ → ℤ) (index : Index X) where
  abbrev items : List X
  items = index.items.items

  abbrev order : List ℕ
  order = index.order.items

  abbrev nodes : List Node
  nodes = index.nodes.items

  -- a node that was read
  node_read : (place : ℕ) (node : Node) → All (IsNode (Lies axes lows highs items) order nodes) nodes → place < length nodes → node ≡ get_or nodes place node → IsNode (Lies axes lows highs items) order nodes node
  node_read place node all within is = subst (IsNode (Lies axes lows highs items) order nodes) (sym is) (All-get_or (IsNode (Lies axes lows highs items) order nodes) nodes place node within all)

  same_read : (place : ℕ) (node : Node) (d : Node) → place < length nodes → node ≡ get_or nodes place node → get_or nodes place d ≡ node
  same_read place node d within is = at_read nodes (λ n. n ≡ node) place node within is refl d

  pub halves_read : (node : Node) (left right : ℕ) (one other : Node) → HasNode axes lows highs index node → node.below ≡ Halves left right → one ≡ get_or nodes left one → other ≡ get_or nodes right other → HasHalves axes lows highs index node one other
  halves_read node left right one other h is one_is other_is =
      let halves : IsHalved order nodes node (Halves left right) = subst (IsHalved order nodes node) is h.node_is.halved in
      let a : IsNode (Lies axes lows highs items) order nodes one = node_read left one h.nodes_are halves.left_within one_is in
      let b : IsNode (Lies axes lows highs items) order nodes other = node_read right other h.nodes_are halves.right_within other_is in
      let joined : run order node ≡ run order one ++ run order other = halves.joined one ∙ ap (λ n. run order n ++ run order (get_or nodes right one)) (sym one_is) ∙ ap (λ n. run order one ++ run order n) (same_read right other one halves.right_within other_is) in
      let size : node.to - node.from ≡ (one.to - one.from) + (other.to - other.from) =
      sym (run_length order node.from node.to h.node_is.within) ∙ ap length joined ∙ length-append (run order one) (run order other)
      ∙ rw (run_length order one.from one.to a.within, run_length order other.from other.to b.within) in
      let a_some = a.some in
      let b_some = b.some in
      record {
        left_is = record { order_is = h.order_is; nodes_are = h.nodes_are; node_is = a };
        right_is = record { order_is = h.order_is; nodes_are = h.nodes_are; node_is = b };
        joined = joined;
        left_less = omega arith;
        right_less = omega arith;
      }

  -- each place of a run is that of an item
  pub run_within : (node : Node) → HasNode axes lows highs index node → All (λ place. place < length items) (run order node)
  run_within node h =
      let all : All (λ place. place < length items) order = All-permutation (λ place. place < length items) (below (length items)) order h.order_is (below_within (length items)) in
      All-take (λ place. place < length items) (node.to - node.from) _ (All-drop (λ place. place < length items) node.from order all)
