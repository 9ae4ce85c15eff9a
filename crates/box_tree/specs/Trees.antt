-- What a tree keeps of its items.
use Rattle.std.specs.Prelude.{◌≡◌, ℕ, ◌-◌, ◌<◌, ℤ, ◌++◌, length}
use Rattle.std.specs.List.{All}
use Rattle.std.specs.List.Sorted.{IsPermutation}
use Rattle.sky_units.specs.Pairs.{below}
use Rattle.box_tree.specs.declared.nodes.Node.{Node}
use Rattle.box_tree.specs.declared.tree.Index.{Index}
use Rattle.box_tree.specs.Nodes.{IsNode, IsRoot, Lies, run}

-- the order has each place once, the nodes are runs of it, and the root has them all
pub record IsIndex {X : Type 0} (axes : ℕ) (lows highs : X → ℕ → ℤ) (index : Index X) : Type 0 where
  pub order_is : IsPermutation (below (length index.items.items)) index.order.items
  pub nodes_are : All (IsNode (Lies axes lows highs index.items.items) index.order.items index.nodes.items) index.nodes.items
  pub root_is : IsRoot (Lies axes lows highs index.items.items) index.order.items index.nodes.items index.root

-- one node of a tree
pub record HasNode {X : Type 0} (axes : ℕ) (lows highs : X → ℕ → ℤ) (index : Index X) (node : Node) : Type 0 where
  pub order_is : IsPermutation (below (length index.items.items)) index.order.items
  pub nodes_are : All (IsNode (Lies axes lows highs index.items.items) index.order.items index.nodes.items) index.nodes.items
  pub node_is : IsNode (Lies axes lows highs index.items.items) index.order.items index.nodes.items node

-- the halves of a node, which are smaller
pub record HasHalves {X : Type 0} (axes : ℕ) (lows highs : X → ℕ → ℤ) (index : Index X) (node left right : Node) : Type 0 where
  pub left_is : HasNode axes lows highs index left
  pub right_is : HasNode axes lows highs index right
  pub joined : run index.order.items node ≡ run index.order.items left ++ run index.order.items right
  pub left_less : left.to - left.from < node.to - node.from
  pub right_less : right.to - right.from < node.to - node.from
