-- Nodes: runs of a tree's order, each with a box that holds its items.
use Rattle.std.specs.Prelude.{◌≡◌, ℕ, ℤ, ◌<◌, ◌≤◌, Option, Some, None, List, ◌++◌, length, slice_index_or, slice_range, ⊤}
use Rattle.std.specs.List.{All}
use Rattle.box_tree.specs.declared.bounds.Bounds.{Bounds}
use Rattle.box_tree.specs.declared.nodes.Node.{Node}
use Rattle.box_tree.specs.declared.nodes.Below.{Below}
use Rattle.box_tree.specs.declared.nodes.Below.TheVariants.{Leaf, Halves}
use Rattle.box_tree.specs.Boxes.{Covers}

-- the item at a place lies in a box
abbrev pub Lies : {X : Type 0} → ℕ → (X → ℕ → ℤ) → (X → ℕ → ℤ) → List X → ℕ → Bounds → Type 0
Lies {X} axes lows highs items place box =
    (d : X) → Covers axes (lows (slice_index_or items place d)) (highs (slice_index_or items place d)) box

-- the places of a node's items
abbrev pub run : List ℕ → Node → List ℕ
run order node = slice_range order node.from node.to

-- the runs of the nodes at two places, joined, are that of the node
pub record AreHalves (order : List ℕ) (nodes : List Node) (node : Node) (left right : ℕ) : Type 0 where
  pub left_within : left < length nodes
  pub right_within : right < length nodes
  pub joined : (d : Node) → run order node ≡ run order (slice_index_or nodes left d) ++ run order (slice_index_or nodes right d)

-- what stands below a node are its halves
abbrev pub IsHalved : List ℕ → List Node → Node → Below → Type 0
IsHalved order nodes node Leaf = ⊤
IsHalved order nodes node (Halves left right) = AreHalves order nodes node left right

-- a node has items, which lie in its box, and its halves stand among the nodes
pub record IsNode (Lying : ℕ → Bounds → Type 0) (order : List ℕ) (nodes : List Node) (node : Node) : Type 0 where
  pub some : node.from < node.to
  pub within : node.to ≤ length order
  pub lying : All (λ place. Lying place node.bounds) (run order node)
  pub halved : IsHalved order nodes node node.below

-- the nodes grew by those below a new one, which has this run
pub record Grown (Lying : ℕ → Bounds → Type 0) (order : List ℕ) (from to : ℕ) (before after : List Node) (node : Node) : Type 0 where
  pub more : List Node
  pub is : after ≡ before ++ more
  pub nodes : All (IsNode Lying order after) after
  pub node_is : IsNode Lying order after node
  pub from_is : node.from ≡ from
  pub to_is : node.to ≡ to

-- the node of the whole order, if it isn't empty
abbrev pub IsRoot : (ℕ → Bounds → Type 0) → List ℕ → List Node → Option Node → Type 0
IsRoot Lying order nodes None = length order ≡ 0
IsRoot Lying order nodes (Some node) = IsNode Lying order nodes node × (run order node ≡ order)
