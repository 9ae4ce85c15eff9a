-- What stays of nodes as others are put behind them.
use Rattle.std.proofs.Common.{◌≡◌, ℕ, ◌+◌, ◌<◌, List, [], ◌∷◌, ◌++◌, length, get_or, sym, ◌∙◌, ap, refl, subst, append_assoc, length-append, arith}
use Rattle.std.specs.List.{All}
use Rattle.std.proofs.Math.ListN.{get_or-append}
use Rattle.std.proofs.Math.Seq.{get_or-append_seam}
use Rattle.std.proofs.lemmas.List.Elements.{All-append, All-push, All-weaker}
use Rattle.std.proofs.lemmas.List.{append-nil}
use Rattle.box_tree.specs.declared.bounds.Bounds.{Bounds}
use Rattle.box_tree.specs.declared.nodes.Node.{Node}
use Rattle.box_tree.specs.declared.nodes.Below.{Below}
use Rattle.box_tree.specs.declared.nodes.Below.TheVariants.{Leaf, Halves}
use Rattle.box_tree.specs.Nodes.{Grown, IsHalved, IsNode, run}
use Rattle.box_tree.proofs.Runs.{run_split}

halved_more : (order : List ℕ) (nodes more : List Node) (node : Node) (below : Below) → IsHalved order nodes node below → IsHalved order (nodes ++ more) node below
halved_more order nodes more node Leaf h = h
halved_more order nodes more node (Halves left right) h = record {
  left_within = let within = h.left_within in omega (arith, length-append nodes more);
  right_within = let within = h.right_within in omega (arith, length-append nodes more);
  joined = λ d. h.joined d ∙ ap (λ n. run order n ++ run order (get_or nodes right d)) (sym (get_or-append nodes more d left h.left_within))
      ∙ ap (λ n. run order (get_or (nodes ++ more) left d) ++ run order n) (sym (get_or-append nodes more d right h.right_within));
}

node_more : (Lying : ℕ → Bounds → Type 0) (order : List ℕ) (nodes more : List Node) (node : Node) → IsNode Lying order nodes node → IsNode Lying order (nodes ++ more) node
node_more Lying order nodes more node h = record {
  some = h.some;
  within = h.within;
  lying = h.lying;
  halved = halved_more order nodes more node node.below h.halved;
}

nodes_more : (Lying : ℕ → Bounds → Type 0) (order : List ℕ) (nodes more : List Node) → All (IsNode Lying order nodes) nodes → All (IsNode Lying order (nodes ++ more)) nodes
nodes_more Lying order nodes more h = All-weaker (IsNode Lying order nodes) (IsNode Lying order (nodes ++ more)) (λ node. node_more Lying order nodes more node) nodes h

-- a leaf needs no nodes
pub grown_leaf : (Lying : ℕ → Bounds → Type 0) (order : List ℕ) (from to : ℕ) (nodes : List Node) (node : Node) → All (IsNode Lying order nodes) nodes → ((nodes : List Node) → IsNode Lying order nodes node) → node.from ≡ from → node.to ≡ to → Grown Lying order from to nodes nodes node
grown_leaf Lying order from to nodes node all is from_is to_is = record {
  more = [];
  is = sym (append-nil nodes);
  nodes = all;
  node_is = is nodes;
  from_is = from_is;
  to_is = to_is;
}

module _ (Lying : ℕ → Bounds → Type 0) (order : List ℕ) (from middle to : ℕ) (before first second : List Node) (left right : Node) (box : Bounds)
    (a : Grown Lying order from middle before first left) (b : Grown Lying order middle to first second right)
    (low : from < middle) (high : middle < to)
    (on_left : (place : ℕ) → Lying place left.bounds → Lying place box) (on_right : (place : ℕ) → Lying place right.bounds → Lying place box) where
  abbrev last : List Node
  last = (second ++ left ∷ []) ++ right ∷ []

  abbrev whole : Node
  whole = record { bounds = box; from = from; to = to; below = Halves (length second) (length second + 1) }

  last_is : last ≡ second ++ (left ∷ right ∷ [])
  last_is = append_assoc second (left ∷ []) (right ∷ [])

  at_last : (node : Node) → IsNode Lying order second node → IsNode Lying order last node
  at_last node h = subst (λ nodes. IsNode Lying order nodes node) (sym last_is) (node_more Lying order second (left ∷ right ∷ []) node h)

  left_is : IsNode Lying order last left
  left_is = at_last left (subst (λ nodes. IsNode Lying order nodes left) (sym b.is) (node_more Lying order first b.more left a.node_is))

  right_is : IsNode Lying order last right
  right_is = at_last right b.node_is

  all_last : All (IsNode Lying order last) last
  all_last = All-push (IsNode Lying order last) (second ++ left ∷ []) right
      (All-push (IsNode Lying order last) second left (All-weaker (IsNode Lying order second) (IsNode Lying order last) at_last second b.nodes) left_is) right_is

  at_left : (d : Node) → get_or last (length second) d ≡ left
  at_left d = ap (λ nodes. get_or nodes (length second) d) last_is ∙ get_or-append_seam second left (right ∷ []) d

  at_right : (d : Node) → get_or last (length second + 1) d ≡ right
  at_right d =
      let n : length (second ++ left ∷ []) ≡ length second + 1 = length-append second (left ∷ []) in
      ap (λ k. get_or last k d) (sym n) ∙ get_or-append_seam (second ++ left ∷ []) right [] d

  joined : run order whole ≡ run order left ++ run order right
  joined = run_split order from middle to (omega arith) (omega arith)
      ∙ rw (a.from_is, a.to_is, b.from_is, b.to_is)

  whole_is : IsNode Lying order last whole
  whole_is = record {
    some = omega arith;
    within = let within = b.node_is.within in let e = b.to_is in omega arith;
    lying = subst (All (λ place. Lying place box)) (sym joined)
        (All-append (λ place. Lying place box) (run order left) (run order right)
        (All-weaker (λ place. Lying place left.bounds) (λ place. Lying place box) on_left (run order left) a.node_is.lying)
        (All-weaker (λ place. Lying place right.bounds) (λ place. Lying place box) on_right (run order right) b.node_is.lying));
    halved = record {
      left_within = omega (arith, length-append (second ++ left ∷ []) (right ∷ []), length-append second (left ∷ []));
      right_within = omega (arith, length-append (second ++ left ∷ []) (right ∷ []), length-append second (left ∷ []));
      joined = λ d. joined ∙ rw (at_left d, at_right d);
    };
  }

  pub grown_both : (place : ℕ) (after : List Node) → place ≡ length second → after ≡ last → Grown Lying order from to before after record { bounds = box; from = from; to = to; below = Halves place (place + 1) }
  grown_both place after at is = rw (at, is) record {
    more = a.more ++ (b.more ++ (left ∷ right ∷ []));
    is = last_is ∙ ap (λ nodes. nodes ++ (left ∷ right ∷ [])) (b.is ∙ ap (λ nodes. nodes ++ b.more) a.is) ∙ append_assoc (before ++ a.more) b.more (left ∷ right ∷ []) ∙ append_assoc before a.more (b.more ++ (left ∷ right ∷ []));
    nodes = all_last;
    node_is = whole_is;
    from_is = refl;
    to_is = refl;
  }
