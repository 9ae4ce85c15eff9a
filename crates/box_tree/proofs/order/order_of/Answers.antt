use Rattle.std.proofs.Common.{◌≡◌, ℕ, List, map, ◌∙◌, length, ap}
use Rattle.std.specs.List.Sorted.{IsPermutation}
use Rattle.std.proofs.lemmas.List.Sorted.{IsPermutation-map}
use Rattle.sky_units.specs.Pairs.{below}
use Rattle.box_tree.specs.Orders.{place_of}
use Rattle.box_tree.proofs.order.order_of.Goals as goal

permuted : (keyed sorted : List (ℕ × ℕ)) (n : ℕ) (places : List ℕ) → map place_of keyed ≡ below n → IsPermutation keyed sorted → places ≡ map place_of sorted → IsPermutation (below n) places
permuted keyed sorted n places e p is = rw (← e, is) (IsPermutation-map place_of keyed sorted p)

pub returns : goal.returns
returns g c =
    let given : map place_of c.in_ok-keyed.keyed.items ≡ below (length c.args.items.now) = c.in_ok-keyed.ensures in
    let read : c.as_slice.result.now ≡ c.sort_unstable.new.self.items = c.as_slice.ensures.value in
    permuted c.in_ok-keyed.keyed.items c.sort_unstable.new.self.items (length c.args.items.now) c.in_ok-places.places.items given c.sort_unstable.ensures.permutation (c.in_ok-places.ensures ∙ ap (map place_of) read)
