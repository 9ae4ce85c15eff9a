use Rattle.std.proofs.Common.{◌≡◌, List, ℕ, map, sym, ap, ◌∙◌}
use Rattle.night_tree.specs.Nights.{with_set}
use Rattle.night_tree.proofs.Sets.{inserted, into, into_none, into_popped}
use Rattle.night_tree.proofs.listing.in_order.Goals as goal

pub loop-set-init : goal.loop-set-init
loop-set-init c = sym (into_none c.args.sets.items) ∙ ap (λ (keys : List _). into c.args.sets.items (map (λ set. set.items) keys)) (sym c.new-ordered.ensures.empty)

pub loop-set-preserved : goal.loop-set-preserved
loop-set-preserved c =
    let popped = c.in-Some.ensures.items in
    let key : c.into_items.result.items ≡ c.in-Some.set = c.into_items.ensures in
    let more = ap (map (λ set. set.items)) c.in_ok-insert.ensures.keys ∙ inserted (λ set. set.items) c.loop-set.ordered.keys c.into_items.result ∙ ap (λ (places : List ℕ). with_set places (map (λ set. set.items) c.loop-set.ordered.keys)) key in
    into_popped c.args.sets.items c.loop-set.rest.items c.pop.new.self.items (map (λ set. set.items) c.loop-set.ordered.keys) (map (λ set. set.items) c.insert.new.self.keys) c.in-Some.set c.loop-set.invariant popped more
