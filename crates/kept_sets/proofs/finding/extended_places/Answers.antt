use Rattle.std.proofs.Common.{◌≡◌, ℕ, Vec, Global, map, take, ap, ◌∙◌}
use Rattle.kept_sets.proofs.Places.{HasExtended, extended_none, extended_there, extended_nowhere, taken_map, took_map}
use Rattle.kept_sets.specs.declared.finding.Holders.{Holders}
use Rattle.kept_sets.specs.Lists.{less}
use Rattle.kept_sets.proofs.finding.extended_places.Goals as goal
use Rattle.kept_sets.proofs.finding.extended_places.Goals.{in-Some+in_ok-push, in_default}

pub loop-set-init : goal.loop-set-init
loop-set-init c = rw c.new-places.ensures.items (extended_none (map (λ (set : Vec ℕ Global). set.items) c.args.sets.now) c.args.came.now)

pub loop-set-preserved : goal.loop-set-preserved
loop-set-preserved c =
    let sets = map (λ (set : Vec ℕ Global). set.items) c.args.sets.now in
    let index = map (λ (holders : Holders). holders.places.items) c.args.index.now in
    let set = c.set-item.result.items in
    let grown = take c.loop-set.set-index (map (λ (set : Vec ℕ Global). set.items) c.args.grown.now) in
    let next = taken_map (λ (set : Vec ℕ Global). set.items) c.args.grown.now c.loop-set.set-index c.set-item.result c.loop-set-test.true c.set-item.is in
    let rest : c.as_slice-in-loop-set.result.now ≡ less c.args.came.now set = c.as_slice-in-loop-set.ensures.value ∙ c.in_ok-rest.ensures ∙ ap (less c.args.came.now) c.as_slice.ensures.value in
    rw next (elim c.match-place_of.branch [
      | in-Some+in_ok-push w ↦ rw (w.places-is, w.in_ok-push.ensures.items) (extended_there sets index c.args.came.now grown set c.loop-set.places.items c.loop-set.invariant w.in-Some.place c.requires.store (rw rest at w.in-Some.ensures))
      | in_default w ↦ rw w.places-is (extended_nowhere sets index c.args.came.now grown set c.loop-set.places.items c.loop-set.invariant (rw rest at w.in_default.ensures))
    ])

pub returns : goal.returns
returns c =
    let sets = map (λ (set : Vec ℕ Global). set.items) c.args.sets.now in
    let all = took_map (λ (set : Vec ℕ Global). set.items) c.args.grown.now c.loop-set.set-index c.loop-set-test.false in
    let has : HasExtended sets c.args.came.now (map (λ (set : Vec ℕ Global). set.items) c.args.grown.now) c.loop-set.places.items = rw all at c.loop-set.invariant in
    has.exactly
