use Rattle.std.proofs.Common.{◌≡◌, ℕ, ◌+◌, ◌<◌, Some, Vec, Global, List, length, refl, sym, subst, ap, ◌∙◌, arith}
use Rattle.std.proofs.lemmas.Option.{slice_get_read, slice_get_within}
use Rattle.std.specs.List.{slice_get}
use Rattle.tracklet_register.proofs.Labels.{AreFound, found_more, found_none}
use Rattle.tracklet_register.specs.Replacing.{labels_of}
use Rattle.tracklet_register.proofs.matching.places_of.Goals as goal

pub loop-place-init : goal.loop-place-init
loop-place-init c = found_none c.args.tracklets.now _

pub loop-place-preserved : goal.loop-place-preserved
loop-place-preserved c =
    let here : slice_get c.args.tracklets.now c.loop-place.place ≡ Some c.index-tracklets-place.result = slice_get_read c.args.tracklets.now _ c.loop-place.place c.index-tracklets-place.result refl c.loop-place-test.true c.index-tracklets-place.is in
    let labels : c.in_ok-labels.labels.items ≡ labels_of c.index-tracklets-place.result = c.in_ok-labels.ensures ∙ ap labels_of c.spots.ensures.value in
    subst (λ (entries : List (Vec ℕ Global × ℕ)). AreFound c.args.tracklets.now entries (c.loop-place.place + 1)) (sym c.in_ok-insert.ensures.entries)
    (found_more c.args.tracklets.now c.loop-place.places.entries c.loop-place.place c.index-tracklets-place.result c.in_ok-labels.labels c.loop-place.invariant here labels)

pub returns : goal.returns
returns c = λ d place tracklet e.
    let within : place < length c.args.tracklets.now = slice_get_within c.args.tracklets.now place tracklet e in
    c.loop-place.invariant d place tracklet (omega (arith, within, c.loop-place-test.false)) e
