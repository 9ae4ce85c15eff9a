use Rattle.std.proofs.Common.{◌≡◌, ℕ, List, ap, ◌∙◌}
use Rattle.std.specs.Map.{lookup}
use Rattle.std.specs.BTreeMap.{is_at}
use Rattle.tracklet_register.proofs.Labels.{number_found, to_key}
use Rattle.tracklet_register.specs.Replacing.{labels_of}
use Rattle.tracklet_register.proofs.matching.number_of.Goals as goal

pub returns : goal.returns
returns c =
    let key : c.as_slice.result.now ≡ labels_of c.args.tracklet.now = c.as_slice.ensures.value ∙ (c.in_ok-labels.ensures ∙ ap labels_of c.spots.ensures.value) in
    let found = c.get.ensures.value ∙ ap (λ (labels : List ℕ). lookup (is_at (to_key labels)) c.args.places.now.entries) key in
    number_found c.args.tracklets.now c.args.numbers.now c.args.places.now.entries c.args.tracklet.now c.copied-place.result c.number_at.result c.requires.size c.requires.places (c.copied-place.ensures ∙ found) c.number_at.ensures
