use Rattle.std.proofs.Common.{◌≡◌, sym, ap, ◌∙◌}
use Rattle.std.specs.Prelude.{Some}
use Rattle.sky_units.specs.AtPlaces.{spots_at}
use Rattle.purge.specs.Purging.{purge_of}
use Rattle.purge.proofs.Left.{tracklet_left}
use Rattle.purge.proofs.dropping.purge.Goals as goal

pub spots_at-requires : goal.spots_at-requires
spots_at-requires c =
    let group = c.of-copy.ensures ∙ c.in_ok-from_slice.ensures.items ∙ c.items.ensures in
    let left : purge_of c.args.settings.now c.args.spots.now c.args.group.now ≡ Some c.in-Some.left = sym (c.in_ok-left.ensures ∙ ap (purge_of c.args.settings.now c.args.spots.now) group) ∙ c.in-Some.is in
    rw c.items-in-Some.ensures ((tracklet_left c.args.settings.now c.args.spots.now c.args.group.now c.in-Some.left c.requires.within c.requires.arc.rising left).within)

pub of_rising-requires : goal.of_rising-requires
of_rising-requires c =
    let group = c.of-copy.ensures ∙ c.in_ok-from_slice.ensures.items ∙ c.items.ensures in
    let left : purge_of c.args.settings.now c.args.spots.now c.args.group.now ≡ Some c.in-Some.left = sym (c.in_ok-left.ensures ∙ ap (purge_of c.args.settings.now c.args.spots.now) group) ∙ c.in-Some.is in
    let together = c.in_ok-together-in-Some.ensures ∙ ap (spots_at c.args.spots.now) c.items-in-Some.ensures in
    rw together ((tracklet_left c.args.settings.now c.args.spots.now c.args.group.now c.in-Some.left c.requires.within c.requires.arc.rising left).tracklet)
