use Rattle.std.proofs.Common.{◌++◌, ◌∷◌, [], ap, ◌∙◌, w64}
use mir.Val.{to_z, of_z}
use Rattle.closed_tracks.specs.InOneList.{place_in}
use Rattle.closed_tracks.proofs.Walks.{mapped_more}
use Rattle.closed_tracks.proofs.numbering.push_places.Goals as goal

pub loop-place-preserved : goal.loop-place-preserved
loop-place-preserved c =
    c.in_ok-push.ensures.items ∙ (ap (λ places. places ++ place_in (to_z w64 (of_z w64 c.args.night)) c.loop-place.place ∷ []) c.loop-place.invariant ∙ mapped_more (place_in (to_z w64 (of_z w64 c.args.night))) c.args.places.now.items c.loop-place.place)
