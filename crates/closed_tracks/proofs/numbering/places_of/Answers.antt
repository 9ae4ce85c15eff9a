use Rattle.std.proofs.Common.{◌≡◌, ◌++◌, length, map, refl, rules, w64}
use Rattle.std.specs.List.{range_with_len}
use mir.Facts.{to_z-of_z}
use mir.Val.{SFits}
use Rattle.night_tree.specs.Nights.{NightData}
use Rattle.closed_tracks.specs.InOneList.{all_places, place_in}
use Rattle.closed_tracks.proofs.Walks.{walk_end, walk_more}
use Rattle.closed_tracks.proofs.numbering.places_of.Goals as goal

pub loop-night-preserved : goal.loop-night-preserved
loop-night-preserved c =
    let fits : SFits w64 c.number.result = search rules in
    let added : c.push_places.new.places.items ≡ c.loop-night.places.items ++ map (place_in c.number.result) (range_with_len 0 (length c.tracklets.result.now)) = simp to_z-of_z at c.in_ok-push_places.ensures in
    let added' : c.push_places.new.places.items ≡ c.loop-night.places.items ++ map (place_in c.night-item.result.number) (range_with_len 0 (length c.night-item.result.tracklets)) = rw (c.number.ensures, c.tracklets.ensures) at added in
    walk_more all_places (λ (night : NightData). map (place_in night.number) (range_with_len 0 (length night.tracklets))) (λ night nights. refl) c.args.nights.now c.loop-night.night-index c.night-item.result _ _ c.loop-night-test.true c.night-item.is added' c.loop-night.invariant

pub returns : goal.returns
returns c = walk_end all_places refl c.args.nights.now c.loop-night.night-index _ c.loop-night-test.false c.loop-night.invariant
