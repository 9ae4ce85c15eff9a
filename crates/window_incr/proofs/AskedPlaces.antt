-- The asked spots under their places as labels: nothing but the labels differs.
use Rattle.std.proofs.Common.{◌≡◌, ℕ, ◌<◌, ◌-ℤ◌, ◌<ℤ◌, List, [], ◌∷◌, ◌++◌, ◌+◌, map, length, take, get_or, refl, sym, ap, ap₂, subst, ◌∙◌, arith}
use Rattle.std.proofs.lemmas.List.{length-map, get_or-map}
use Rattle.std.proofs.lemmas.Simd.{map-map}
use Rattle.sky_math.specs.Lists.{EachTwo}
use Rattle.sky_math.specs.Quadratics.{Admits, Point}
use Rattle.exposure_log.specs.Held.{LogData}
use Rattle.sky_units.specs.Arcs.{AreNear, HaveRisingEpochs, IsArc, MeetSpreadRule}
use Rattle.sky_units.specs.Limits.{arc_ticks}
use Rattle.sky_units.specs.Motion.{AxisAdmits, Fits, acceleration, point_from, points, tolerance}
use Rattle.sky_units.specs.SettingsData.{SettingsData}
use Rattle.sky_units.specs.SpotData.{SpotData}
use Rattle.sky_units.specs.declared.axis.Axis.{Axis}
use Rattle.sky_units.specs.declared.axis.Axis.TheVariants.{Ra, Dec}
use Rattle.plain_tracks.proofs.Members.{each_two_map}
use Rattle.plain_tracks.specs.Growth.{AreTestable}
use Rattle.window_incr.specs.Answers.{id_of_number}
use Rattle.window_incr.specs.Asked.{place_of, placed_spot}
use Rattle.window_incr.proofs.Steps.{map_one_more}

module _ (log : LogData) (ids : List (List ℕ)) where
  abbrev at : SpotData → SpotData
  at = placed_spot log ids

  points_of_ra : (spots : List SpotData) → points Ra (map at spots) ≡ points Ra spots
  points_of_ra [] = refl
  points_of_ra (first ∷ rest) = map-map (point_from Ra (at first)) at (first ∷ rest)

  points_of_dec : (spots : List SpotData) → points Dec (map at spots) ≡ points Dec spots
  points_of_dec [] = refl
  points_of_dec (first ∷ rest) = map-map (point_from Dec (at first)) at (first ∷ rest)

  pub fits_placed : (settings : SettingsData) (spots : List SpotData) → AxisAdmits Ra settings (map at spots) → AxisAdmits Dec settings (map at spots) → Fits settings spots
  fits_placed settings spots ra dec = (
    subst (Admits (acceleration Ra settings) (tolerance Ra settings)) (points_of_ra spots) ra,
    subst (Admits (acceleration Dec settings) (tolerance Dec settings)) (points_of_dec spots) dec,
  )

  pub spread_unplaced : (spots : List SpotData) → MeetSpreadRule (map at spots) → MeetSpreadRule spots
  spread_unplaced spots h = λ i j d ij jn.
      let l : j < length (map at spots) = omega (arith, jn, length-map spots at) in
      let near = h i j (at d) ij l in
      rw (get_or-map at spots i d (at d) (omega arith), get_or-map at spots j d (at d) jn) at near

  pub arc_placed : (spots : List SpotData) → AreTestable spots → MeetSpreadRule (map at spots) → IsArc (map at spots)
  arc_placed spots t spread = record {
    rising = each_two_map (λ (a b : SpotData). a.epoch <ℤ b.epoch) at spots t.rising;
    short = each_two_map (λ (a b : SpotData). (b.epoch -ℤ a.epoch) <ℤ arc_ticks) at spots t.short;
    spread = spread;
  }

-- one more spot, under the place of its id
pub placed_more : (log : LogData) (ids : List (List ℕ)) (spots before : List SpotData) (i num : ℕ) (x y : SpotData) → i < length spots → x ≡ get_or spots i x → y ≡ x → num ≡ place_of ids (id_of_number log y.num)
    → before ≡ map (placed_spot log ids) (take i spots) → before ++ record y { num = num } ∷ [] ≡ map (placed_spot log ids) (take (i + 1) spots)
placed_more log ids spots before i num x y l e v n so =
    let here : record y { num = num } ≡ placed_spot log ids x = ap (λ (k : ℕ). record y { num = k }) n ∙ ap (placed_spot log ids) v in
    ap₂ (λ (front : List SpotData) (last : SpotData). front ++ last ∷ []) so here ∙ map_one_more (placed_spot log ids) [] spots i x l e
