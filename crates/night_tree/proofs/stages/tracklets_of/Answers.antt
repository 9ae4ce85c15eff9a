use Rattle.std.proofs.Common.{◌≡◌, pos, IfOk, map, ℕ, subst, sym, ap, ◌∙◌, to_z, of_z, w64, arith}
use Rattle.std.specs.List.{All}
use Rattle.std.proofs.lemmas.Bool.Decides.{Decides-int_eq}
use Rattle.std.proofs.lemmas.Int.{ints}
use Rattle.sky_units.specs.AtPlaces.{spots_at}
use Rattle.sky_units.specs.Pairs.{pairs_of}
use Rattle.sky_units.specs.SettingsData.{SettingsData}
use Rattle.sky_units.specs.TrackletData.{NightTracklets}
use Rattle.night_tree.specs.Nights.{places_of_pair}
use Rattle.night_tree.specs.Tracklets.{IsSet}
use Rattle.night_tree.proofs.NightTracklets.{are_sets, pairs_are_sets}
use Rattle.night_tree.proofs.PairsRise.{of_pairs}
use Rattle.night_tree.proofs.stages.tracklets_of.Goals as goal

pub tracklets_of_pairs-requires : goal.tracklets_of_pairs-requires
tracklets_of_pairs-requires c =
    let pairs : c.as_slice.result.now ≡ pairs_of c.args.settings.now c.args.spots.now = c.as_slice.ensures.value ∙ c.in_ok-pairs.ensures in
    subst (All (λ pair. IsSet c.args.spots.now (places_of_pair pair))) (sym pairs) (pairs_are_sets c.args.settings.now c.args.spots.now)

pub returns-then-settings-eq1 : goal.returns-then-settings-eq1
returns-then-settings-eq1 c =
    let back : to_z w64 (of_z w64 c.settings.inside.stages) ≡ c.settings.inside.stages = omega (arith, ints) in
    let one : c.settings.inside.stages ≡ pos 1 = omega (arith, ints, back, c.if-settings-eq1.true) in
    let stages : c.args.settings.now.stages ≡ pos 1 = ap (λ (s : SettingsData). s.stages) (sym c.settings.view_is) ∙ one in
    let told = of_pairs c.args.settings.now c.args.spots.now ((Decides-int_eq c.args.settings.now.stages (pos 1)).1 stages) in
    let pairs : c.as_slice.result.now ≡ pairs_of c.args.settings.now c.args.spots.now = c.as_slice.ensures.value ∙ c.in_ok-pairs.ensures in
    subst (λ (tracklets : NightTracklets). IfOk c.tracklets_of_pairs.result (λ made. made.items ≡ tracklets)) (ap (map (λ (pair : ℕ × ℕ). spots_at c.args.spots.now (places_of_pair pair))) pairs ∙ sym told) c.tracklets_of_pairs.ensures

pub tracklets_at-requires : goal.tracklets_at-requires
tracklets_at-requires c = subst (All (IsSet c.args.spots.now)) (sym c.in_ok-sets.ensures) (are_sets c.args.settings.now c.args.spots.now)
