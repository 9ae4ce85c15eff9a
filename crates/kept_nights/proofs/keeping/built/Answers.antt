use Rattle.std.proofs.Common.{◌≡◌, ℤ, length, IfOk, sym, ap, ap₂, subst, ◌∙◌, to_z, of_z, to_z-of_z, w64, arith}
use Rattle.std.proofs.lemmas.Int.{ints}
use Rattle.sky_units.specs.Pairs.{EpochsDontFall}
use Rattle.sky_units.specs.TrackletData.{NightTracklets}
use Rattle.exposure_log.specs.Held.{AreOfOneEpoch, spots_of_night}
use Rattle.line_fit.specs.Slopes.{AreOfOneDay}
use Rattle.night_tree.specs.Nights.{NightData, tracklets_of}
use Rattle.kept_nights.proofs.HeldNights.{epochs_dont_fall, few_of_night, of_one_day}
use Rattle.kept_nights.proofs.OneEpoch.{as_of_no_spots}
use Rattle.kept_nights.proofs.keeping.built.Goals as goal
use mir.Val.{SFits}

abbrev with_tracklets : ℤ → NightTracklets → NightData
with_tracklets number tracklets = record { number = number; tracklets = tracklets }

pub returns-then-is_of_one_epoch : goal.returns-then-is_of_one_epoch
returns-then-is_of_one_epoch c =
    let plain : to_z w64 (of_z w64 c.args.number) ≡ c.args.number = omega (arith, ints) in
    let one : AreOfOneEpoch c.args.log.now c.args.number = rw plain at (c.is_of_one_epoch.ensures.0 c.if-is_of_one_epoch.true) in
    let tracklets = ap (tracklets_of c.args.settings.now) c.new.ensures.items ∙ as_of_no_spots c.args.settings.now c.args.log.now c.args.number c.requires one in
    subst (λ (night : NightData). IfOk c.build.result (λ made. made ≡ night)) (ap₂ with_tracklets plain tracklets) c.build.ensures

pub build-requires-2-clause-few : goal.build-requires-2-clause-few
build-requires-2-clause-few c =
    let fits : SFits w64 c.args.number = c.ranges.number in
    let spots : c.in_ok-night.field-0.items ≡ spots_of_night c.args.log.now c.args.number = simp to_z-of_z at c.in_ok-night.ensures in
    omega (arith, c.in_ok-night.field-0.ok, ap length spots, few_of_night c.args.log.now c.args.number c.requires)

pub build-requires-2-clause-order : goal.build-requires-2-clause-order
build-requires-2-clause-order c =
    let fits : SFits w64 c.args.number = c.ranges.number in
    let spots : c.in_ok-night.field-0.items ≡ spots_of_night c.args.log.now c.args.number = simp to_z-of_z at c.in_ok-night.ensures in
    subst EpochsDontFall (sym spots) (epochs_dont_fall c.args.log.now c.args.number c.requires)

pub build-requires-2-clause-day : goal.build-requires-2-clause-day
build-requires-2-clause-day c =
    let fits : SFits w64 c.args.number = c.ranges.number in
    let spots : c.in_ok-night.field-0.items ≡ spots_of_night c.args.log.now c.args.number = simp to_z-of_z at c.in_ok-night.ensures in
    subst AreOfOneDay (sym spots) (of_one_day c.args.log.now c.args.number c.requires)
