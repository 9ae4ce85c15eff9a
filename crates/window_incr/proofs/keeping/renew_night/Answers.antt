use Rattle.std.proofs.Common.{◌≡◌, [], ◌∷◌, ◌∙◌, w64}
use Rattle.std.proofs.lemmas.List.Elements.{All-head}
use Rattle.std.proofs.lemmas.Result.{on_ok_weaker}
use mir.Facts.{to_z-of_z}
use mir.Val.{SFits}
use Rattle.kept_nights.specs.KeptNights.{night_data}
use Rattle.night_tree.specs.Nights.{NightData}
use Rattle.tracklet_register.specs.Replacing.{AreDifferent}
use Rattle.window_incr.specs.Keeping.{WereNights}
use Rattle.window_incr.proofs.Kept.{follow_now, following, once_each, rising, were_one, work_of}
use Rattle.window_incr.proofs.keeping.renew_night.Goals as goal

were : (c : goal.After-renew-arg-3-1) → WereNights c.args.settings.now c.args.log.now c.args.nights.now.items (c.in_ok-night.night ∷ [])
were c =
    let fits : SFits w64 c.args.number = c.ranges.number in
    let built : c.in_ok-night.night ≡ night_data (record { settings = c.args.settings.now; log = c.args.log.now }) c.args.number = simp to_z-of_z at c.in_ok-night.ensures in
    were_one c.args.settings.now c.args.log.now c.args.nights.now.items c.args.number c.in_ok-night.night c.requires.but built

pub renew-requires-clause-rising : goal.renew-requires-clause-rising
renew-requires-clause-rising c = rising c.args.settings.now c.args.log.now c.args.nights.now.items (c.in_ok-night.night ∷ []) (were c)

pub renew-requires-clause-follow : goal.renew-requires-clause-follow
renew-requires-clause-follow c = following c.args.settings.now c.args.log.now c.args.nights.now.items (c.in_ok-night.night ∷ []) (were c)

pub renew-requires-clause-now : goal.renew-requires-clause-now
renew-requires-clause-now c = follow_now c.args.settings.now c.args.log.now c.args.nights.now.items (c.in_ok-night.night ∷ []) (were c)

pub renew-requires-clause-different : goal.renew-requires-clause-different
renew-requires-clause-different c = All-head (λ (night : NightData). AreDifferent night.tracklets) c.in_ok-night.night [] (once_each c.args.settings.now c.args.log.now c.args.nights.now.items (c.in_ok-night.night ∷ []) (were c))

were_then : (c : goal.After-renew) → WereNights c.args.settings.now c.args.log.now c.args.nights.now.items (c.in_ok-night.night ∷ [])
were_then c =
    let fits : SFits w64 c.args.number = c.ranges.number in
    let built : c.in_ok-night.night ≡ night_data (record { settings = c.args.settings.now; log = c.args.log.now }) c.args.number = simp to_z-of_z at c.in_ok-night.ensures in
    were_one c.args.settings.now c.args.log.now c.args.nights.now.items c.args.number c.in_ok-night.night c.requires.but built

pub returns-clause-nights : goal.returns-clause-nights
returns-clause-nights c = on_ok_weaker c.renew.result (λ e. e ∙ (were_then c).renewed) c.renew.ensures.nights

pub returns-clause-work : goal.returns-clause-work
returns-clause-work c = work_of c.args.settings.now c.args.log.now c.args.nights.now.items (c.in_ok-night.night ∷ []) (were_then c) c.args.kept.now.register.nights c.args.tally.now c.renew.new.tally c.renew.ensures.tests c.renew.ensures.calm
