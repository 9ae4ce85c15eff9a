use Rattle.std.proofs.Common.{◌≡◌, sym, ap₂, subst, ◌∙◌, to_z-of_z, w64}
use Rattle.kept_nights.specs.KeptNights.{RiseByNumber, night_data, with_night}
use Rattle.kept_nights.proofs.keeping.renew.Goals as goal
use mir.Val.{SFits}

pub put-requires-clause-rising : goal.put-requires-clause-rising
put-requires-clause-rising c = subst RiseByNumber (sym c.reserve.ensures.items) c.requires.rising

pub returns-clause-ok : goal.returns-clause-ok
returns-clause-ok c =
    let fits : SFits w64 c.args.number = c.ranges.number in
    let night : c.in_ok-night.night ≡ night_data (record { settings = c.args.settings.now; log = c.args.log.now }) c.args.number = simp to_z-of_z at c.in_ok-night.ensures in
    c.put.ensures.put ∙ ap₂ with_night night c.reserve.ensures.items
