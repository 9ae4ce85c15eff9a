use Rattle.std.proofs.Common.{ap, ◌∙◌, subst, sym}
use Rattle.kept_nights.specs.KeptNights.{RiseByNumber}
use Rattle.kept_nights.specs.Renewed.{with_nights}
use Rattle.kept_nights.proofs.Renewal.{nights_follow}
use Rattle.kept_nights.proofs.keeping.renew_all.Goals as goal

pub put_all-requires-clause-rising : goal.put_all-requires-clause-rising
put_all-requires-clause-rising c = subst RiseByNumber (sym c.reserve.ensures.items) c.requires.rising

pub returns-clause-ok : goal.returns-clause-ok
returns-clause-ok c =
    nights_follow c.args.settings.now c.args.log.now c.args.outcomes.now c.in_ok-changed.changed.items c.args.nights.now.items c.put_all.new.nights.items c.requires.orderly c.in_ok-changed.ensures
    (c.put_all.ensures ∙ ap (with_nights c.in_ok-changed.changed.items) c.reserve.ensures.items)
