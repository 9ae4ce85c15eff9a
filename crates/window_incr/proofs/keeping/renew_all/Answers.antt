use Rattle.std.proofs.Common.{◌∙◌}
use Rattle.std.proofs.lemmas.Result.{on_ok_weaker}
use Rattle.window_incr.specs.Keeping.{WereNights}
use Rattle.window_incr.proofs.Kept.{follow_now, following, once_each, rising, were_all, work_of}
use Rattle.window_incr.proofs.keeping.renew_all.Goals as goal

were : (c : goal.After-renew_all-arg-3-1) → WereNights c.args.settings.now c.args.log.now c.args.nights.now.items c.in_ok-changed.changed.items
were c = were_all c.args.settings.now c.args.log.now c.args.nights.now.items c.in_ok-changed.changed.items c.args.outcomes.now c.window.ensures.orderly c.requires.had c.in_ok-changed.ensures

pub renew_all-requires-clause-rising : goal.renew_all-requires-clause-rising
renew_all-requires-clause-rising c = rising c.args.settings.now c.args.log.now c.args.nights.now.items c.in_ok-changed.changed.items (were c)

pub renew_all-requires-clause-follow : goal.renew_all-requires-clause-follow
renew_all-requires-clause-follow c = following c.args.settings.now c.args.log.now c.args.nights.now.items c.in_ok-changed.changed.items (were c)

pub renew_all-requires-clause-now : goal.renew_all-requires-clause-now
renew_all-requires-clause-now c = follow_now c.args.settings.now c.args.log.now c.args.nights.now.items c.in_ok-changed.changed.items (were c)

pub renew_all-requires-clause-different : goal.renew_all-requires-clause-different
renew_all-requires-clause-different c = once_each c.args.settings.now c.args.log.now c.args.nights.now.items c.in_ok-changed.changed.items (were c)

were_then : (c : goal.After-renew_all) → WereNights c.args.settings.now c.args.log.now c.args.nights.now.items c.in_ok-changed.changed.items
were_then c = were_all c.args.settings.now c.args.log.now c.args.nights.now.items c.in_ok-changed.changed.items c.args.outcomes.now c.window.ensures.orderly c.requires.had c.in_ok-changed.ensures

pub returns-clause-nights : goal.returns-clause-nights
returns-clause-nights c = on_ok_weaker c.renew_all.result (λ e. e ∙ (were_then c).renewed) c.renew_all.ensures.nights

pub returns-clause-work : goal.returns-clause-work
returns-clause-work c = work_of c.args.settings.now c.args.log.now c.args.nights.now.items c.in_ok-changed.changed.items (were_then c) c.args.kept.now.register.nights c.args.tally.now c.renew_all.new.tally c.renew_all.ensures.tests c.renew_all.ensures.calm
