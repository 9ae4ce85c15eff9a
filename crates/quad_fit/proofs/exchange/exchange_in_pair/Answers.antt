use Rattle.std.proofs.Common.{ap}
use Rattle.sky_math.specs.Quadratics.{Point}
use Rattle.quad_fit.proofs.Exchanges.{OuterPair, steeper_before, steeper_after, bent_down, bent_up, above_means, below_means}
use Rattle.quad_fit.proofs.Times.{less, not_less}
use Rattle.quad_fit.proofs.exchange.exchange_in_pair.Goals as goal

pub returns-then-mark-last : goal.returns-then-mark-last
returns-then-mark-last c = λ tol line points t marks is level o.
    let outer : OuterPair tol line points c.args.pair.now c.args.outside.now.mark = record { marks = marks; tol_ok = t; is = is; level = level; among = o.among } in
    let far = above_means _ _ c.args.outside.now.above c.if-outside.true o.beyond in
    steeper_before tol line points c.args.pair.now c.args.outside.now.mark outer far (less _ _ _ _ _ _ c.mark.invariant c.last.invariant (ap (λ (x : Point). x.time) c.mark.view_is) (ap (λ (x : Point). x.time) c.last.view_is) c.if-mark-last.true)

pub returns-then-outside : goal.returns-then-outside
returns-then-outside c = λ tol line points t marks is level o.
    let outer : OuterPair tol line points c.args.pair.now c.args.outside.now.mark = record { marks = marks; tol_ok = t; is = is; level = level; among = o.among } in
    let far = above_means _ _ c.args.outside.now.above c.if-outside.true o.beyond in
    rw c.if-outside.true (bent_down tol line points c.args.pair.now c.args.outside.now.mark outer far (not_less _ _ _ _ _ _ c.mark.invariant c.last.invariant (ap (λ (x : Point). x.time) c.mark.view_is) (ap (λ (x : Point). x.time) c.last.view_is) c.if-mark-last.false))

pub returns-then-first-mark : goal.returns-then-first-mark
returns-then-first-mark c = λ tol line points t marks is level o.
    let outer : OuterPair tol line points c.args.pair.now c.args.outside.now.mark = record { marks = marks; tol_ok = t; is = is; level = level; among = o.among } in
    let far = below_means _ _ c.args.outside.now.above c.if-outside.false o.beyond in
    steeper_after tol line points c.args.pair.now c.args.outside.now.mark outer far (less _ _ _ _ _ _ c.first.invariant c.mark-2.invariant (ap (λ (x : Point). x.time) c.first.view_is) (ap (λ (x : Point). x.time) c.mark-2.view_is) c.if-first-mark.true)

pub returns : goal.returns
returns c = λ tol line points t marks is level o.
    let outer : OuterPair tol line points c.args.pair.now c.args.outside.now.mark = record { marks = marks; tol_ok = t; is = is; level = level; among = o.among } in
    let far = below_means _ _ c.args.outside.now.above c.if-outside.false o.beyond in
    rw c.if-outside.false (bent_up tol line points c.args.pair.now c.args.outside.now.mark outer far (not_less _ _ _ _ _ _ c.first.invariant c.mark-2.invariant (ap (λ (x : Point). x.time) c.first.view_is) (ap (λ (x : Point). x.time) c.mark-2.view_is) c.if-first-mark.false))
