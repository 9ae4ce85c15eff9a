use Rattle.std.proofs.Common.{ap}
use Rattle.sky_math.specs.Quadratics.{Point}
use Rattle.quad_fit.proofs.Exchanges.{Outer, outer_before, outer_after, inner_between, inner_before, inner_after, same_side, other_side}
use Rattle.quad_fit.proofs.Times.{at_most, not_at_most, less, not_less}
use Rattle.quad_fit.proofs.exchange.exchange.Goals as goal

pub returns-then-mark-first : goal.returns-then-mark-first
returns-then-mark-first c = λ tol curve points t marks is levelled o.
    let outer : Outer tol c.args.up curve points c.args.triple.now c.args.outside.now.mark = record { marks = marks; tol_ok = t; is = is; levelled = levelled; among = o.among } in
    let far = same_side c.args.up c.args.outside.now.above _ _ c.if-outside-up.true o.beyond in
    inner_before tol c.args.up curve points c.args.triple.now c.args.outside.now.mark outer far (at_most _ _ _ _ _ _ c.mark.invariant c.first.invariant (ap (λ (x : Point). x.time) c.mark.view_is) (ap (λ (x : Point). x.time) c.first.view_is) c.if-mark-first.true)

pub returns-then-last-mark : goal.returns-then-last-mark
returns-then-last-mark c = λ tol curve points t marks is levelled o.
    let outer : Outer tol c.args.up curve points c.args.triple.now c.args.outside.now.mark = record { marks = marks; tol_ok = t; is = is; levelled = levelled; among = o.among } in
    let far = same_side c.args.up c.args.outside.now.above _ _ c.if-outside-up.true o.beyond in
    inner_after tol c.args.up curve points c.args.triple.now c.args.outside.now.mark outer far (at_most _ _ _ _ _ _ c.last.invariant c.mark.invariant (ap (λ (x : Point). x.time) c.last.view_is) (ap (λ (x : Point). x.time) c.mark.view_is) c.if-last-mark.true)

pub returns-then-outside-up : goal.returns-then-outside-up
returns-then-outside-up c = λ tol curve points t marks is levelled o.
    let outer : Outer tol c.args.up curve points c.args.triple.now c.args.outside.now.mark = record { marks = marks; tol_ok = t; is = is; levelled = levelled; among = o.among } in
    let far = same_side c.args.up c.args.outside.now.above _ _ c.if-outside-up.true o.beyond in
    inner_between tol c.args.up curve points c.args.triple.now c.args.outside.now.mark outer far (not_at_most _ _ _ _ _ _ c.mark.invariant c.first.invariant (ap (λ (x : Point). x.time) c.mark.view_is) (ap (λ (x : Point). x.time) c.first.view_is) c.if-mark-first.false) (not_at_most _ _ _ _ _ _ c.last.invariant c.mark.invariant (ap (λ (x : Point). x.time) c.last.view_is) (ap (λ (x : Point). x.time) c.mark.view_is) c.if-last-mark.false)

pub returns-then-mark-middle : goal.returns-then-mark-middle
returns-then-mark-middle c = λ tol curve points t marks is levelled o.
    let outer : Outer tol c.args.up curve points c.args.triple.now c.args.outside.now.mark = record { marks = marks; tol_ok = t; is = is; levelled = levelled; among = o.among } in
    let far = other_side c.args.up c.args.outside.now.above _ _ c.if-outside-up.false o.beyond in
    outer_before tol c.args.up curve points c.args.triple.now c.args.outside.now.mark outer far (less _ _ _ _ _ _ c.mark-2.invariant c.middle.invariant (ap (λ (x : Point). x.time) c.mark-2.view_is) (ap (λ (x : Point). x.time) c.middle.view_is) c.if-mark-middle.true)

pub returns-else-mark-middle : goal.returns-else-mark-middle
returns-else-mark-middle c = λ tol curve points t marks is levelled o.
    let outer : Outer tol c.args.up curve points c.args.triple.now c.args.outside.now.mark = record { marks = marks; tol_ok = t; is = is; levelled = levelled; among = o.among } in
    let far = other_side c.args.up c.args.outside.now.above _ _ c.if-outside-up.false o.beyond in
    outer_after tol c.args.up curve points c.args.triple.now c.args.outside.now.mark outer far (not_less _ _ _ _ _ _ c.mark-2.invariant c.middle.invariant (ap (λ (x : Point). x.time) c.mark-2.view_is) (ap (λ (x : Point). x.time) c.middle.view_is) c.if-mark-middle.false)
