use Rattle.std.proofs.Common.{sym, inl, inr}
use Rattle.std.proofs.lemmas.Bool.{cases_Bool}
use Rattle.box_tree.proofs.OwnBoxes.{own_is_cover}
use Rattle.box_tree.proofs.three.wants_all.Goals as goal

pub returns-else-may-clause-wanted : goal.returns-else-may-clause-wanted
returns-else-may-clause-wanted g c =
    let a = g.A.Located in
    let b = g.B.Located in
    let d = g.C.Located in
    let x = c.args.item.now in
    let y = c.args.partner.now in
    let z = c.args.third.now in
    let one = own_is_cover a.AXES a.lows a.highs x c.args.own.now g.met.A.Located.few_axes.1 c.requires.own in
    let other = own_is_cover b.AXES b.lows b.highs y c.args.partners_own.now g.met.B.Located.few_axes.1 c.requires.partners_own in
    let third = own_is_cover d.AXES d.lows d.highs z c.own_bounds.result g.met.C.Located.few_axes.1 c.own_bounds.ensures in
    elim (cases_Bool (g.P.Prune3.wanted c.args.prune.now x y z)) [
      | inl is_wanted ↦
          let allowed = g.met.P.Prune3.loses_nothing c.args.prune.now x y z c.args.own.now c.args.partners_own.now c.own_bounds.result is_wanted one other third in
          let not = c.may.ensures in
          let false_is = c.if-may.false in
          cc
      | inr is_not ↦ sym is_not
    ]
