use Rattle.std.proofs.Common.{sym, subst, inl, inr}
use Rattle.std.proofs.lemmas.Bool.{cases_Bool}
use Rattle.box_tree.specs.Boxes.{Covers}
use Rattle.box_tree.proofs.OwnBoxes.{own_covers}
use Rattle.box_tree.proofs.two.wants_both.Goals as goal

pub returns-else-may-clause-wanted : goal.returns-else-may-clause-wanted
returns-else-may-clause-wanted g c =
    let a = g.A.Located in
    let b = g.B.Located in
    let x = c.args.item.now in
    let y = c.args.other.now in
    let one : Covers a.AXES (a.lows x) (a.highs x) c.args.own.now = subst (λ box. Covers a.AXES (a.lows x) (a.highs x) box) (sym c.requires) (own_covers a.AXES (a.lows x) (a.highs x) g.met.A.Located.few_axes.1) in
    let other : Covers b.AXES (b.lows y) (b.highs y) c.own_bounds.result = subst (λ box. Covers b.AXES (b.lows y) (b.highs y) box) (sym c.own_bounds.ensures) (own_covers b.AXES (b.lows y) (b.highs y) g.met.B.Located.few_axes.1) in
    elim (cases_Bool (g.P.Prune2.wanted c.args.prune.now x y)) [
      | inl is_wanted ↦
          let allowed = g.met.P.Prune2.loses_nothing c.args.prune.now x y c.args.own.now c.own_bounds.result is_wanted one other in
          let not = c.may.ensures in
          let false_is = c.if-may.false in
          cc
      | inr is_not ↦ sym is_not
    ]
