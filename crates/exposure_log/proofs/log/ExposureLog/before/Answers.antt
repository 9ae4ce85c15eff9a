use Rattle.std.proofs.Common.{◌≡◌, ◌∙◌, sym, Some, None, ap, is_lt}
use Rattle.std.specs.declared.cmp.Ordering.{Ordering}
use Rattle.miti_text.specs.Observation.{Observation}
use Rattle.miti_text.specs.CanonicalOrder.{canonical_cmp}
use Rattle.exposure_log.proofs.HeldList.{held_is}
use Rattle.exposure_log.specs.Nights.{listed_of}
use Rattle.exposure_log.proofs.log.ExposureLog.before.Goals as goal

by_held : (x y d e : Observation) (r : Ordering) → Some x ≡ Some d → Some y ≡ Some e → r ≡ canonical_cmp x y → r ≡ canonical_cmp d e
by_held x y d e r p q h = let a : x ≡ d = cc in let b : y ≡ e = cc in h ∙ (ap (λ (z : Observation). canonical_cmp z y) a ∙ ap (λ (z : Observation). canonical_cmp d z) b)

pub returns-in-Some-Some : goal.returns-in-Some-Some
returns-in-Some-Some c = rw (← c.self.view_is) (λ d e hd he.
    let is = held_is c.self.inside.register (listed_of c.self.inside.nights) c.self.invariant.1 in
    c.is_lt.ensures ∙ ap is_lt (by_held c.in-Some-Some.first.now c.in-Some-Some.second.now d e c.compare.result
    (c.in-Some-Some.ensures ∙ (sym (is c.args.a) ∙ hd)) (c.in-Some-Some.ensures' ∙ (sym (is c.args.b) ∙ he)) c.compare.ensures))

pub returns-in_default : goal.returns-in_default
returns-in_default c = rw (← c.self.view_is) (λ d e hd he.
    let is = held_is c.self.inside.register (listed_of c.self.inside.nights) c.self.invariant.1 c.args.b in
    let no : None ≡ Some e = c.in_default.ensures' ∙ (sym is ∙ he) in cc)

pub returns-in_default-2 : goal.returns-in_default-2
returns-in_default-2 c = rw (← c.self.view_is) (λ d e hd he.
    let is = held_is c.self.inside.register (listed_of c.self.inside.nights) c.self.invariant.1 c.args.a in
    let no : None ≡ Some d = c.in_default.ensures ∙ (sym is ∙ hd) in cc)
