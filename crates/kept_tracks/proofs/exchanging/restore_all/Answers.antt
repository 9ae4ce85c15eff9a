use Rattle.std.proofs.Common.{◌≡◌, List, [], ◌∷◌, ◌++◌, length, reverse, sym, subst, ap, ◌∙◌, w64, SFits, rules, arith}
use Rattle.std.proofs.lemmas.Int.{to_z-of_z}
use Rattle.std.proofs.lemmas.List.{reverse-append}
use Rattle.tracklet_register.specs.Registers.{AreAlike, RegisterData}
use Rattle.tracklet_register.specs.Replacing.{CanReturn}
use Rattle.kept_tracks.specs.Undoing.{CanBeUndone, IsRestored}
use Rattle.kept_tracks.specs.declared.exchanging.Replacement.{Replacement}
use Rattle.kept_tracks.proofs.exchanging.restore_all.Goals as goal

pub loop-one-init : goal.loop-one-init
loop-one-init c = λ first undone. undone

-- the latest that is left is undone next
next : (first register : RegisterData) (rest popped : List Replacement) (one : Replacement) → rest ≡ popped ++ one ∷ [] → CanBeUndone first (reverse rest) register → CanBeUndone first (one ∷ reverse popped) register
next first register rest popped one is undone = subst (λ (list : List Replacement). CanBeUndone first list register) (ap reverse is ∙ reverse-append popped (one ∷ [])) undone

pub restore-requires : goal.restore-requires
restore-requires c =
    let fits : SFits w64 c.in-Some.one.night = search rules in
    let undone = next c.requires.0 c.loop-one.register c.loop-one.rest.items c.pop.new.self.items c.in-Some.one c.in-Some.ensures.items (c.loop-one.invariant c.requires.0 c.requires.1) in
    subst (λ n. CanReturn c.loop-one.register n c.in-Some.one.exchange.before.items c.in-Some.one.exchange.came.items) (sym (to_z-of_z w64 c.in-Some.one.night fits)) undone.0

pub loop-one-preserved : goal.loop-one-preserved
loop-one-preserved c = λ first start.
    let fits : SFits w64 c.in-Some.one.night = search rules in
    let plain = to_z-of_z w64 c.in-Some.one.night fits in
    let undone = next first c.loop-one.register c.loop-one.rest.items c.pop.new.self.items c.in-Some.one c.in-Some.ensures.items (c.loop-one.invariant first start) in
    undone.1 c.restore.new.self (subst (λ n. IsRestored c.loop-one.register n c.in-Some.one.exchange.before.items c.in-Some.one.exchange.came.items c.restore.new.self) plain (record {
      here = c.restore.ensures.here;
      elsewhere = c.restore.ensures.elsewhere;
      freed = c.restore.ensures.came;
      others = c.restore.ensures.others;
      entered = c.restore.ensures.entered;
    }))

-- nothing is left
none_left : (first register : RegisterData) (rest : List Replacement) → length rest ≡ 0 → CanBeUndone first (reverse rest) register → AreAlike first register
none_left first register [] none undone = undone
none_left first register (one ∷ rest) none undone = absurd (omega (arith, none))

pub returns : goal.returns
returns c = λ first start. none_left first c.loop-one.register c.loop-one.rest.items (omega (arith, c.in_default.ensures.cases, c.loop-one.rest.ok.0)) (c.loop-one.invariant first start)
