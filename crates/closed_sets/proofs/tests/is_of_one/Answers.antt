use Rattle.std.proofs.Common.{◌≡◌, ◌<◌, List, ℕ, map, take, length, refl, sym, subst, ◌∙◌, arith}
use Rattle.std.proofs.lemmas.Bool.{false≢true}
use Rattle.std.proofs.lemmas.List.{length-map, take_all}
use Rattle.std.specs.List.{Contains}
use Rattle.sky_units.specs.Tracks.{AreAmong}
use Rattle.closed_sets.proofs.Seen.{none_more, object_in}
use Rattle.closed_sets.proofs.tests.is_of_one.Goals as goal

pub loop-object-init : goal.loop-object-init
loop-object-init c = λ x d. (let l : d.0 < 0 = d.1 in absurd (omega arith))

pub returns-then-has_all : goal.returns-then-has_all
returns-then-has_all c =
    let among : AreAmong c.args.numbers.now c.object-item.result.items = subst (AreAmong c.args.numbers.now) c.as_slice.ensures.value (c.has_all.ensures.0 c.if-has_all.true) in
    (λ h. (c.object-item.result.items, object_in c.args.objects.now c.args.numbers.now c.loop-object.object-index c.object-item.result c.loop-object-test.true c.object-item.is, among), λ w. refl)

pub loop-object-preserved : goal.loop-object-preserved
loop-object-preserved c =
    none_more c.args.objects.now c.args.numbers.now c.loop-object.object-index c.object-item.result c.loop-object-test.true c.object-item.is c.loop-object.invariant
    (λ a. false≢true (sym c.if-has_all.false ∙ c.has_all.ensures.1 (subst (AreAmong c.args.numbers.now) (sym c.as_slice.ensures.value) a)))

pub returns : goal.returns
returns c =
    let objects = map (λ object. object.items) c.args.objects.now in
    let size : length objects ≡ length c.args.objects.now = length-map c.args.objects.now (λ object. object.items) in
    let whole : take c.loop-object.object-index objects ≡ objects = take_all c.loop-object.object-index objects (rw size c.loop-object-test.false) in (
      λ h. absurd (false≢true h),
      λ w. absurd (subst (λ (xs : List (List ℕ)). (x : List ℕ) → Contains xs x → ¬ AreAmong c.args.numbers.now x) whole c.loop-object.invariant w.0 w.1 w.2),
    )
