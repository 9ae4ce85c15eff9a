use Rattle.std.proofs.Common.{rules, refl, sym, ap, ◌∙◌, ◌≡◌, ◌↔◌, IsTrue, length, map, ◌+◌}
use Rattle.std.proofs.lemmas.Bool.{false≢true}
use Rattle.std.proofs.lemmas.Iterator.Adapters.{YieldsList-from_vec}
use Rattle.std.proofs.lemmas.Iterator.Consumers.{YieldsList-end, YieldsList-turn}
use Rattle.std.proofs.lemmas.List.{length_push, map-id}
use Rattle.sky_units.specs.Tracks.{numbers_of}
use Rattle.subset_drop.specs.Kept.{Stays}
use Rattle.subset_drop.proofs.Keeping.{AreKeptOfFirst, kept_all, kept_more, kept_none, kept_without}
use Rattle.subset_drop.proofs.Steps.{same_size}
use Rattle.subset_drop.proofs.dropping.drop_subsets.Goals as goal

pub loop-set-init : goal.loop-set-init
loop-set-init c = (refl, rw c.new-kept.ensures.items (kept_none (map (λ list. list.items) c.in_ok-lists.lists.items) c.args.list.items))

pub stays-requires-clause-place : goal.stays-requires-clause-place
stays-requires-clause-place c =
    let turn = YieldsList-turn (YieldsList-from_vec {s = c.into_iter-set-iterator.result} c.args.list.items (search rules) (search rules)) c.loop-set.yielded c.loop-set.set-iterator c.loop-set.yielded_by c.next.result c.next.new.self c.in-Some.set c.in-Some.is c.next.ensures.steps in
    let size : length c.in_ok-lists.lists.items ≡ length c.args.list.items = same_size c.in_ok-lists.lists.items c.args.list.items (c.in_ok-lists.ensures ∙ ap (map numbers_of) c.as_slice.ensures.value) in
    rw (c.as_slice-in-loop-set.ensures.value, size, c.loop-set.invariant.0) turn.0

pub loop-set-preserved-in-Continue-branch-3 : goal.loop-set-preserved-in-Continue-branch-3
loop-set-preserved-in-Continue-branch-3 c =
    let turn = YieldsList-turn (YieldsList-from_vec {s = c.into_iter-set-iterator.result} c.args.list.items (search rules) (search rules)) c.loop-set.yielded c.loop-set.set-iterator c.loop-set.yielded_by c.next.result c.next.new.self c.in-Some.set c.in-Some.is c.next.ensures.steps in
    let says : IsTrue c.stays.result ↔ Stays (map (λ list. list.items) c.in_ok-lists.lists.items) (length c.loop-set.yielded) = rw (c.as_slice-in-loop-set.ensures.value, c.loop-set.invariant.0) at c.stays.ensures in
    rw (length_push c.loop-set.yielded c.in-Some.set, c.in_ok-push.ensures.items)
    (ap (λ n. n + 1) c.loop-set.invariant.0, kept_more (map (λ list. list.items) c.in_ok-lists.lists.items) c.args.list.items c.loop-set.kept.items (length c.loop-set.yielded) c.in-Some.set turn.0 turn.1 (says.0 c.if-stays.true) c.loop-set.invariant.1)

pub loop-set-preserved : goal.loop-set-preserved
loop-set-preserved c =
    let says : IsTrue c.stays.result ↔ Stays (map (λ list. list.items) c.in_ok-lists.lists.items) (length c.loop-set.yielded) = rw (c.as_slice-in-loop-set.ensures.value, c.loop-set.invariant.0) at c.stays.ensures in
    rw (length_push c.loop-set.yielded c.in-Some.set)
    (ap (λ n. n + 1) c.loop-set.invariant.0, kept_without (map (λ list. list.items) c.in_ok-lists.lists.items) c.args.list.items c.loop-set.kept.items (length c.loop-set.yielded) (λ s. false≢true (sym c.if-stays.false ∙ says.1 s)) c.loop-set.invariant.1)

pub returns : goal.returns
returns c =
    let end = YieldsList-end (YieldsList-from_vec {s = c.into_iter-set-iterator.result} c.args.list.items (search rules) (search rules)) c.loop-set.yielded c.loop-set.set-iterator c.loop-set.yielded_by c.next.result c.next.new.self c.in-None.is c.next.ensures.steps in
    let seen : c.loop-set.yielded ≡ c.args.list.items = sym (map-id c.loop-set.yielded) ∙ end.0 in
    let lists : map (λ list. list.items) c.in_ok-lists.lists.items ≡ map numbers_of c.args.list.items = c.in_ok-lists.ensures ∙ ap (map numbers_of) c.as_slice.ensures.value in
    let all : AreKeptOfFirst (map numbers_of c.args.list.items) c.args.list.items (length c.args.list.items) c.loop-set.kept.items = rw (seen, lists) at c.loop-set.invariant.1 in
    kept_all c.args.list.items c.loop-set.kept.items all
