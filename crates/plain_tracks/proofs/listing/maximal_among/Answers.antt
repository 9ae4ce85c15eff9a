use Rattle.std.proofs.Common.{◌≡◌, ◌↔◌, IsTrue, IfOk, length, map, sym, subst, ap, ◌∙◌, rules}
use Rattle.std.proofs.lemmas.Bool.{false≢true}
use Rattle.std.proofs.lemmas.Iterator.{items_from_collect}
use Rattle.std.proofs.lemmas.Iterator.Adapters.{YieldsList-from_vec}
use Rattle.std.proofs.lemmas.Iterator.Consumers.{YieldsList-end, YieldsList-turn, YieldsList-from_rest}
use Rattle.std.proofs.lemmas.List.{map-id}
use Rattle.std.proofs.lemmas.Result.{IfOk-weaker}
use Rattle.std.specs.BTreeMap.{values}
use Rattle.std.specs.List.{Contains}
use Rattle.sky_math.specs.Lists.{EachTwo}
use Rattle.sky_units.specs.TrackletData.{TrackSetData}
use Rattle.sky_units.specs.Tracks.{numbers_of}
use Rattle.plain_tracks.specs.Numbers.{IsMaximalAmong}
use Rattle.plain_tracks.proofs.Entries.{AreListed, listed_none, listed_one, listed_not, listed_end, once_each, rising_numbers}
use Rattle.plain_tracks.proofs.listing.maximal_among.Goals as goal

pub loop-set-init : goal.loop-set-init
loop-set-init c = listed_none (map (λ list. list.items) c.in_ok-lists.lists.items) c.new-listed.result.entries c.new-listed.ensures.empty c.new-listed.ensures.ordered

pub is_maximal-requires : goal.is_maximal-requires
is_maximal-requires c =
    let turn = YieldsList-turn (YieldsList-from_vec {s = c.into_iter-set-iterator.result} c.args.tracks.items (search rules) (search rules)) c.loop-set.yielded c.loop-set.set-iterator c.loop-set.yielded_by c.next.result c.next.new.self c.in-Some.set c.in-Some.is c.next.ensures.steps in
    let k : Contains c.args.tracks.items c.in-Some.set = (length c.loop-set.yielded, turn.0, sym turn.1) in
    record {
      different = rw (c.as_slice-in-loop-set.ensures.value, c.in_ok-key.ensures) (c.requires.different c.in-Some.set k);
      longest = rw (c.as_slice-in-loop-set-2.ensures.value, ← c.as_slice-2.ensures.value) c.longest-most.ensures;
    }

pub loop-set-preserved-in_ok-insert : goal.loop-set-preserved-in_ok-insert
loop-set-preserved-in_ok-insert c =
    let lists = map (λ list. list.items) c.in_ok-lists.lists.items in
    let max : IsTrue c.is_maximal.result ↔ IsMaximalAmong (map (λ list. list.items) c.in_ok-lists.lists.items) (numbers_of c.in-Some.set) =
    rw (c.as_slice-in-loop-set.ensures.value, c.as_slice-in-loop-set-2.ensures.value, c.in_ok-key.ensures) at c.is_maximal.ensures in
    listed_one lists c.loop-set.yielded c.in-Some.set c.loop-set.listed.entries c.insert.new.self.entries c.in_ok-key.key c.in_ok-key.ensures (max.0 c.if-is_maximal.true) c.in_ok-insert.ensures.entries c.in_ok-insert.ensures.ordered c.loop-set.invariant

pub loop-set-preserved-in_ok-insert-2 : goal.loop-set-preserved-in_ok-insert-2
loop-set-preserved-in_ok-insert-2 c =
    let lists = map (λ list. list.items) c.in_ok-lists.lists.items in
    let max : IsTrue c.is_maximal.result ↔ IsMaximalAmong (map (λ list. list.items) c.in_ok-lists.lists.items) (numbers_of c.in-Some.set) =
    rw (c.as_slice-in-loop-set.ensures.value, c.as_slice-in-loop-set-2.ensures.value, c.in_ok-key.ensures) at c.is_maximal.ensures in
    listed_one lists c.loop-set.yielded c.in-Some.set c.loop-set.listed.entries c.insert.new.self.entries c.in_ok-key.key c.in_ok-key.ensures (max.0 c.if-is_maximal.true) c.in_ok-insert.ensures.entries c.in_ok-insert.ensures.ordered c.loop-set.invariant

pub loop-set-preserved : goal.loop-set-preserved
loop-set-preserved c =
    let lists = map (λ list. list.items) c.in_ok-lists.lists.items in
    let max : IsTrue c.is_maximal.result ↔ IsMaximalAmong (map (λ list. list.items) c.in_ok-lists.lists.items) (numbers_of c.in-Some.set) =
    rw (c.as_slice-in-loop-set.ensures.value, c.as_slice-in-loop-set-2.ensures.value, c.in_ok-key.ensures) at c.is_maximal.ensures in
    listed_not lists c.loop-set.yielded c.in-Some.set c.loop-set.listed.entries (λ m. false≢true (sym c.if-is_maximal.false ∙ max.1 m)) c.loop-set.invariant

pub returns-clause-once : goal.returns-clause-once
returns-clause-once c =
    let got : IfOk c.collect.result (λ list. list.items ≡ values c.loop-set.listed) = items_from_collect _ c.collect.ensures.ran (YieldsList-from_rest (values c.loop-set.listed) c.into_values.ensures.rest) in
    IfOk-weaker c.collect.result (λ list. list.items ≡ values c.loop-set.listed) (λ list. EachTwo (λ one other. one ≡ other → ⊥) list.items)
    (λ list e. subst (λ sets. EachTwo (λ one other. one ≡ other → ⊥) sets) (sym e) (once_each (values c.loop-set.listed) (rising_numbers c.loop-set.listed.entries c.loop-set.invariant.entries c.loop-set.invariant.ordered))) got

pub returns-clause-listed : goal.returns-clause-listed
returns-clause-listed c =
    let got : IfOk c.collect.result (λ list. list.items ≡ values c.loop-set.listed) = items_from_collect _ c.collect.ensures.ran (YieldsList-from_rest (values c.loop-set.listed) c.into_values.ensures.rest) in
    let end = YieldsList-end (YieldsList-from_vec {s = c.into_iter-set-iterator.result} c.args.tracks.items (search rules) (search rules)) c.loop-set.yielded c.loop-set.set-iterator c.loop-set.yielded_by c.next.result c.next.new.self c.in-None.is c.next.ensures.steps in
    let seen : c.loop-set.yielded ≡ c.args.tracks.items = sym (map-id c.loop-set.yielded) ∙ end.0 in
    let lists : map (λ list. list.items) c.in_ok-lists.lists.items ≡ map numbers_of c.args.tracks.items = c.in_ok-lists.ensures ∙ ap (map numbers_of) c.as_slice.ensures.value in
    let all : AreListed (map numbers_of c.args.tracks.items) c.args.tracks.items c.loop-set.listed.entries = rw (seen, lists) at c.loop-set.invariant in
    IfOk-weaker c.collect.result (λ list. list.items ≡ values c.loop-set.listed) (λ list. (set : TrackSetData) → Contains list.items set ↔ (Contains c.args.tracks.items set × IsMaximalAmong (map numbers_of c.args.tracks.items) (numbers_of set)))
    (λ list e set. subst (λ sets. Contains sets set ↔ (Contains c.args.tracks.items set × IsMaximalAmong (map numbers_of c.args.tracks.items) (numbers_of set))) (sym e)
    (listed_end (map numbers_of c.args.tracks.items) c.args.tracks.items c.loop-set.listed.entries c.requires.known all set)) got
