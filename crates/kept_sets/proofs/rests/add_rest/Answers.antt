use Rattle.std.proofs.Common.{◌≡◌, ℕ, ◌+◌, ◌≤◌, Vec, Global, List, [], ◌∷◌, ◌++◌, length, map, refl, sym, subst, ap, ◌∙◌, arith, rules}
use Rattle.std.proofs.lemmas.Bool.{false≢true}
use Rattle.std.proofs.lemmas.List.{length-map, map-append}
use Rattle.std.specs.List.{Contains}
use mathlib.Core.Logic.{inl, inr}
use Rattle.kept_sets.specs.declared.finding.Holders.{Holders}
use Rattle.kept_sets.specs.Lists.{less}
use Rattle.kept_sets.specs.Stored.{IsFound, at}
use Rattle.kept_sets.proofs.Remaining.{found_push}
use Rattle.kept_sets.proofs.rests.add_rest.Goals as goal

abbrev items_of : Vec ℕ Global → List ℕ
items_of set = set.items

abbrev places_of : Holders → List ℕ
places_of holders = holders.places.items

pub returns-then-not-is_allowed-clause-added : goal.returns-then-not-is_allowed-clause-added
returns-then-not-is_allowed-clause-added c =
    let is : c.in_ok-rest.rest.items ≡ less c.args.went.now (at (map items_of c.args.sets.now) c.args.place) = c.in_ok-rest.ensures ∙ ap (less c.args.went.now) c.set_at.ensures in
    let says = rw (c.as_slice.ensures.value, c.as_slice-3.ensures.value, is) at c.if-not-is_allowed.ensures in
    inr (λ top. false≢true (says.1 top.allowed), refl)

pub returns : goal.returns
returns c =
    let sets = map items_of c.args.sets.now in
    let added = map items_of c.args.added.now.items in
    let rest = less c.args.went.now (at (map items_of c.args.sets.now) c.args.place) in
    let is : c.in_ok-rest.rest.items ≡ less c.args.went.now (at (map items_of c.args.sets.now) c.args.place) = c.in_ok-rest.ensures ∙ ap (less c.args.went.now) c.set_at.ensures in
    let says = rw (c.as_slice.ensures.value, c.as_slice-3.ensures.value, is) at c.if-not-is_allowed.ensures in
    let long : 3 ≤ length c.in_ok-rest.rest.items = search rules in
    let large : 3 ≤ length rest = subst (λ (l : List ℕ). 3 ≤ length l) is long in
    let now : map items_of c.push.new.self.items ≡ added ++ rest ∷ [] = ap (map items_of) c.in_ok-push.ensures.items ∙ map-append items_of c.args.added.now.items (c.in_ok-rest.rest ∷ []) ∙ ap (λ l. added ++ l ∷ []) is in
    let one = ap length c.as_slice-5.ensures.value in
    let two : length (map items_of c.args.sets.now) ≡ length c.args.sets.now = length-map c.args.sets.now items_of in
    let three : length (map items_of c.args.added.now.items) ≡ length c.args.added.now.items = length-map c.args.added.now.items items_of in
    let place : length c.args.sets.now + length c.as_slice-5.result.now ≡ length (map items_of c.args.sets.now) + length (map items_of c.args.added.now.items) = omega arith in
    let entered : (item : ℕ) → Contains rest item → Contains (at (map places_of c.enter.new.index.items) item) (length (map items_of c.args.sets.now) + length (map items_of c.args.added.now.items)) =
    λ item d. subst (Contains (at (map places_of c.enter.new.index.items) item)) place (c.in_ok-enter.ensures.entered item (subst (λ s. Contains s item) (sym (c.as_slice-4.ensures.value ∙ is)) d)) in
    record {
      wider = c.enter.ensures.wider;
      found = subst (λ l. IsFound (sets ++ l) (map places_of c.enter.new.index.items)) (sym now) (found_push sets added (map places_of c.args.index.now.items) (map places_of c.enter.new.index.items) rest c.requires.found c.enter.ensures.wider entered);
      added = inl (record { large = large; allowed = says.0 refl }, now);
    }
