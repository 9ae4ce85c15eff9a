use Rattle.std.proofs.Common.{◌≡◌, ◌++◌, ◌∷◌, [], ◌≤◌, ℕ, List, length, map, take, refl, sym, subst}
use Rattle.std.proofs.lemmas.Bool.{false≢true}
use Rattle.std.proofs.lemmas.List.{length-map, take_all}
use Rattle.std.proofs.lemmas.List.Elements.{Contains-push_cases}
use Rattle.std.specs.List.{Contains}
use mathlib.Core.Logic.{inl, inr}
use Rattle.sky_units.specs.Tracks.{AreAmong}
use Rattle.plain_tracks.specs.Numbers.{IsMaximalAmong}
use Rattle.plain_tracks.proofs.Crowded.{crowded_all}
use Rattle.plain_tracks.proofs.Steps.{in_none, mapped, taken}
use Rattle.plain_tracks.proofs.maximal.is_maximal.Goals as goal

pub loop-list-init : goal.loop-list-init
loop-list-init c = λ other k. absurd (in_none other k)

pub returns-then-numbers-longest : goal.returns-then-numbers-longest
returns-then-numbers-longest c =
    let m : IsMaximalAmong (map (λ list. list.items) c.args.lists.now) c.args.numbers.now = crowded_all c.args.numbers.now c.args.lists.now c.args.longest c.requires.different c.requires.longest c.if-numbers-longest.true in
    (λ h. m, λ w. refl)

pub returns-then-are_part : goal.returns-then-are_part
returns-then-are_part c =
    let at = mapped (λ list. list.items) c.args.lists.now c.loop-list.list-index c.list-item.result c.loop-list-test.true c.list-item.is in
    let k : Contains (map (λ list. list.items) c.args.lists.now) c.list-item.result.items = (c.loop-list.list-index, at.0, sym at.1) in
    let p : AreAmong c.args.numbers.now c.list-item.result.items × ¬ AreAmong c.list-item.result.items c.args.numbers.now = rw c.as_slice.ensures.value at c.if-are_part.ensures in
    (λ h. absurd (false≢true h), λ m. absurd (p.1 (m c.list-item.result.items k p.0)))

one_more : (lists : List (List ℕ)) (list numbers : List ℕ) → (AreAmong numbers list → AreAmong list numbers) → IsMaximalAmong lists numbers → IsMaximalAmong (lists ++ list ∷ []) numbers
one_more lists list numbers h m = λ other k. elim (Contains-push_cases lists list other k) [
  | inl c ↦ m other c
  | inr e ↦ subst (λ o. AreAmong numbers o → AreAmong o numbers) e h
]

pub loop-list-preserved : goal.loop-list-preserved
loop-list-preserved c =
    let at = mapped (λ list. list.items) c.args.lists.now c.loop-list.list-index c.list-item.result c.loop-list-test.true c.list-item.is in
    let more = taken (map (λ list. list.items) c.args.lists.now) c.loop-list.list-index c.list-item.result.items at.0 at.1 in
    let step : AreAmong c.args.numbers.now c.list-item.result.items → AreAmong c.list-item.result.items c.args.numbers.now = rw c.as_slice.ensures.value at c.if-are_part.ensures in
    rw more (one_more (take c.loop-list.list-index (map (λ list. list.items) c.args.lists.now)) c.list-item.result.items c.args.numbers.now step c.loop-list.invariant)

pub returns : goal.returns
returns c =
    let l : length (map (λ list. list.items) c.args.lists.now) ≤ c.loop-list.list-index = simp length-map c.loop-list-test.false in
    let all : take c.loop-list.list-index (map (λ list. list.items) c.args.lists.now) ≡ map (λ list. list.items) c.args.lists.now = take_all c.loop-list.list-index (map (λ list. list.items) c.args.lists.now) l in
    let m : IsMaximalAmong (map (λ list. list.items) c.args.lists.now) c.args.numbers.now = rw all at c.loop-list.invariant in
    (λ h. m, λ w. refl)
