-- Letting go of the detections of exposures, one exposure after another.
use Rattle.std.proofs.Common.{◌≡◌, ℕ, ◌+◌, ◌<◌, ◌==◌, ℤ, Bool, true, false, ◌||◌, cond, Option, None, List, length, get_or, take, refl, sym, ap, ◌∙◌, arith, inl, inr, length-take}
use Rattle.std.specs.List.{All, list_any, sum_by}
use Rattle.std.specs.declared.cmp.Ordering.{Ordering}
use Rattle.std.specs.declared.cmp.Ordering.TheVariants.{Less, Equal}
use Rattle.std.proofs.lemmas.Bool.{cases_Bool}
use Rattle.std.proofs.lemmas.Cmp.{tied_itself}
use Rattle.std.proofs.lemmas.List.{get_or-take}
use Rattle.std.proofs.lemmas.List.Folds.{list_any_more}
use Rattle.std.proofs.lemmas.List.Sums.{sum_by_more}
use Rattle.miti_text.specs.Observation.{Observation}
use Rattle.exposure_log.specs.declared.numbered.NumberedExposure.{NumberedExposure}
use Rattle.exposure_log.specs.Numbered.{IsNumbered, RiseStrictly}
use Rattle.number_register.specs.Numbering.{without_numbers}
use Rattle.exposure_log.proofs.Order.{place_total, by_place, place_of}
use Rattle.exposure_log.proofs.Leaving.{any_found, one_place}

abbrev Slots : Type 0
Slots = List (Option Observation)

abbrev among : ℕ → List ℕ → Bool
among k numbers = list_any (λ n. n == k) numbers

-- a number is that of one of the exposures
abbrev pub in_some : List NumberedExposure → ℕ → Bool
in_some listed n = list_any (λ g. among n g.numbers.items) listed

not_less : (r : Ordering) → r ≡ Equal → r ≡ Less → ⊥
not_less r e h = let no : Equal ≡ Less = sym e ∙ h in cc

pair : (e e' : ℤ) (s s' : List ℕ) → e ≡ e' → s ≡ s' → by_place (e, s) (e', s') ≡ Equal
pair e e' s s' p q = ap (λ (x : ℤ). by_place (x, s) (e', s')) p ∙ (ap (λ (x : List ℕ). by_place (e', x) (e', s')) q ∙ tied_itself place_total (e', s'))

-- an exposure's numbers are not those of the exposures before it
pub in_none_before : (slots : Slots) (listed : List NumberedExposure) → RiseStrictly listed → All (IsNumbered slots) listed → (i : ℕ) (g : NumberedExposure) → i < length listed → g ≡ get_or listed i g → (n : ℕ) → among n g.numbers.items ≡ true → in_some (take i listed) n ≡ false
in_none_before slots listed rise each i g h is n m = elim (cases_Bool (in_some (take i listed) n)) [
  | inl y ↦
      let there = any_found (λ (x : NumberedExposure). among n x.numbers.items) (take i listed) y in
      let lt : there.0 < i = omega (arith, there.1.0, length-take i listed) in
      let within : there.0 < length listed = omega (arith, lt, h) in
      let same = get_or-take i listed there.0 g lt in
      let has : among n (get_or listed there.0 g).numbers.items ≡ true = ap (λ (x : NumberedExposure). among n x.numbers.items) (sym same) ∙ there.1.1 g in
      let mine : among n (get_or listed i g).numbers.items ≡ true = ap (λ (x : NumberedExposure). among n x.numbers.items) (sym is) ∙ m in
      let places = one_place slots (get_or listed there.0 g) (get_or listed i g) (each there.0 g within) (each i g h) n has mine in
      absurd (not_less (by_place (place_of (get_or listed there.0 g)) (place_of (get_or listed i g)))
      (pair (get_or listed there.0 g).epoch (get_or listed i g).epoch (get_or listed there.0 g).site (get_or listed i g).site places.0 places.1)
      (rise there.0 i g lt h))
  | inr f ↦ f
]

-- one exposure more

both_gone : (earlier here : Bool) (held : Option Observation) → cond here None (cond earlier None held) ≡ cond (earlier || here) None held
both_gone true true held = refl
both_gone true false held = refl
both_gone false true held = refl
both_gone false false held = refl

pub gone_more : (at was : ℕ → Option Observation) (listed : List NumberedExposure) (i : ℕ) (g : NumberedExposure) → i < length listed → g ≡ get_or listed i g
    → ((n : ℕ) → at n ≡ cond (in_some (take i listed) n) None (was n)) → (n : ℕ) → without_numbers at g.numbers.items n ≡ cond (in_some (take (i + 1) listed) n) None (was n)
gone_more at was listed i g h is says n =
    let more : in_some (take (i + 1) listed) n ≡ (in_some (take i listed) n || among n g.numbers.items) =
    list_any_more (λ (x : NumberedExposure). among n x.numbers.items) listed i g h ∙ ap (λ (x : NumberedExposure). in_some (take i listed) n || among n x.numbers.items) (sym is) in
    rw more (ap (λ (held : Option Observation). cond (among n g.numbers.items) None held) (says n) ∙ both_gone (in_some (take i listed) n) (among n g.numbers.items) (was n))

pub sum_more : (listed : List NumberedExposure) (i : ℕ) (g : NumberedExposure) → i < length listed → g ≡ get_or listed i g → sum_by (λ g. length g.numbers.items) (take (i + 1) listed) ≡ sum_by (λ g. length g.numbers.items) (take i listed) + length g.numbers.items
sum_more listed i g h is = sum_by_more (λ (x : NumberedExposure). length x.numbers.items) listed i g h ∙ ap (λ (x : NumberedExposure). sum_by (λ g. length g.numbers.items) (take i listed) + length x.numbers.items) (sym is)
