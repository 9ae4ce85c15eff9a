-- The deviation of a spot as read, and the worse one of two candidates.
use Rattle.std.proofs.Common.{◌≡◌, ℕ, ◌+◌, ◌<◌, ◌≤◌, true, false, List, [], ◌∷◌, map, length, get_or, refl, sym, subst, ap, ◌∙◌, arith}
use Rattle.std.specs.Prelude.{if◌then◌else◌, nat_le}
use Rattle.std.proofs.lemmas.Bool.{cases_lt}
use Rattle.std.proofs.lemmas.List.{get_or-map, length-map}
use mathlib.Core.Logic.{inl, inr}
use Rattle.sky_units.specs.SpotData.{SpotData}
use Rattle.purge.specs.Purging.{deviation, deviations}
use Rattle.purge.specs.declared.farthest.Candidate.{Candidate}
use Rattle.purge.proofs.Greatest.{IsLastGreatest, at_least, below}

pub deviation_read : (spots : List SpotData) (first spot : SpotData) (k : ℕ) → first ≡ get_or spots 0 first → k < length spots → spot ≡ get_or spots k spot → deviation spots first spot ≡ get_or (deviations spots) k 0
deviation_read [] first spot k ef h e = absurd (omega arith)
deviation_read (a ∷ rest) first spot k ef h e =
    let spots : List SpotData = a ∷ rest in
    let f : first ≡ a = ef in
    let there : get_or (map (deviation spots a) spots) k 0 ≡ deviation spots a (get_or spots k spot) = get_or-map (deviation spots a) spots k spot 0 h in
    subst (λ (u : SpotData). deviation spots u spot ≡ get_or (deviations spots) k 0) (sym f) (ap (deviation spots a) e ∙ sym there)

not_le : (x y : ℕ) → y < x → nat_le x y ≡ false
not_le x y h = grind arith

is_le : (x y : ℕ) → x ≤ y → nat_le x y ≡ true
is_le x y h = grind arith

pub worse_step : (xs : List ℕ) (n : ℕ) (one later result : Candidate) → result ≡ (if nat_le one.deviation later.deviation then later else one) → later.at ≡ n → later.deviation ≡ get_or xs n 0 →
    IsLastGreatest xs n one.at one.deviation → IsLastGreatest xs (n + 1) result.at result.deviation
worse_step xs n one later result e ea ed so = elim (cases_lt later.deviation one.deviation) as (λ _. IsLastGreatest xs (n + 1) result.at result.deviation) [
  | inl l ↦
      let t = not_le one.deviation later.deviation l in
      let r : result ≡ one = rw t at e in
      subst (λ (c : Candidate). IsLastGreatest xs (n + 1) c.at c.deviation) (sym r) (below xs n one.at one.deviation later.deviation ed l so)
  | inr g ↦
      let t = is_le one.deviation later.deviation g in
      let r : result ≡ later = rw t at e in
      subst (λ (c : Candidate). IsLastGreatest xs (n + 1) c.at c.deviation) (sym r) (subst (λ (k : ℕ). IsLastGreatest xs (n + 1) k later.deviation) (sym ea) (at_least xs n one.at one.deviation later.deviation ed g so))
]

pub deviations_length : (spots : List SpotData) → length (deviations spots) ≡ length spots
deviations_length [] = refl
deviations_length (first ∷ rest) = length-map (first ∷ rest) (deviation (first ∷ rest) first)
