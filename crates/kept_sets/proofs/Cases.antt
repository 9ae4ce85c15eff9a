-- Changes of one kept set.
use Rattle.std.proofs.Common.{◌≡◌, ℕ, ◌<◌, List, [], ◌∷◌, length, sym, subst, ◌∙◌, arith}
use Rattle.std.specs.List.{Contains}
use mathlib.Core.Logic.{◌⊎◌, inl, inr}
use Rattle.closed_sets.specs.Families.{IsSet}
use Rattle.kept_sets.specs.Changes.{AreReady, IsAfter}
use Rattle.kept_sets.specs.Lists.{AreDifferent, HoldsOne}
use Rattle.kept_sets.proofs.Basics.{front_or_rest, in_none, no_items}
use Rattle.kept_sets.proofs.Remaining.{first_of}

pub is_only : (grown set : List ℕ) → Contains (grown ∷ []) set → set ≡ grown
is_only grown set c = elim (front_or_rest grown [] set c) [ inl e ↦ sym e | inr d ↦ absurd (in_none set d) ]

-- a set alone that holds no item that came, and a grown set alone, or none
pub ready_one : (set went came grown : List ℕ) (now sets : List (List ℕ)) → IsSet set → ((other : List ℕ) → Contains now other → other ≡ set) → (HoldsOne came set → ⊥) → ((sets ≡ []) ⊎ ((sets ≡ grown ∷ []) × HoldsOne came grown × (HoldsOne went grown → ⊥))) → AreReady went came now sets
ready_one set went came grown now sets s only fresh (inl e) = record {
  sets = λ one c. subst IsSet (sym (only one c)) s;
  apart = λ one other c d a. only one c ∙ sym (only other d);
  fresh = λ one c h. fresh (subst (HoldsOne came) (only one c) h);
  once = subst AreDifferent (sym e) (λ i j d ij l. absurd (omega arith));
  new = λ one c. absurd (in_none one (subst (λ l. Contains l one) e c));
  left = λ one c. absurd (in_none one (subst (λ l. Contains l one) e c));
}
ready_one set went came grown now sets s only fresh (inr w) = record {
  sets = λ one c. subst IsSet (sym (only one c)) s;
  apart = λ one other c d a. only one c ∙ sym (only other d);
  fresh = λ one c h. fresh (subst (HoldsOne came) (only one c) h);
  once = subst AreDifferent (sym w.0) (λ i j d ij l. absurd (omega arith));
  new = λ one c. subst (HoldsOne came) (sym (is_only grown one (subst (λ l. Contains l one) w.0 c))) w.1;
  left = λ one c h. w.2 (subst (HoldsOne went) (is_only grown one (subst (λ l. Contains l one) w.0 c)) h);
}

-- the first set
pub ready_first : (set : List ℕ) (now sets : List (List ℕ)) → 0 < length set → now ≡ [] → sets ≡ set ∷ [] → AreReady [] set now sets
ready_first set now sets l e f =
    let one = first_of set l in
    ready_one [] [] set set now sets no_items (λ other c. absurd (in_none other (subst (λ s. Contains s other) e c))) (λ h. in_none h.0 h.2) (inr (f, (one.0, one.1, one.1), λ h. in_none h.0 h.1))

pub after_first : (set other : List ℕ) (sets : List (List ℕ)) → sets ≡ set ∷ [] → IsAfter [] set [] sets other → other ≡ set
after_first set other sets e (inl s) = absurd (in_none other s.was)
after_first set other sets e (inr (inl r)) = absurd (in_none r.whole r.was)
after_first set other sets e (inr (inr g)) = is_only set other (subst (λ l. Contains l other) e g)
