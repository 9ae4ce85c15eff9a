-- The rests that stay: where a rest stays beside a set, and grown sets with the rests of the sets at some places.
use Rattle.std.proofs.Common.{◌≡◌, ℕ, zero, suc, ◌+◌, ◌-◌, ◌<◌, ◌≤◌, List, [], ◌∷◌, ◌++◌, length, get_or, refl, sym, subst, ap, ◌∙◌, ◌↔◌, arith, append_assoc, length-append}
use Rattle.std.proofs.lemmas.Bool.{cases_lt}
use Rattle.std.proofs.lemmas.List.{get_or_default, get_or_append_left, get_or-append_right}
use Rattle.std.proofs.lemmas.List.Elements.{All-contains, Contains-append_left, Contains-get_or, Contains-push, Contains-push_cases}
use Rattle.std.specs.List.{All, Contains}
use mathlib.Core.Logic.{inl, inr}
use Rattle.closed_sets.specs.Families.{IsSet}
use Rattle.sky_units.specs.Tracks.{AreAmong}
use Rattle.kept_sets.specs.Lists.{AreDifferent, less}
use Rattle.kept_sets.specs.Stored.{Allows, AreAdded, IsFound, IsRestAdded, IsRestAt, IsTopRest, IsWider, at}
use Rattle.kept_sets.proofs.Basics.{among_itself, among_then, in_front, in_none, less_among, less_is_set, listed_or_not, member, same_sets}
use Rattle.kept_sets.proofs.Entered.{at_left, at_right, found_all, in_sets, wider_itself, wider_then}

module _ (old added : List (List ℕ)) (went rest : List ℕ) (place : ℕ) where
  pub allows_old : place < length old → Allows old added went rest place ↔ (AreAmong rest (at old place) → AreAmong (less went (at old place)) rest)
  allows_old l =
      let e = at_left old added place l in
      (λ h a. (h (subst (AreAmong rest) (sym e) a)).1, λ h a. (l, h (subst (AreAmong rest) e a)))

  pub allows_added : length old ≤ place → Allows old added went rest place ↔ (AreAmong rest (at added (place - length old)) → ⊥)
  allows_added l =
      let e = at_right old added place l in
      (λ h a. let below = (h (subst (AreAmong rest) (sym e) a)).0 in (let never : ⊥ = omega arith in never), λ h a. absurd (h (subst (AreAmong rest) e a)))

-- an item of a set that has some
pub first_of : (set : List ℕ) → 0 < length set → (item : ℕ) × Contains set item
first_of [] l = absurd (omega arith)
first_of (x ∷ xs) l = (x, in_front x xs)

-- where all places of one of its items let a rest go, all places do
pub allowed_everywhere : (old added index : List (List ℕ)) (went rest places : List ℕ) → IsFound (old ++ added) index → ((item : ℕ) × Contains rest item × (places ≡ at index item)) → All (Allows old added went rest) places → (place : ℕ) → Allows old added went rest place
allowed_everywhere old added index went rest places found w all place a =
    let here = found.places place w.0 (member rest (at (old ++ added) place) a w.0 w.1) in
    All-contains (Allows old added went rest) places place all (subst (λ l. Contains l place) (sym w.2) here) a

pub at_member : (sets : List (List ℕ)) (set : List ℕ) (c : Contains sets set) → at sets c.0 ≡ set
at_member sets set c = get_or_default sets c.0 [] set c.1 ∙ c.2

-- a set more that is none of some different ones
pub different_push : (sets : List (List ℕ)) (set : List ℕ) → AreDifferent sets → (Contains sets set → ⊥) → AreDifferent (sets ++ set ∷ [])
different_push sets set once n = λ i j d ij l e.
    let size : length (sets ++ set ∷ []) ≡ length sets + 1 = length-append sets (set ∷ []) in
    let one : get_or (sets ++ set ∷ []) i d ≡ get_or sets i d = get_or_append_left sets (set ∷ []) d i (omega arith) in
    elim (cases_lt j (length sets)) [
      | inl k ↦ once i j d ij k (sym one ∙ e ∙ get_or_append_left sets (set ∷ []) d j k)
      | inr k ↦
          let zeroth : j - length sets ≡ 0 = omega arith in
          let last : get_or (sets ++ set ∷ []) j d ≡ set = get_or-append_right sets (set ∷ []) (length sets) j d refl k ∙ ap (λ p. get_or (set ∷ []) p d) zeroth in
          n (subst (Contains sets) (sym one ∙ e ∙ last) (Contains-get_or sets i d (omega arith)))
    ]

module _ (old : List (List ℕ)) (went rest : List ℕ) where
  -- at the place of an old set a rest that is let go has all of the old set's rest
  pub beside_old : (more : List (List ℕ)) → IsTopRest old more went rest → (place : ℕ) → AreAmong rest (at old place) → AreAmong (less went (at old place)) rest
  beside_old more top place a =
      let large = top.large in
      let one = first_of rest (omega arith) in
      let inside = in_sets old place one.0 (member rest (at old place) a one.0 one.1) in
      (allows_old old more went rest place inside).0 (top.allowed place) a

  pub beside_added : (more : List (List ℕ)) → IsTopRest old more went rest → (other : List ℕ) → Contains more other → AreAmong rest other → ⊥
  beside_added more top other c a =
      let e : at more (length old + c.0 - length old) ≡ other = ap (at more) (omega arith) ∙ at_member more other c in
      (allows_added old more went rest (length old + c.0) (omega arith)).0 (top.allowed (length old + c.0)) (subst (AreAmong rest) (sym e) a)

  -- fewer sets let go what more sets do
  top_of_fewer : (more fewer : List (List ℕ)) → ((set : List ℕ) → Contains fewer set → Contains more set) → IsTopRest old more went rest → IsTopRest old fewer went rest
  top_of_fewer more fewer within top = record {
    large = top.large;
    allowed = λ place. elim (cases_lt place (length old)) [
      | inl l ↦ (allows_old old fewer went rest place l).1 (beside_old more top place)
      | inr l ↦ (allows_added old fewer went rest place l).1 (λ a.
          let large = top.large in
          let one = first_of rest (omega arith) in
          let inside = in_sets fewer (place - length old) one.0 (member rest (at fewer (place - length old)) a one.0 one.1) in
          beside_added more top (at fewer (place - length old)) (within (at fewer (place - length old)) (Contains-get_or fewer (place - length old) [] inside)) a)
    ];
  }

module _ (old : List (List ℕ)) (went : List ℕ) (grown : List (List ℕ)) (sets : (place : ℕ) → IsSet (at old place)) where
  pub added_none : AreDifferent grown → AreAdded old went grown [] grown
  added_none once = record { once = once; exactly = λ set. (λ c. inl c, λ w. elim w [ inl c ↦ c | inr r ↦ absurd (in_none r.place r.listed) ]) }

  later : (places : List ℕ) (place : ℕ) (set : List ℕ) → IsRestAt old went grown places set → IsRestAt old went grown (places ++ place ∷ []) set
  later places place set r = record { place = r.place; listed = Contains-append_left places (place ∷ []) r.place r.listed; is = r.is; top = r.top }

  module _ (places : List ℕ) (place : ℕ) (added : List (List ℕ)) (are : AreAdded old went grown places added) where
    with_rest : IsTopRest old added went (less went (at old place)) → AreAdded old went grown (places ++ place ∷ []) (added ++ less went (at old place) ∷ [])
    with_rest top = record {
      once = different_push added (less went (at old place)) are.once (λ c. beside_added old went (less went (at old place)) added top (less went (at old place)) c (among_itself (less went (at old place))));
      exactly = λ set. (
        λ c. elim (Contains-push_cases added (less went (at old place)) set c) [
          | inl d ↦ elim ((are.exactly set).0 d) [ inl g ↦ inl g | inr r ↦ inr (later places place set r) ]
          | inr e ↦ inr (record {
            place = place;
            listed = Contains-push places place;
            is = sym e;
            top = subst (IsTopRest old grown went) e (top_of_fewer old went (less went (at old place)) added grown (λ other d. (are.exactly other).1 (inl d)) top);
          })
        ],
        λ w. elim w [
          | inl g ↦ Contains-append_left added (less went (at old place) ∷ []) set ((are.exactly set).1 (inl g))
          | inr r ↦ elim (Contains-push_cases places place r.place r.listed) [
            | inl d ↦ Contains-append_left added (less went (at old place) ∷ []) set ((are.exactly set).1 (inr (record { place = r.place; listed = d; is = r.is; top = r.top })))
            | inr e ↦
                let same : less went (at old place) ≡ set = ap (λ p. less went (at old p)) e ∙ sym r.is in
                subst (Contains (added ++ less went (at old place) ∷ [])) same (Contains-push added (less went (at old place)))
          ]
        ],
      );
    }

    -- a rest that is let go by the grown sets and not by the added ones is one of these
    is_added : (set : List ℕ) → set ≡ less went (at old place) → IsTopRest old grown went set → (IsTopRest old added went set → ⊥) → Contains added set
    is_added set e top never = elim (listed_or_not added set) [
      | inl c ↦ c
      | inr n ↦ absurd (never (record {
        large = top.large;
        allowed = λ q. elim (cases_lt q (length old)) [
          | inl l ↦ (allows_old old added went set q l).1 (beside_old old went set grown top q)
          | inr l ↦ (allows_added old added went set q l).1 (λ a.
              let large = top.large in
              let one = first_of set (omega arith) in
              let other = at added (q - length old) in
              let inside = in_sets added (q - length old) one.0 (member set other a one.0 one.1) in
              let listed : Contains added other = Contains-get_or added (q - length old) [] inside in
              elim ((are.exactly other).0 listed) [
                | inl g ↦ beside_added old went set grown top other g a
                | inr r ↦
                    let b : AreAmong set (less went (at old r.place)) = subst (AreAmong set) r.is a in
                    let back = beside_old old went set grown top r.place (among_then set (less went (at old r.place)) (at old r.place) b (less_among went (at old r.place))) in
                    let same : set ≡ less went (at old r.place) = same_sets set (less went (at old r.place)) (subst IsSet (sym e) (less_is_set went (at old place) (sets place))) (less_is_set went (at old r.place) (sets r.place)) b back in
                    n (subst (Contains added) (r.is ∙ sym same) listed)
              ])
        ];
      }))
    ]

    without_rest : (IsTopRest old added went (less went (at old place)) → ⊥) → AreAdded old went grown (places ++ place ∷ []) added
    without_rest never = record {
      once = are.once;
      exactly = λ set. (
        λ c. elim ((are.exactly set).0 c) [ inl g ↦ inl g | inr r ↦ inr (later places place set r) ],
        λ w. elim w [
          | inl g ↦ (are.exactly set).1 (inl g)
          | inr r ↦ elim (Contains-push_cases places place r.place r.listed) [
            | inl d ↦ (are.exactly set).1 (inr (record { place = r.place; listed = d; is = r.is; top = r.top }))
            | inr e ↦
                let same : set ≡ less went (at old place) = r.is ∙ ap (λ p. less went (at old p)) (sym e) in
                is_added set same r.top (λ t. never (subst (IsTopRest old added went) same t))
          ]
        ],
      );
    }

    pub added_more : (now : List (List ℕ)) → IsRestAdded old went place added now → AreAdded old went grown (places ++ place ∷ []) now
    added_more now (inl w) = subst (AreAdded old went grown (places ++ place ∷ [])) (sym w.1) (with_rest w.0)
    added_more now (inr w) = subst (AreAdded old went grown (places ++ place ∷ [])) (sym w.1) (without_rest w.0)

-- ---- the loop over the places
pub record HasRests (old : List (List ℕ)) (went : List ℕ) (grown before : List (List ℕ)) (places : List ℕ) (added after : List (List ℕ)) : Type 0 where
  pub wider : IsWider before after
  pub found : IsFound (old ++ added) after
  pub added_so_far : AreAdded old went grown places added

pub rests_none : (old : List (List ℕ)) (went : List ℕ) (grown before : List (List ℕ)) → IsFound (old ++ grown) before → ((place : ℕ) → IsSet (at old place)) → AreDifferent grown → HasRests old went grown before [] grown before
rests_none old went grown before found sets once = record { wider = wider_itself before; found = found; added_so_far = added_none old went grown sets once }

pub rests_more : (old : List (List ℕ)) (went : List ℕ) (grown before : List (List ℕ)) (places : List ℕ) (place : ℕ) (added index now after : List (List ℕ)) → ((place : ℕ) → IsSet (at old place)) → HasRests old went grown before places added index → IsWider index after → IsFound (old ++ now) after → IsRestAdded old went place added now → HasRests old went grown before (places ++ place ∷ []) now after
rests_more old went grown before places place added index now after sets has wider found is = record {
  wider = wider_then before index after has.wider wider;
  found = found;
  added_so_far = added_more old went grown sets places place added has.added_so_far now is;
}

-- one set more enters behind others
pub found_push : (old added before after : List (List ℕ)) (set : List ℕ) → IsFound (old ++ added) before → IsWider before after → ((item : ℕ) → Contains set item → Contains (at after item) (length old + length added)) → IsFound (old ++ (added ++ set ∷ [])) after
found_push old added before after set found wider entered =
    let size : length (old ++ added) ≡ length old + length added = length-append old added in
    subst (λ l. IsFound l after) (append_assoc old added (set ∷ [])) (found_all (old ++ added) (set ∷ []) before after found wider (one size))
  where
    one : length (old ++ added) ≡ length old + length added → (place item : ℕ) → Contains (at (set ∷ []) place) item → Contains (at after item) (length (old ++ added) + place)
    one size zero item c = subst (Contains (at after item)) (omega arith) (entered item c)
    one size (suc k) item c = absurd (in_none item c)
