-- The place of each tracklet, found by the labels of its spots.
use Rattle.std.proofs.Common.{◌≡◌, ℕ, ◌+◌, ◌<◌, Bool, true, false, cond, Option, Some, None, Vec, Global, List, [], ◌∷◌, inl, inr, length, refl, sym, subst, ap, ◌∙◌, arith}
use Rattle.std.proofs.lemmas.Bool.{cases_order}
use Rattle.std.proofs.lemmas.Cmp.{nat_list_cmp_total, tied_itself}
use Rattle.std.proofs.lemmas.Map.Lookups.{exact_bytes}
use Rattle.std.proofs.lemmas.Option.{get_or_from_slice_get, slice_get_within}
use Rattle.std.specs.BTreeMap.{insert_entry, is_at}
use Rattle.std.specs.Cmp.Lexicographic.{slice_cmp}
use Rattle.std.specs.List.{Contains, slice_get}
use Rattle.std.specs.Map.{lookup}
use Rattle.std.specs.Prelude.{MatchOption}
use Rattle.std.specs.Ordering.{is_eq, match_ordering, nat_cmp}
use Rattle.std.specs.declared.cmp.Ordering.{Ordering}
use Rattle.std.specs.declared.cmp.Ordering.TheVariants.{Less, Equal, Greater}
use Rattle.set_grow.specs.Nights.{numbered_by}
use Rattle.sky_units.specs.TrackletData.{NightTracklets, TrackletData}
use Rattle.tracklet_register.proofs.Lists.{at_place, of_place}
use Rattle.tracklet_register.proofs.Numbered.{both_there, with_number}
use Rattle.tracklet_register.specs.Replacing.{HaveDifferentLabels, labels_of}

abbrev pub key_cmp : Vec ℕ Global → Vec ℕ Global → Ordering
key_cmp one other = slice_cmp nat_cmp one.items other.items

-- how labels compare to a key
abbrev pub to_key : List ℕ → Vec ℕ Global → Ordering
to_key labels key = slice_cmp nat_cmp labels key.items

abbrev Entry : Type 0
Entry = Vec ℕ Global × ℕ

-- a tie is an equality
tie_is : (labels : List ℕ) (key : Vec ℕ Global) → is_eq (to_key labels key) ≡ true → labels ≡ key.items
tie_is labels key e = exact_bytes labels key.items (equal (to_key labels key) e)
  where
    equal : (r : Ordering) → is_eq r ≡ true → r ≡ Equal
    equal Less e = cc
    equal Equal e = refl
    equal Greater e = cc

-- other labels find what they found
other_stays : (es : List Entry) (key : Vec ℕ Global) (place : ℕ) (labels : List ℕ) → is_eq (to_key labels key) ≡ false → lookup (is_at (to_key labels)) (insert_entry key_cmp es key place) ≡ lookup (is_at (to_key labels)) es
other_stays [] key place labels other = subst (λ b. cond b (Some place) None ≡ None) (sym other) refl
other_stays (e ∷ es) key place labels other =
    (elim (key_cmp key e.0) as (λ r. key_cmp key e.0 ≡ r → lookup (is_at (to_key labels)) (match_ordering r ((key, place) ∷ e ∷ es) ((e.0, place) ∷ es) (e ∷ insert_entry key_cmp es key place)) ≡ lookup (is_at (to_key labels)) (e ∷ es)) [
      | Less ↦ λ p. subst (λ b. cond b (Some place) (lookup (is_at (to_key labels)) (e ∷ es)) ≡ lookup (is_at (to_key labels)) (e ∷ es)) (sym other) refl
      | Equal ↦ λ p.
          let same : key.items ≡ e.0.items = exact_bytes key.items e.0.items p in
          let there : is_eq (to_key labels e.0) ≡ false = subst (λ (items : List ℕ). is_eq (slice_cmp nat_cmp labels items) ≡ false) same other in
          subst (λ b. cond b (Some place) (lookup (is_at (to_key labels)) es) ≡ cond b (Some e.1) (lookup (is_at (to_key labels)) es)) (sym there) refl
      | Greater ↦ λ p. ap (λ found. cond (is_eq (to_key labels e.0)) (Some e.1) found) (other_stays es key place labels other)
    ]) refl

-- the labels of the key find its place
its_own : (es : List Entry) (key : Vec ℕ Global) (place : ℕ) (labels : List ℕ) → labels ≡ key.items → lookup (is_at (to_key labels)) (insert_entry key_cmp es key place) ≡ Some place
its_own es key place labels is = found es (ties key.items labels is)
  where
    ties : (items labels : List ℕ) → labels ≡ items → is_eq (slice_cmp nat_cmp labels items) ≡ true
    ties items labels is = subst (λ (list : List ℕ). is_eq (slice_cmp nat_cmp list items) ≡ true) (sym is) (ap is_eq (tied_itself nat_list_cmp_total items))

    found : (es : List Entry) → is_eq (to_key labels key) ≡ true → lookup (is_at (to_key labels)) (insert_entry key_cmp es key place) ≡ Some place
    found [] tie = subst (λ b. cond b (Some place) None ≡ Some place) (sym tie) refl
    found (e ∷ es) tie =
        (elim (key_cmp key e.0) as (λ r. key_cmp key e.0 ≡ r → lookup (is_at (to_key labels)) (match_ordering r ((key, place) ∷ e ∷ es) ((e.0, place) ∷ es) (e ∷ insert_entry key_cmp es key place)) ≡ Some place) [
          | Less ↦ λ p. subst (λ b. cond b (Some place) (lookup (is_at (to_key labels)) (e ∷ es)) ≡ Some place) (sym tie) refl
          | Equal ↦ λ p.
              let same : key.items ≡ e.0.items = exact_bytes key.items e.0.items p in
              let there : is_eq (to_key labels e.0) ≡ true = subst (λ (items : List ℕ). is_eq (slice_cmp nat_cmp labels items) ≡ true) same tie in
              subst (λ b. cond b (Some place) (lookup (is_at (to_key labels)) es) ≡ Some place) (sym there) refl
          | Greater ↦ λ p.
              let apart : is_eq (to_key labels e.0) ≡ false = subst (λ (list : List ℕ). is_eq (slice_cmp nat_cmp list e.0.items) ≡ false) (sym is) (ap is_eq p) in
              subst (λ b. cond b (Some e.1) (lookup (is_at (to_key labels)) (insert_entry key_cmp es key place)) ≡ Some place) (sym apart) (found es tie)
        ]) refl

-- the first tracklets are found by their labels, where no others have these
abbrev pub AreFound : NightTracklets → List (Vec ℕ Global × ℕ) → ℕ → Type 0
AreFound tracklets entries count = HaveDifferentLabels tracklets → (place : ℕ) (tracklet : TrackletData) → place < count → slice_get tracklets place ≡ Some tracklet → lookup (is_at (to_key (labels_of tracklet))) entries ≡ Some place

pub found_none : (tracklets : NightTracklets) (entries : List (Vec ℕ Global × ℕ)) → AreFound tracklets entries 0
found_none tracklets entries d place tracklet l e = absurd (omega (arith, l))

-- a test that isn't true is false
tested : (b : Bool) → (b ≡ true → ⊥) → b ≡ false
tested true n = absurd (n refl)
tested false n = refl

pub found_more : (tracklets : NightTracklets) (entries : List (Vec ℕ Global × ℕ)) (count : ℕ) (here : TrackletData) (key : Vec ℕ Global) → AreFound tracklets entries count → slice_get tracklets count ≡ Some here → key.items ≡ labels_of here
    → AreFound tracklets (insert_entry key_cmp entries key count) (count + 1)
found_more tracklets entries count here key f at is d place tracklet l e = elim (cases_order place count) [
  | inl s ↦
      let both : Some tracklet ≡ Some here = sym e ∙ (ap (slice_get tracklets) s ∙ at) in
      let same : tracklet ≡ here = cc in
      its_own entries key count (labels_of tracklet) (ap labels_of same ∙ sym is) ∙ ap (λ n. Some n) (sym s)
  | inr k ↦ elim k [
    | inl less ↦
        let differ : (labels_of tracklet ≡ labels_of here) → ⊥ = apart tracklets place count tracklet here d less e at in
        let other : is_eq (to_key (labels_of tracklet) key) ≡ false = tested (is_eq (to_key (labels_of tracklet) key)) (λ t. differ (tie_is (labels_of tracklet) key t ∙ is)) in
        other_stays entries key count (labels_of tracklet) other ∙ f d place tracklet less e
    | inr more ↦ absurd (omega (arith, l, more))
  ]
]
  where
    apart : (tracklets : NightTracklets) (i j : ℕ) (one other : TrackletData) → HaveDifferentLabels tracklets → i < j → slice_get tracklets i ≡ Some one → slice_get tracklets j ≡ Some other → labels_of one ≡ labels_of other → ⊥
    apart tracklets i j one other d less e f same =
        let jl = slice_get_within tracklets j other f in
        d i j one less jl (ap labels_of (get_or_from_slice_get tracklets i one one e) ∙ (same ∙ sym (ap labels_of (get_or_from_slice_get tracklets j other one f))))

-- the number of an equal tracklet, from what stands at the place of its labels
pub number_found : (tracklets : NightTracklets) (numbers : List ℕ) (entries : List (Vec ℕ Global × ℕ)) (tracklet : TrackletData) (place found : Option ℕ) → length numbers ≡ length tracklets
    → (HaveDifferentLabels tracklets → (place : ℕ) (other : TrackletData) → slice_get tracklets place ≡ Some other → lookup (is_at (to_key (labels_of other))) entries ≡ Some place)
    → place ≡ lookup (is_at (to_key (labels_of tracklet))) entries
    → MatchOption found ((here : ℕ) → place ≡ Some here → slice_get tracklets here ≡ Some tracklet → ⊥) (λ number. (here : ℕ) × (slice_get tracklets here ≡ Some tracklet) × (slice_get numbers here ≡ Some number))
    → MatchOption found (HaveDifferentLabels tracklets → ¬ (Contains tracklets tracklet)) (λ number. Contains (numbered_by numbers tracklets) (with_number number tracklet))
number_found tracklets numbers entries tracklet place None size all is absent = λ d c.
    let i = at_place tracklets tracklet c in
    absent i.0 (is ∙ all d i.0 tracklet i.1) i.1
number_found tracklets numbers entries tracklet place (Some number) size all is w = of_place (numbered_by numbers tracklets) w.0 (with_number number tracklet) (both_there numbers tracklets w.0 number tracklet w.2 w.1)
