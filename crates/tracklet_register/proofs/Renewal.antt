-- One number more for the tracklets of a night that is built anew.
use Rattle.std.proofs.Common.{◌≡◌, ℕ, ◌+◌, ◌<◌, ◌≤◌, Bool, true, false, Option, Some, None, List, [], ◌∷◌, ◌++◌, inl, inr, length, get_or, take, refl, sym, subst, ap, ◌∙◌, arith}
use Rattle.std.proofs.lemmas.Bool.{cases_lt, cases_order, false≢true}
use Rattle.std.proofs.lemmas.List.{get_or-take, length_push, length-take-le}
use Rattle.std.proofs.lemmas.List.Elements.{Contains-append_left, Contains-push, Contains-push_cases}
use Rattle.std.specs.List.{Contains}
use Rattle.std.specs.Prelude.{MatchOption}
use Rattle.set_grow.proofs.Members.{in_none}
use Rattle.set_grow.specs.Nights.{numbered_by}
use Rattle.set_grow.specs.Numbered.{NumberedTracklet, NumberedTracklets, without_numbers}
use Rattle.sky_units.specs.TrackletData.{NightTracklets, TrackletData}
use Rattle.kept_sets.proofs.Basics.{no_items}
use Rattle.tracklet_register.proofs.Lists.{different_push, rises_push}
use Rattle.tracklet_register.proofs.Numbered.{has_both, has_tracklet, numbered_push, tells, tracklets_are, with_number}
use Rattle.tracklet_register.specs.Registers.{is_taken}
use Rattle.tracklet_register.specs.Renewing.{Gains, Keeps}
use Rattle.tracklet_register.specs.Replacing.{AreDifferent, AreRenewed, HaveDifferentLabels, KeptOrCame}
use Rattle.tracklet_register.specs.declared.renewing.NewNumbers.{NewNumbers}

-- tracklets with numbers, each once, that are all taken
pub record AreHeld (before : NumberedTracklets) (taken : List Bool) : Type 0 where
  pub tells : (one other : NumberedTracklet) → Contains before one → Contains before other → one.num ≡ other.num → one ≡ other
  pub held : (one : NumberedTracklet) → Contains before one → is_taken taken one.num ≡ true

pub renewed_none : (before : NumberedTracklets) (taken : List Bool) → AreRenewed before taken [] [] [] 0
renewed_none before taken = record {
  size = refl;
  each = λ one c. absurd (in_none one c);
  once = λ i j d ij jl. absurd (omega (arith, ij, jl));
  used = λ number c. absurd (in_none number c);
  free = λ number c. absurd (in_none number c);
  below = λ number c. absurd (in_none number c);
  least = λ lower l. absurd (omega (arith, l));
  in_order = no_items;
}

-- a free number isn't that of a tracklet that was there
isnt_held : (before : NumberedTracklets) (taken : List Bool) (one : NumberedTracklet) → AreHeld before taken → Contains before one → is_taken taken one.num ≡ false → ⊥
isnt_held before taken one h c e = false≢true (sym e ∙ h.held one c)

module _ (before : NumberedTracklets) (taken : List Bool) (after : NightTracklets) (numbers came : List ℕ) (end : ℕ) (tracklet : TrackletData) (number : ℕ) where
  more_size : length numbers ≡ length after → length (numbers ++ number ∷ []) ≡ length (after ++ tracklet ∷ [])
  more_size e = length_push numbers number ∙ (ap (λ n. n + 1) e ∙ sym (length_push after tracklet))

  -- a number that is kept is new in the list
  kept_is_new : AreHeld before taken → AreRenewed before taken after numbers came end → ¬ (Contains after tracklet) → Contains before (with_number number tracklet) → ¬ (Contains numbers number)
  kept_is_new held r new kept c =
      let w = has_tracklet numbers after number r.size c in
      elim (r.each (with_number number w.0) w.1) [
        | inl there ↦
            let same : with_number number w.0 ≡ with_number number tracklet = held.tells (with_number number w.0) (with_number number tracklet) there kept refl in
            new (subst (Contains after) (ap (λ (o : NumberedTracklet). o.tracklet) same) (has_both numbers after (with_number number w.0) w.1).1)
        | inr k ↦ isnt_held before taken (with_number number tracklet) held kept (r.free number k.0)
      ]

  pub renewed_kept : AreHeld before taken → AreRenewed before taken after numbers came end → ¬ (Contains after tracklet) → Contains before (with_number number tracklet)
      → AreRenewed before taken (after ++ tracklet ∷ []) (numbers ++ number ∷ []) came end
  renewed_kept held r new kept = record {
    size = more_size r.size;
    each = λ one c. elim (Contains-push_cases (numbered_by numbers after) (with_number number tracklet) one (subst (λ list. Contains list one) (numbered_push numbers after number tracklet r.size) c)) [
      | inl d ↦ r.each one d
      | inr e ↦ inl (subst (Contains before) e kept)
    ];
    once = different_push numbers number r.once (kept_is_new held r new kept);
    used = λ x c. Contains-append_left numbers (number ∷ []) x (r.used x c);
    free = r.free;
    below = r.below;
    least = r.least;
    in_order = r.in_order;
  }

  gained_is_new : AreHeld before taken → AreRenewed before taken after numbers came end → end ≤ number → is_taken taken number ≡ false → ¬ (Contains numbers number)
  gained_is_new held r above free c =
      let w = has_tracklet numbers after number r.size c in
      elim (r.each (with_number number w.0) w.1) [
        | inl there ↦ isnt_held before taken (with_number number w.0) held there free
        | inr k ↦ (let below = r.below number k.0 in omega (arith, below, above))
      ]

  longer : (one : NumberedTracklet) → KeptOrCame before came one → KeptOrCame before (came ++ number ∷ []) one
  longer one (inl c) = inl c
  longer one (inr k) = inr (Contains-append_left came (number ∷ []) one.num k.0, k.1)

  pub renewed_gained : AreHeld before taken → AreRenewed before taken after numbers came end → end ≤ number → is_taken taken number ≡ false → ((lower : ℕ) → end ≤ lower → lower < number → is_taken taken lower ≡ true)
      → (HaveDifferentLabels (without_numbers before) → ¬ (Contains (without_numbers before) tracklet))
      → AreRenewed before taken (after ++ tracklet ∷ []) (numbers ++ number ∷ []) (came ++ number ∷ []) (number + 1)
  renewed_gained held r above free taken_between absent = record {
    size = more_size r.size;
    each = λ one c. elim (Contains-push_cases (numbered_by numbers after) (with_number number tracklet) one (subst (λ list. Contains list one) (numbered_push numbers after number tracklet r.size) c)) [
      | inl d ↦ longer one (r.each one d)
      | inr e ↦ subst (KeptOrCame before (came ++ number ∷ [])) e (inr (Contains-push came number, absent))
    ];
    once = different_push numbers number r.once (gained_is_new held r above free);
    used = λ x c. elim (Contains-push_cases came number x c) [
      | inl d ↦ Contains-append_left numbers (number ∷ []) x (r.used x d)
      | inr e ↦ subst (Contains (numbers ++ number ∷ [])) e (Contains-push numbers number)
    ];
    free = λ x c. elim (Contains-push_cases came number x c) [
      | inl d ↦ r.free x d
      | inr e ↦ subst (λ n. is_taken taken n ≡ false) e free
    ];
    below = λ x c. elim (Contains-push_cases came number x c) [
      | inl d ↦ (let b = r.below x d in omega (arith, b, above))
      | inr e ↦ omega (arith, e)
    ];
    least = λ lower l. elim (cases_order lower number) [
      | inl e ↦ inr (subst (Contains (came ++ number ∷ [])) (sym e) (Contains-push came number))
      | inr d ↦ elim d [
        | inr more ↦ absurd (omega (arith, l, more))
        | inl less ↦ elim (cases_lt lower end) [
          | inl below ↦ elim (r.least lower below) [ inl t ↦ inl t | inr c ↦ inr (Contains-append_left came (number ∷ []) lower c) ]
          | inr not_below ↦ inl (taken_between lower (omega (arith, not_below)) less)
        ]
      ]
    ];
    in_order = rises_push came number r.in_order (λ x c. let b = r.below x c in omega (arith, b, above));
  }

-- the numbers of different tracklets that are all taken
pub are_held : (numbers : List ℕ) (before : NightTracklets) (taken : List Bool) → AreDifferent numbers → ((number : ℕ) → Contains numbers number → is_taken taken number ≡ true) → AreHeld (numbered_by numbers before) taken
are_held numbers before taken once held = record {
  tells = λ one other c d e. tells numbers before one other once c d e;
  held = λ one c. held one.num (has_both numbers before one c).0;
}

-- the next tracklet, with the number that it keeps or gets
pub renewed_more : (before : NightTracklets) (numbers : List ℕ) (taken : List Bool) (after : NightTracklets) (tracklet : TrackletData) (kept : Option ℕ) (old new : NewNumbers) → length numbers ≡ length before → AreHeld (numbered_by numbers before) taken
    → AreRenewed (numbered_by numbers before) taken after old.numbers.items old.came.items old.end → ¬ (Contains after tracklet)
    → MatchOption kept (HaveDifferentLabels before → ¬ (Contains before tracklet)) (λ number. Contains (numbered_by numbers before) (with_number number tracklet))
    → MatchOption kept (Gains taken old new) (λ number. Keeps old new number)
    → AreRenewed (numbered_by numbers before) taken (after ++ tracklet ∷ []) new.numbers.items new.came.items new.end
renewed_more before numbers taken after tracklet None old new size held r fresh absent g =
    let plain : without_numbers (numbered_by numbers before) ≡ before = tracklets_are numbers before size in
    let never : HaveDifferentLabels (without_numbers (numbered_by numbers before)) → ¬ (Contains (without_numbers (numbered_by numbers before)) tracklet) = subst (λ (list : NightTracklets). HaveDifferentLabels list → ¬ (Contains list tracklet)) (sym plain) absent in
    let more = renewed_gained (numbered_by numbers before) taken after old.numbers.items old.came.items old.end tracklet g.number held r g.above g.free g.least never in
    let end : AreRenewed (numbered_by numbers before) taken (after ++ tracklet ∷ []) (old.numbers.items ++ g.number ∷ []) (old.came.items ++ g.number ∷ []) new.end = subst (AreRenewed (numbered_by numbers before) taken (after ++ tracklet ∷ []) (old.numbers.items ++ g.number ∷ []) (old.came.items ++ g.number ∷ [])) (sym g.end) more in
    subst (λ (came : List ℕ). AreRenewed (numbered_by numbers before) taken (after ++ tracklet ∷ []) new.numbers.items came new.end) (sym g.came)
    (subst (λ (list : List ℕ). AreRenewed (numbered_by numbers before) taken (after ++ tracklet ∷ []) list (old.came.items ++ g.number ∷ []) new.end) (sym g.numbers) end)
renewed_more before numbers taken after tracklet (Some number) old new size held r fresh kept k =
    let more = renewed_kept (numbered_by numbers before) taken after old.numbers.items old.came.items old.end tracklet number held r fresh kept in
    let end : AreRenewed (numbered_by numbers before) taken (after ++ tracklet ∷ []) (old.numbers.items ++ number ∷ []) old.came.items new.end = subst (AreRenewed (numbered_by numbers before) taken (after ++ tracklet ∷ []) (old.numbers.items ++ number ∷ []) old.came.items) (sym k.end) more in
    subst (λ (came : List ℕ). AreRenewed (numbered_by numbers before) taken (after ++ tracklet ∷ []) new.numbers.items came new.end) (sym k.came)
    (subst (λ (list : List ℕ). AreRenewed (numbered_by numbers before) taken (after ++ tracklet ∷ []) list old.came.items new.end) (sym k.numbers) end)

-- a tracklet at a place is none of those before it, where all are different
pub is_fresh : (after : NightTracklets) (i : ℕ) (tracklet : TrackletData) → AreDifferent after → i < length after → tracklet ≡ get_or after i tracklet → ¬ (Contains (take i after) tracklet)
is_fresh after i tracklet different within is c =
    let short : length (take i after) ≡ i = length-take-le i after (omega (arith, within)) in
    let less : c.0 < i = subst (λ n. c.0 < n) short c.1 in
    let same : get_or after c.0 tracklet ≡ tracklet = sym (get_or-take i after c.0 tracklet less) ∙ c.2 in
    different c.0 i tracklet less within (same ∙ is)
