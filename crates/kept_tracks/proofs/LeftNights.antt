-- Nights of some numbers go whole: what their exchange in the register means for the kept sets, and what is kept then.
use Rattle.std.proofs.Common.{◌≡◌, ◌⊎◌, ◌↔◌, ℕ, ℤ, ◌<ℤ◌, true, false, not, List, [], ◌∷◌, length, inl, inr, refl, sym, subst, ap, ap₂, ◌∙◌, arith}
use Rattle.std.proofs.lemmas.Bool.{false≢true}
use Rattle.std.proofs.lemmas.Bool.Decides.{Decides-int_eq}
use Rattle.std.proofs.lemmas.Int.{by_lt_z, ints}
use Rattle.std.proofs.lemmas.List.Kept.{AllPairs-filter}
use Rattle.std.specs.Int.Signed.{lt_z}
use Rattle.std.specs.List.{Contains}
use Rattle.std.specs.Ordering.{int_eq}
use Rattle.closed_sets.proofs.Lists.{in_or_not}
use Rattle.kept_nights.proofs.WithNight.{IsBefore as Earlier}
use Rattle.kept_nights.specs.KeptNights.{RiseByNumber, without_night}
use Rattle.kept_sets.specs.Changes.{AreReady, IsAfter}
use Rattle.kept_sets.specs.Kept.{AreKept}
use Rattle.kept_sets.specs.Lists.{AreDifferent}
use Rattle.night_tree.specs.Nights.{NightData, tracklets_of_each}
use Rattle.plain_tracks.proofs.Tracks.{filter_exact}
use Rattle.set_grow.proofs.Members.{in_front, in_rest}
use Rattle.set_grow.specs.Fitting.{FitsByNumber}
use Rattle.set_grow.specs.Nights.{NumberedNightData, by_night, numbered_by}
use Rattle.sky_units.specs.SettingsData.{SettingsData}
use Rattle.sky_units.specs.Tracks.{AreNights}
use Rattle.tracklet_register.proofs.Entries.{same_night}
use Rattle.tracklet_register.proofs.Linking.{plain_again, still_rise}
use Rattle.tracklet_register.specs.Exchanges.{AreExchanged}
use Rattle.tracklet_register.specs.Registers.{HasNumbersOf, IsCutBefore, IsWithout, is_taken, numbers_of, with_numbers}
use Rattle.tracklet_register.specs.declared.nights.NightNumbers.{NightNumbers}
use Rattle.kept_tracks.specs.KeptFor.{AreKeptFor, KeptData, since}
use Rattle.kept_tracks.specs.Stages.{IsExchangeOf}
use Rattle.kept_tracks.proofs.SetChanges.{are_kept, are_ready, nothing_grown}

-- the nights of some numbers went, and all others stay
pub record AreLeft (Goes : ℤ → Type 0) (nights left : List NightData) : Type 0 where
  pub decided : (number : ℤ) → Goes number ⊎ (¬ Goes number)
  pub exactly : (night : NightData) → Contains left night ↔ (Contains nights night × (¬ Goes night.number))
  pub rise : RiseByNumber left

-- ---- those before one
passes : (number first : ℤ) → ¬ (number <ℤ first) → not (lt_z number first) ≡ true
passes number first late = elim (lt_z number first) as (λ b. lt_z number first ≡ b → not b ≡ true) [
  | true ↦ λ e. absurd (late (omega (arith, ints, e)))
  | false ↦ λ e. refl
] refl

late_of : (number first : ℤ) → not (lt_z number first) ≡ true → ¬ (number <ℤ first)
late_of number first e l = (let is : lt_z number first ≡ true = grind (arith, ints) in absurd (false≢true (subst (λ b. not b ≡ true) is e)))

pub since_left : (first : ℤ) (nights : List NightData) → RiseByNumber nights → AreLeft (λ number. number <ℤ first) nights (since first nights)
since_left first nights rise = record {
  decided = λ number. by_lt_z number first (λ l. inl l) (λ n. inr (λ l. omega (arith, ints, n, l)));
  exactly = λ night. (
    λ c. (let w = (filter_exact (λ (n : NightData). not (lt_z n.number first)) nights night).0 c in (w.0, late_of night.number first w.1)),
    λ w. (filter_exact (λ (n : NightData). not (lt_z n.number first)) nights night).1 (w.0, passes night.number first w.1),
  );
  rise = AllPairs-filter Earlier (λ (night : NightData). not (lt_z night.number first)) nights rise;
}

pub cut_before : (first : ℤ) (nights : List NightData) → RiseByNumber nights → IsCutBefore first nights (since first nights)
cut_before first nights rise =
    let l = since_left first nights rise in
    record {
      stay = λ night late c. (l.exactly night).1 (c, late);
      stood = λ night c. ((l.exactly night).0 c).0;
      late = λ night c. ((l.exactly night).0 c).1;
    }

-- ---- the one of a number
other_passes : (a b : ℤ) → ¬ (a ≡ b) → not (int_eq a b) ≡ true
other_passes a b differ = elim (same_night a b) [ inl w ↦ absurd (differ w.0) | inr w ↦ ap not w.1 ]

is_other : (a b : ℤ) → not (int_eq a b) ≡ true → ¬ (a ≡ b)
is_other a b e same = false≢true (subst (λ r. not r ≡ true) ((Decides-int_eq a b).1 same) e)

pub without_left : (number : ℤ) (nights : List NightData) → RiseByNumber nights → AreLeft (λ other. other ≡ number) nights (without_night number nights)
without_left number nights rise = record {
  decided = λ other. elim (same_night other number) [ inl w ↦ inl w.0 | inr w ↦ inr w.0 ];
  exactly = λ night. (
    λ c. (let w = (filter_exact (λ (n : NightData). not (int_eq n.number number)) nights night).0 c in (w.0, is_other night.number number w.1)),
    λ w. (filter_exact (λ (n : NightData). not (int_eq n.number number)) nights night).1 (w.0, other_passes night.number number w.1),
  );
  rise = AllPairs-filter Earlier (λ (night : NightData). not (int_eq night.number number)) nights rise;
}

pub is_without : (number : ℤ) (nights : List NightData) → RiseByNumber nights → IsWithout number nights (without_night number nights)
is_without number nights rise =
    let l = without_left number nights rise in
    record {
      stay = λ night differ c. (l.exactly night).1 (c, differ);
      stood = λ night c. ((l.exactly night).0 c).0;
      other = λ night c. ((l.exactly night).0 c).1;
    }

-- ---- what is kept of those that are left
-- two registers with the same numbers of some nights
alike_on : (old new : List NightNumbers) (nights : List NightData) → ((night : NightData) → Contains nights night → numbers_of new night.number ≡ numbers_of old night.number) → with_numbers new nights ≡ with_numbers old nights
alike_on old new [] h = refl
alike_on old new (night ∷ nights) h =
    ap₂ (λ (numbers : List ℕ) (rest : List NumberedNightData). record { number = night.number; tracklets = numbered_by numbers night.tracklets } ∷ rest) (h night (in_front night nights)) (alike_on old new nights (λ later c. h later (in_rest night nights later c)))

-- the numbers of nights that go
pub record AreOfThem (kept : KeptData) (Goes : ℤ → Type 0) (nights left : List NightData) (went : List ℕ) : Type 0 where
  pub exactly : (number : ℕ) → Contains went number ↔ ((night : ℤ) × Goes night × Contains (numbers_of kept.register.nights night) number)
  pub exchanged : AreExchanged went [] (with_numbers kept.register.nights nights) (with_numbers kept.register.nights left)

module _ (Goes : ℤ → Type 0) (settings : SettingsData) (nights left : List NightData) (kept : KeptData) (went : List ℕ) (k : AreKeptFor settings nights kept) (rise : RiseByNumber nights) (follow : AreNights (tracklets_of_each nights)) (b : AreOfThem kept Goes nights left went)
    (l : AreLeft Goes nights left) (follow_now : AreNights (tracklets_of_each left)) where
  numbered_now : HasNumbersOf kept.register.nights left
  numbered_now night c = k.numbered night ((l.exactly night).0 c).0

  exchange_of : IsExchangeOf settings went [] kept.sets (with_numbers kept.register.nights left)
  exchange_of = record {
    old = with_numbers kept.register.nights nights;
    rising = still_rise kept.register.nights nights rise;
    in_time = subst AreNights (sym (plain_again kept.register.nights nights k.numbered)) follow;
    exchanged = b.exchanged;
    kept = k.sets;
  }

  pub ready_to_forget : AreReady went [] kept.sets []
  ready_to_forget = are_ready settings (with_numbers kept.register.nights left) went [] kept.sets []
      (subst AreNights (sym (plain_again kept.register.nights left numbered_now)) follow_now) (still_rise kept.register.nights left l.rise) exchange_of (nothing_grown (FitsByNumber settings (by_night (with_numbers kept.register.nights left))))

  pub forgotten : (new : KeptData) → ((night : ℤ) → Goes night → numbers_of new.register.nights night ≡ []) → ((night : ℤ) → ¬ (Goes night) → numbers_of new.register.nights night ≡ numbers_of kept.register.nights night)
      → ((number : ℕ) → Contains went number → is_taken new.register.taken number ≡ false) → ((number : ℕ) → ¬ (Contains went number) → is_taken new.register.taken number ≡ is_taken kept.register.taken number)
      → AreDifferent new.sets → ((set : List ℕ) → Contains new.sets set ↔ IsAfter went [] kept.sets [] set) → AreKeptFor settings left new
  forgotten new gone same freed others once exactly = record {
    numbered = λ night c. (let w = (l.exactly night).0 c in ap length (same night.number w.1) ∙ k.numbered night w.0);
    no_others = λ number none. elim (l.decided number) [
      | inl goes ↦ gone number goes
      | inr stays ↦ same number stays ∙ k.no_others number (λ night c is. none night ((l.exactly night).1 (c, subst (λ n. ¬ (Goes n)) (sym is) stays)) is)
    ];
    none_waits = λ number t. elim (in_or_not went number) [
      | inl c ↦ absurd (false≢true (sym (freed number c) ∙ t))
      | inr n ↦
          let w = k.none_waits number (sym (others number n) ∙ t) in
          let stays : ¬ (Goes w.0) = λ goes. n ((b.exactly number).1 (w.0, goes, w.1)) in
          (w.0, subst (λ list. Contains list number) (sym (same w.0 stays)) w.1)
    ];
    sets = subst (λ (list : List NumberedNightData). AreKept (FitsByNumber settings (by_night list)) new.sets)
        (sym (alike_on kept.register.nights new.register.nights left (λ night c. same night.number ((l.exactly night).0 c).1)))
        (are_kept settings (with_numbers kept.register.nights left) went [] kept.sets []
        (subst AreNights (sym (plain_again kept.register.nights left numbered_now)) follow_now) (still_rise kept.register.nights left l.rise) exchange_of (nothing_grown (FitsByNumber settings (by_night (with_numbers kept.register.nights left))))
        new.sets once exactly);
  }
