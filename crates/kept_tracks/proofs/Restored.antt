-- A register after an exchange that was taken back.
use Rattle.std.proofs.Common.{◌≡◌, ℕ, ℤ, Bool, true, false, Ok, Err, List, [], ◌∷◌, length, inl, inr, refl, sym, subst, ap, ap₂, ◌∙◌}
use Rattle.std.specs.List.{Contains}
use Rattle.std.specs.Result.{OnErr}
use Rattle.std.specs.declared.result.Result.{Result}
use Rattle.closed_sets.proofs.Lists.{in_or_not}
use Rattle.kept_sets.specs.Kept.{AreKept}
use Rattle.night_tree.specs.Nights.{NightData}
use Rattle.set_grow.specs.Fitting.{FitsByNumber}
use Rattle.set_grow.specs.Nights.{NumberedNightData, by_night, numbered_by}
use Rattle.sky_units.specs.SettingsData.{SettingsData}
use Rattle.sky_units.specs.TrackletData.{NightTracklets}
use Rattle.tracklet_register.proofs.Entries.{same_night}
use Rattle.tracklet_register.specs.Registers.{AreAlike, RegisterData, is_taken, numbers_of, with_numbers}
use Rattle.tracklet_register.specs.Replacing.{IsReplaced}
use Rattle.tracklet_register.specs.declared.nights.NightNumbers.{NightNumbers}
use Rattle.kept_tracks.specs.KeptFor.{AreKeptFor, KeptData, StandAlike}

-- what is so of the new where it was so of the old
same_bool : (new old : Bool) → (new ≡ true → old ≡ true) → (old ≡ true → new ≡ true) → new ≡ old
same_bool true old to from = sym (to refl)
same_bool false true to from = from refl
same_bool false false to from = refl

pub restored : (old middle new : RegisterData) (night : ℤ) (before after : NightTracklets) (went came numbers : List ℕ) → IsReplaced old middle night before after went came → numbers ≡ numbers_of old.nights night
    → numbers_of new.nights night ≡ numbers → ((other : ℤ) → ¬ (other ≡ night) → numbers_of new.nights other ≡ numbers_of middle.nights other)
    → ((number : ℕ) → Contains came number → is_taken new.taken number ≡ false) → ((number : ℕ) → ¬ (Contains came number) → is_taken new.taken number ≡ is_taken middle.taken number)
    → AreAlike old new
restored old middle new night before after went came numbers r was here elsewhere freed others = record {
  nights = λ other. elim (same_night other night) [
    | inl w ↦ ap (numbers_of new.nights) w.0 ∙ (here ∙ (was ∙ ap (numbers_of old.nights) (sym w.0)))
    | inr w ↦ elsewhere other w.0 ∙ r.others other w.0
  ];
  taken = λ number. elim (in_or_not came number) [
    | inl c ↦ freed number c ∙ sym (r.free number c)
    | inr n ↦ others number n ∙ same_bool (is_taken middle.taken number) (is_taken old.taken number)
        (λ t. elim ((r.taken number).0 t) [ inl k ↦ k | inr c ↦ absurd (n c) ])
        (λ t. (r.taken number).1 (inl t))
  ];
}

-- ---- what stands alike is kept for the same nights
same_numbers : (old new : List NightNumbers) (nights : List NightData) → ((night : ℤ) → numbers_of new night ≡ numbers_of old night) → with_numbers new nights ≡ with_numbers old nights
same_numbers old new [] h = refl
same_numbers old new (night ∷ nights) h =
    ap₂ (λ (numbers : List ℕ) (rest : List NumberedNightData). record { number = night.number; tracklets = numbered_by numbers night.tracklets } ∷ rest) (h night.number) (same_numbers old new nights h)

pub still_kept : (settings : SettingsData) (nights : List NightData) (old new : KeptData) → StandAlike old new → AreKeptFor settings nights old → AreKeptFor settings nights new
still_kept settings nights old new s k = record {
  numbered = λ night c. ap length (s.register.nights night.number) ∙ k.numbered night c;
  no_others = λ number none. s.register.nights number ∙ k.no_others number none;
  none_waits = λ number t.
      let w = k.none_waits number (sym (s.register.taken number) ∙ t) in
      (w.0, subst (λ list. Contains list number) (sym (s.register.nights w.0)) w.1);
  sets = subst (λ (numbered : List NumberedNightData). AreKept (FitsByNumber settings (by_night numbered)) new.sets) (sym (same_numbers old.register.nights new.register.nights nights s.register.nights))
      (subst (AreKept (FitsByNumber settings (by_night (with_numbers old.register.nights nights)))) (sym s.sets) k.sets);
}

-- what holds anyway holds of an error
pub on_err : {T E P : Type 0} (r : Result T E) → P → OnErr r P
on_err (Ok x) p = tt
on_err (Err e) p = p
