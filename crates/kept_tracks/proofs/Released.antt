-- What is kept once tracklets were exchanged in the register and in the sets, and the numbers that went are released.
use Rattle.std.proofs.Common.{◌≡◌, ℕ, false, List, [], ◌∷◌, inl, inr, refl, sym, subst, ◌∙◌}
use Rattle.std.proofs.lemmas.Bool.{false≢true}
use Rattle.std.specs.List.{Contains}
use Rattle.closed_sets.proofs.Lists.{in_or_not}
use Rattle.kept_nights.specs.KeptNights.{RiseByNumber}
use Rattle.kept_nights.specs.Renewed.{with_nights}
use Rattle.kept_sets.specs.Kept.{AreKept}
use Rattle.night_tree.specs.Nights.{NightData, tracklets_of_each}
use Rattle.set_grow.proofs.Members.{in_front}
use Rattle.set_grow.specs.Costs.{IsBounded}
use Rattle.set_grow.specs.Fitting.{FitsByNumber}
use Rattle.set_grow.specs.Nights.{by_night}
use Rattle.set_grow.specs.declared.places.Place.{Place}
use Rattle.sky_units.specs.SettingsData.{SettingsData}
use Rattle.sky_units.specs.Tracks.{AreNights}
use Rattle.tracklet_register.proofs.Linking.{plain_again, still_rise}
use Rattle.tracklet_register.specs.Registers.{HasNumbersOf, RegisterData, is_taken, numbers_of, with_numbers}
use Rattle.tracklet_register.specs.declared.nights.NightNumbers.{NightNumbers}
use Rattle.kept_tracks.specs.Costs.{AreFewTests, BringNothing}
use Rattle.kept_tracks.specs.KeptFor.{AreKeptFor, KeptData}
use Rattle.kept_tracks.specs.SeveralNights.{AreNumberedBut, AreReplaced}
use Rattle.kept_tracks.specs.Stages.{IsExchangeOf}

module _ (settings : SettingsData) (nights changed : List NightData) (kept : KeptData) (new : RegisterData) (went came : List ℕ) (a : AreReplaced nights changed kept.register new went came) where
  pub exchange_of : AreKeptFor settings nights kept → RiseByNumber nights → AreNights (tracklets_of_each nights) → IsExchangeOf settings went came kept.sets (with_numbers new.nights (with_nights changed nights))
  exchange_of k rise follow = record {
    old = with_numbers kept.register.nights nights;
    rising = still_rise kept.register.nights nights rise;
    in_time = subst AreNights (sym (plain_again kept.register.nights nights k.numbered)) follow;
    exchanged = a.exchanged;
    kept = k.sets;
  }

  pub few_tests : (table : List Place) (before after : ℕ) → IsBounded (record { settings = settings; nights = with_numbers new.nights (with_nights changed nights); table = table }) came before after
      → AreFewTests settings kept.register.nights nights (with_nights changed nights) before after
  few_tests table before after bounded = record {
    numbers = new.nights;
    table = table;
    went = went;
    came = came;
    numbered = a.now.numbered;
    exchanged = a.exchanged;
    bounded = bounded;
  }

  pub nothing_came : BringNothing nights changed → came ≡ []
  nothing_came b = none_at_all came (a.nothing b) where
    none_at_all : (list : List ℕ) → ((number : ℕ) → ¬ (Contains list number)) → list ≡ []
    none_at_all [] none = refl
    none_at_all (number ∷ list) none = absurd (none number (in_front number list))

pub now_kept : (settings : SettingsData) (nights : List NightData) (middle : RegisterData) (went : List ℕ) (new : KeptData) → AreNumberedBut nights middle went → new.register.nights ≡ middle.nights
    → ((number : ℕ) → Contains went number → is_taken new.register.taken number ≡ false) → ((number : ℕ) → ¬ (Contains went number) → is_taken new.register.taken number ≡ is_taken middle.taken number)
    → AreKept (FitsByNumber settings (by_night (with_numbers middle.nights nights))) new.sets → AreKeptFor settings nights new
now_kept settings nights middle went new a same freed others sets = record {
  numbered = subst (λ (list : List NightNumbers). HasNumbersOf list nights) (sym same) a.numbered;
  no_others = λ number none. subst (λ (list : List NightNumbers). numbers_of list number ≡ []) (sym same) (a.no_others number none);
  none_waits = λ number t. elim (in_or_not went number) [
    | inl gone ↦ absurd (false≢true (sym (freed number gone) ∙ t))
    | inr stays ↦ elim (a.none_waits number (sym (others number stays) ∙ t)) [
      | inl c ↦ absurd (stays c)
      | inr w ↦ (w.0, subst (λ (list : List NightNumbers). Contains (numbers_of list w.0) number) (sym same) w.1)
    ]
  ];
  sets = subst (λ (list : List NightNumbers). AreKept (FitsByNumber settings (by_night (with_numbers list nights))) new.sets) (sym same) sets;
}
