-- What is kept of a log, and the nights that it follows by.
use Rattle.std.proofs.Common.{◌≡◌, ◌⊎◌, ℤ, ℕ, List, [], ◌∷◌, map, None, get_or, inl, inr, refl, sym, ap, ap₂, subst, ◌∙◌, arith}
use Rattle.std.specs.List.{All, Contains}
use Rattle.std.proofs.lemmas.List.Elements.{All-cons, All-contains, All-nil, Contains-get_or}
use Rattle.sky_math.specs.Night.{night_at}
use Rattle.exposure_log.proofs.Keeping.{moving_keeps_order}
use Rattle.exposure_log.specs.Held.{ExposureData, LogData, TakesIn, moved, refusal, window_refusal}
use Rattle.exposure_log.specs.Orderly.{IsOrderly}
use Rattle.exposure_log.specs.declared.outcomes.Outcome.{Outcome}
use Rattle.kept_nights.specs.KeptNights.{RiseByNumber, night_data, nights_of, with_night}
use Rattle.kept_nights.specs.LinkerState.{LinkerState}
use Rattle.kept_nights.specs.Renewed.{AreRenewed, IsNightOf, with_nights}
use Rattle.kept_nights.proofs.DifferentTracklets.{HaveEachOnce, each_once, labels_of_night, once_of_night}
use Rattle.kept_nights.proofs.HeldNights.{in_order_follow}
use Rattle.kept_nights.proofs.KeptNights.{kept_nights, member_is, member_of, moved_nights, numbers_rise}
use Rattle.kept_nights.proofs.Renewal.{nights_follow}
use Rattle.kept_nights.proofs.WithNight.{with_members}
use Rattle.kept_tracks.specs.Costs.{AreFewTests, BringNothing}
use Rattle.kept_tracks.specs.KeptFor.{AreKeptFor, KeptData, StandAlike, since}
use Rattle.kept_tracks.specs.Stages.{tracklets_of_night}
use Rattle.kept_tracks.proofs.NightChanges.{found_or_none}
use Rattle.night_tree.specs.Nights.{NightData, tracklets_of_each}
use Rattle.set_grow.proofs.Members.{in_front, in_rest}
use Rattle.set_grow.specs.Nights.{NumberedNightData, numbered_by}
use Rattle.sky_units.specs.SettingsData.{SettingsData}
use Rattle.sky_units.specs.TrackletData.{NightTracklets}
use Rattle.sky_units.specs.Tracks.{AreNights}
use Rattle.sky_units.specs.declared.tallies.Tally.{Tally}
use Rattle.tracklet_register.proofs.Numbered.{tracklets_are}
use Rattle.tracklet_register.specs.Registers.{HasNumbersOf, numbers_of, with_numbers}
use Rattle.tracklet_register.specs.Replacing.{AreDifferent, HaveDifferentLabels}
use Rattle.tracklet_register.specs.declared.nights.NightNumbers.{NightNumbers}
use Rattle.window_incr.specs.Keeping.{AreResults, HadNights, WereNights, WereNightsBut, nights_under}
use Rattle.window_incr.specs.LinkerState.{LinkerData}
use Rattle.window_incr.specs.Results.{KeepsResults, plain_night}
use Rattle.window_incr.specs.Work.{IsWork, NothingCame}

all_of : {X : Type 0} → (P : X → Type 0) (xs : List X) → ((x : X) → Contains xs x → P x) → All P xs
all_of P xs each = λ i d il. each (get_or xs i d) (Contains-get_or xs i d il)

-- ---- nights with their numbers
-- the same numbers of each night
pub alike_numbers : (old new : List NightNumbers) (nights : List NightData) → ((night : ℤ) → numbers_of new night ≡ numbers_of old night) → with_numbers new nights ≡ with_numbers old nights
alike_numbers old new [] same = refl
alike_numbers old new (night ∷ nights) same =
    let here = ap (λ (ns : List ℕ). record { number = night.number; tracklets = numbered_by ns night.tracklets }) (same night.number) in
    ap₂ (λ (first : NumberedNightData) (rest : List NumberedNightData). first ∷ rest) here (alike_numbers old new nights same)

-- without the numbers they are the nights
pub plain_nights : (register : List NightNumbers) (nights : List NightData) → HasNumbersOf register nights → map plain_night (with_numbers register nights) ≡ nights
plain_nights register [] size = refl
plain_nights register (night ∷ nights) size =
    let here = ap (λ (list : NightTracklets). record { number = night.number; tracklets = list }) (tracklets_are (numbers_of register night.number) night.tracklets (size night (in_front night nights))) in
    ap₂ (λ (first : NightData) (rest : List NightData). first ∷ rest) here (plain_nights register nights (λ later c. size later (in_rest night nights later c)))

-- a linker that keeps what is kept for its nights
abbrev pub linker_of : SettingsData → LogData → List NightData → KeptData → LinkerData
linker_of settings log nights kept = record {
  state = record { settings = settings; log = log };
  nights = nights;
  numbered = with_numbers kept.register.nights nights;
  sets = kept.sets;
}

pub keeps_results : (settings : SettingsData) (log : LogData) (nights : List NightData) (kept : KeptData) → nights ≡ nights_under settings log → AreKeptFor settings nights kept → KeepsResults (linker_of settings log nights kept)
keeps_results settings log nights kept are k = record { nights = are; numbered = plain_nights kept.register.nights nights k.numbered; sets = k.sets }

-- what stands alike is seen as the same
pub seen_alike : (settings : SettingsData) (log : LogData) (nights : List NightData) (old new : KeptData) → StandAlike old new → linker_of settings log nights new ≡ linker_of settings log nights old
seen_alike settings log nights old new same = ap₂ (λ (numbered : List NumberedNightData) (sets : List (List ℕ)). record { state = record { settings = settings; log = log }; nights = nights; numbered = numbered; sets = sets })
    (alike_numbers old.register.nights new.register.nights nights same.register.nights) same.sets

-- ---- the nights of an orderly log
module _ (settings : SettingsData) (log : LogData) (nights : List NightData) where
  abbrev here : LinkerState
  here = record { settings = settings; log = log }

  pub rise_of : nights ≡ nights_under settings log → RiseByNumber nights
  rise_of are = subst RiseByNumber (sym are) (numbers_rise here)

  pub follow_of : IsOrderly log → nights ≡ nights_under settings log → AreNights (tracklets_of_each nights)
  follow_of o are = subst AreNights (sym (ap tracklets_of_each are)) (in_order_follow here o)

  pub once_of : IsOrderly log → nights ≡ nights_under settings log → HaveEachOnce (tracklets_of_each nights)
  once_of o are = subst HaveEachOnce (sym (ap tracklets_of_each are)) (each_once here o)

  -- the tracklets of the night of a number are told by their labels
  pub labels_of : IsOrderly log → nights ≡ nights_under settings log → (number : ℤ) → HaveDifferentLabels (tracklets_of_night nights number)
  labels_of o are number = elim (found_or_none nights number) [
    | inl f ↦
        let is = (member_is here f.night (subst (λ (list : List NightData). Contains list f.night) are f.there)).1 in
        subst HaveDifferentLabels (sym (f.tracklets ∙ ap (λ (night : NightData). night.tracklets) is)) (labels_of_night here f.night.number o)
    | inr n ↦ subst HaveDifferentLabels (sym n.tracklets) (λ i j d ij jl. absurd (omega (arith, jl)))
  ]

-- ---- nights that take the places of those before
module _ (settings : SettingsData) (log : LogData) (nights changed : List NightData) (w : WereNights settings log nights changed) where
  abbrev now : LinkerState
  now = record { settings = settings; log = log }

  pub rising : RiseByNumber nights
  rising = rise_of settings w.before nights w.are

  pub following : AreNights (tracklets_of_each nights)
  following = follow_of settings w.before nights w.was_orderly w.are

  pub follow_now : AreNights (tracklets_of_each (with_nights changed nights))
  follow_now = follow_of settings log (with_nights changed nights) w.orderly w.renewed

  pub once_each : All (λ (night : NightData). AreDifferent night.tracklets) changed
  once_each = all_of (λ (night : NightData). AreDifferent night.tracklets) changed (λ night c.
      let is = (All-contains (IsNightOf now) changed night w.each c).1 in
      subst (λ (n : NightData). AreDifferent n.tracklets) (sym is) (once_of_night now night.number w.orderly))

  pub bring_nothing : NothingCame nights (nights_under settings log) → BringNothing nights changed
  bring_nothing none = all_of (λ (night : NightData). HaveDifferentLabels (tracklets_of_night nights night.number) × All (Contains (tracklets_of_night nights night.number)) night.tracklets) changed (λ night c.
      let is = All-contains (IsNightOf now) changed night w.each c in
      let there = subst (Contains (nights_of now)) (sym is.1) (member_of now night.number w.orderly is.0) in
      (labels_of settings w.before nights w.was_orderly w.are night.number, none night there))

  pub work_of : (register : List NightNumbers) (before after : Tally) → ((after ≡ before) ⊎ AreFewTests settings register nights (with_nights changed nights) before.tests after.tests) → (BringNothing nights changed → after ≡ before)
      → IsWork settings nights (with_numbers register nights) (nights_under settings log) before after
  work_of register before after tests calm = record {
    none = λ none. calm (bring_nothing none);
    bounded = elim tests [
      | inl e ↦ inl e
      | inr few ↦ inr (record {
        numbered = with_numbers few.numbers (with_nights changed nights);
        table = few.table;
        went = few.went;
        came = few.came;
        are = plain_nights few.numbers (with_nights changed nights) few.numbered ∙ w.renewed;
        exchanged = few.exchanged;
        bounded = few.bounded;
      })
    ];
  }

-- a tally that stays
pub no_work : (settings : SettingsData) (nights : List NightData) (numbered : List NumberedNightData) (new : List NightData) (before after : Tally) → after ≡ before → IsWork settings nights numbered new before after
no_work settings nights numbered new before after e = record { none = λ none. e; bounded = inl e }

-- ---- the nights that are built anew
-- one night
pub were_one : (settings : SettingsData) (log : LogData) (nights : List NightData) (number : ℤ) (night : NightData) → WereNightsBut settings log nights number → night ≡ night_data (record { settings = settings; log = log }) number → WereNights settings log nights (night ∷ [])
were_one settings log nights number night w e =
    let s : LinkerState = record { settings = settings; log = log } in
    let is = member_is s (night_data s number) (subst (λ (list : List NightData). Contains list (night_data s number)) w.renewed ((with_members (night_data s number) nights (night_data s number)).1 (inl refl))) in
    subst (λ (one : NightData). WereNights settings log nights (one ∷ [])) (sym e) (record {
      before = w.before;
      was_orderly = w.was_orderly;
      orderly = w.orderly;
      are = w.are;
      each = All-cons (IsNightOf s) (night_data s number) [] is (All-nil (IsNightOf s));
      once = λ i j d ij jl. absurd (omega (arith, ij, jl));
      renewed = w.renewed;
    })

-- those of some outcomes
pub were_all : (settings : SettingsData) (log : LogData) (nights changed : List NightData) (outcomes : List Outcome) → IsOrderly log → HadNights settings log nights outcomes → AreRenewed (record { settings = settings; log = log }) outcomes changed → WereNights settings log nights changed
were_all settings log nights changed outcomes o had renewed = record {
  before = had.before;
  was_orderly = had.was_orderly;
  orderly = o;
  are = had.are;
  each = renewed.are;
  once = renewed.once;
  renewed = nights_follow settings log outcomes changed nights (with_nights changed nights) o renewed refl had.before had.was_orderly had.came had.are;
}

-- the night of an exposure that was taken in
pub were_added : (settings : SettingsData) (log new : LogData) (x : ExposureData) (nights : List NightData) → IsOrderly log → refusal log x ≡ None → TakesIn log new x → IsOrderly new → log.night_shift ≡ settings.night_shift → nights ≡ nights_under settings log
    → WereNightsBut settings new nights (night_at settings.night_shift x.epoch)
were_added settings log new x nights o none a o' shift are =
    let now : LinkerState = record { settings = settings; log = new } in
    record {
      before = log;
      was_orderly = o;
      orderly = o';
      are = are;
      renewed = kept_nights (record { settings = settings; log = log }) new x nights (with_night (night_data now (night_at settings.night_shift x.epoch)) nights) o none a o' shift are refl;
    }

-- the nights that are left when the window is moved
pub moved_under : (settings : SettingsData) (log : LogData) (lo hi : ℤ) (nights : List NightData) → IsOrderly log → window_refusal log.window lo hi ≡ None → nights ≡ nights_under settings log → since lo nights ≡ nights_under settings (moved log lo hi)
moved_under settings log lo hi nights o passed are = ap (since lo) are ∙ moved_nights (record { settings = settings; log = log }) lo hi o (moving_keeps_order log lo hi o passed)

-- what is lent of what is kept
pub results_of : (settings : SettingsData) (log : LogData) (nights lent : List NightData) (kept : KeptData) → log.night_shift ≡ settings.night_shift → IsOrderly log → nights ≡ nights_under settings log → AreKeptFor settings nights kept → lent ≡ nights → AreResults settings log lent kept
results_of settings log nights lent kept shift o are sets e = record {
  sound = record { shift = shift; orderly = o };
  are = e ∙ are;
  sets = subst (λ (list : List NightData). AreKeptFor settings list kept) (sym e) sets;
}

-- without a window there are no nights
pub none_under : (settings : SettingsData) (log : LogData) → log.window ≡ None → nights_under settings log ≡ []
none_under settings log none = rw none refl

-- where there was no window, and there is none, there are no nights, and nothing is kept
pub nothing_under : (settings other : SettingsData) (log new : LogData) (nights : List NightData) (kept : KeptData) → nights ≡ nights_under settings log → log.window ≡ None → new.window ≡ None → ((any : SettingsData) → AreKeptFor any [] kept)
    → (nights ≡ nights_under other new) × AreKeptFor other nights kept
nothing_under settings other log new nights kept are none still nothing =
    let empty : nights ≡ [] = are ∙ none_under settings log none in
    (empty ∙ sym (none_under other new still), subst (λ (list : List NightData). AreKeptFor other list kept) (sym empty) (nothing other))
