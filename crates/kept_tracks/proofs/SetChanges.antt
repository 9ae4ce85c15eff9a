-- A change of the kept sets, from the exchange of tracklets and what was grown.
use Rattle.std.proofs.Common.{◌≡◌, ◌↔◌, ℕ, List, [], ◌∷◌, length, get_or, subst, arith}
use Rattle.std.proofs.lemmas.Map.Keys.{Less-from_sorted}
use Rattle.std.specs.Cmp.Lexicographic.{slice_cmp}
use Rattle.std.specs.List.{Contains}
use Rattle.std.specs.List.Sorted.{IsStrictlySortedBy}
use Rattle.std.specs.Ordering.{nat_cmp}
use Rattle.kept_nights.proofs.DifferentTracklets.{Comes, never_itself}
use Rattle.kept_sets.proofs.Families.{kept_now, ready}
use Rattle.kept_sets.specs.Changes.{AreReady, IsAfter, IsStep}
use Rattle.kept_sets.specs.Kept.{AreGrown, AreKept}
use Rattle.kept_sets.specs.Lists.{AreDifferent}
use Rattle.set_grow.proofs.Heredity.{parts_fit}
use Rattle.set_grow.proofs.Members.{in_none}
use Rattle.set_grow.specs.Fitting.{FitsByNumber}
use Rattle.set_grow.specs.Growing.{AreClosedSetsWithOne}
use Rattle.set_grow.specs.Nights.{HaveRisingNumbers, NumberedNightData, by_night}
use Rattle.set_grow.specs.Numbered.{NumberedTracklets, tracklets_in}
use Rattle.sky_units.specs.SettingsData.{SettingsData}
use Rattle.sky_units.specs.Tracks.{AreNights}
use Rattle.tracklet_register.proofs.Exchanging.{exchange_changes}
use Rattle.tracklet_register.proofs.Linking.{of_finitely_many}
use Rattle.kept_tracks.specs.Stages.{IsExchangeOf}

-- nothing stands twice in a rising list
rising_once : (sets : List (List ℕ)) → IsStrictlySortedBy (slice_cmp nat_cmp) sets → AreDifferent sets
rising_once sets sorted = λ i j d ij jl same. never_itself (get_or sets j d) (subst (λ set. Comes set (get_or sets j d)) same (Less-from_sorted (slice_cmp nat_cmp) sets i j d sorted ij jl))

-- what was grown, as the kept sets that hold one that came
pub grown_of : (settings : SettingsData) (nights : List NumberedTracklets) (came : List ℕ) (sets : List (List ℕ)) → AreClosedSetsWithOne settings nights came sets → AreGrown (FitsByNumber settings nights) came sets
grown_of settings nights came sets g = record {
  once = rising_once sets g.in_order;
  exactly = λ set. (
    λ c. (let w = (g.exactly set).0 c in ((w.0, w.2), w.1)),
    λ w. (g.exactly set).1 (w.0.0, w.1, w.0.1),
  );
}

-- where nothing came, nothing is grown
pub nothing_grown : (Fits : List ℕ → Type 0) → AreGrown Fits [] []
nothing_grown Fits = record {
  once = λ i j d ij jl. absurd (omega (arith, jl));
  exactly = λ set. (λ c. absurd (in_none set c), λ w. absurd (in_none w.1.0 w.1.1));
}

-- the same, where a list says that nothing came
pub none_came : (Fits : List ℕ → Type 0) (came : List ℕ) → length came ≡ 0 → AreGrown Fits came []
none_came Fits [] e = nothing_grown Fits
none_came Fits (x ∷ came) e = absurd (omega (arith, e))

module _ (settings : SettingsData) (new : List NumberedNightData) (went came : List ℕ) (sets grown : List (List ℕ)) (in_time : AreNights (tracklets_in (by_night new))) (rising : HaveRisingNumbers new) (e : IsExchangeOf settings went came sets new) (g : AreGrown (FitsByNumber settings (by_night new)) came grown) where
  is_step : IsStep (FitsByNumber settings (by_night e.old)) (FitsByNumber settings (by_night new)) went came sets grown
  is_step = record {
    before = parts_fit settings (by_night e.old) e.in_time;
    after = parts_fit settings (by_night new) in_time;
    finite = of_finitely_many settings (by_night e.old);
    change = exchange_changes settings e.old new went came e.rising rising e.in_time in_time e.exchanged;
    kept = e.kept;
    grown_now = g;
  }

  pub are_ready : AreReady went came sets grown
  are_ready = ready (FitsByNumber settings (by_night e.old)) (FitsByNumber settings (by_night new)) went came sets grown is_step

  pub are_kept : (now : List (List ℕ)) → AreDifferent now → ((set : List ℕ) → Contains now set ↔ IsAfter went came sets grown set) → AreKept (FitsByNumber settings (by_night new)) now
  are_kept now once exactly = kept_now (FitsByNumber settings (by_night e.old)) (FitsByNumber settings (by_night new)) went came sets grown is_step now once exactly
