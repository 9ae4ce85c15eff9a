-- The spots of the nights with held exposures: each is where a held detection stands, and the nights follow one another within the time of an arc.
use Rattle.std.proofs.Common.{◌≡◌, ℕ, ◌<◌, ◌^◌, ℤ, ◌+ℤ◌, ◌≤ℤ◌, ◌<ℤ◌, Bool, true, false, not, List, [], ◌∷◌, ◌++◌, ◌==◌, Option, Some, map, length, get_or, zero, suc, refl, sym, ap, ap₂, subst, ◌∙◌, arith, eq-eqb, ◌+◌, pos, ◌-ℤ◌, None}
use Rattle.std.specs.Cmp.Lexicographic.{slice_cmp}
use Rattle.std.specs.List.{All, Contains, filter}
use Rattle.std.specs.List.Sorted.{IsStrictlySortedBy}
use Rattle.std.specs.Ordering.{int_cmp, int_eq, nat_cmp, ordering_then, MatchOrdering}
use Rattle.std.specs.declared.cmp.Ordering.{Ordering}
use Rattle.std.specs.declared.cmp.Ordering.TheVariants.{Less, Equal, Greater}
use Rattle.std.specs.Int.{int_gap}
use Rattle.std.specs.Option.{option_map_or}
use Rattle.std.proofs.lemmas.Bool.{eqb-true}
use Rattle.std.proofs.lemmas.Cmp.{int_ranked}
use Rattle.std.proofs.lemmas.Int.{ints}
use Rattle.std.proofs.lemmas.List.{get_or-map, length-map}
use Rattle.std.proofs.lemmas.List.Filters.{length-filter_both}
use Rattle.std.proofs.lemmas.List.Kept.{AllPairs-filter}
use Rattle.std.proofs.lemmas.Map.Keys.{Less-from_sorted}
use Rattle.std.proofs.lemmas.Bool.Decides.{Decides-int_eq}
use Rattle.std.proofs.lemmas.List.Elements.{All-head, All-tail, All-map, All-filter, All-contains, All-contains_itself, filter_passes, filter-append, Contains-append_left, Contains-append_right, All-nil}
use Rattle.std.proofs.lemmas.List.FromFn.{length-range_with_len, get_or-range_with_len}
use Rattle.std.proofs.lemmas.Simd.{map-map}
use Rattle.sky_math.specs.Lists.{EachTwo}
use Rattle.sky_math.specs.Night.{night_at}
use Rattle.sky_math.proofs.Days.{IsDayOf, time_of_night}
use Rattle.sky_units.specs.Pairs.{EpochsDontFall, below}
use Rattle.sky_units.specs.SettingsData.{SettingsData}
use Rattle.sky_units.specs.SpotData.{SpotData}
use Rattle.sky_units.specs.Tracks.{IsOfNight, AreNights, IsChoice, IsHeld, IsNightBefore}
use Rattle.sky_units.specs.Limits.{arc_ticks, IsWindow}
use Rattle.sky_units.specs.TrackletData.{NightTracklets, IsTracklet, TrackSetData, spots_of}
use Rattle.miti_text.specs.Observation.{Observation}
use Rattle.miti_text.specs.CanonicalOrder.{canonical_cmp}
use Rattle.exposure_log.specs.Held.{LogData, HeldExposure, detections_of, held_at, of_night, spot_of, spots_of_night}
use Rattle.exposure_log.specs.Orderly.{AreOfOneExposure, HaveNumbersApart, IsOrderly, IsInside, LieInWindow}
use Rattle.exposure_log.proofs.Joined.{all_joined}
use Rattle.exposure_log.proofs.Searching.{filter_all, filter_none}
use Rattle.line_fit.specs.Slopes.{AreOfOneDay}
use Rattle.night_tree.specs.Nights.{tracklets_of, NightData, tracklets_of_each}
use Rattle.night_tree.proofs.NightTracklets.{tracklets_are_of, all_tracklets}
use Rattle.plain_tracks.proofs.Members.{each_two_map, found}
use Rattle.plain_tracks.proofs.Choices.{held_of_choice}
use Rattle.kept_nights.specs.LinkerState.{LinkerState}
use Rattle.kept_nights.specs.KeptNights.{nights_in, is_held_night, held_nights, night_data, nights_of}
use Rattle.kept_nights.specs.Soundness.{IsSoundState}

abbrev pub Entry : Type 0
Entry = ℕ × Observation

-- a spot of a held exposure of a night
pub record IsSpotOf (log : LogData) (night : ℤ) (spot : SpotData) : Type 0 where
  pub exposure : HeldExposure
  pub held : Contains log.exposures exposure
  pub entry : Entry
  pub among : Contains exposure.detections entry
  pub is : spot ≡ spot_of entry
  pub night_is : night_at log.night_shift exposure.epoch ≡ night

pub spots_are_of : (log : LogData) (night : ℤ) → All (IsSpotOf log night) (spots_of_night log night)
spots_are_of log night =
    let here : HeldExposure → Bool = λ x. int_eq (night_at log.night_shift x.epoch) night in
    All-map (IsSpotOf log night) spot_of (detections_of (filter here log.exposures))
    (all_joined (λ x. x.detections) (λ d. IsSpotOf log night (spot_of d)) (λ x. All (λ d. IsSpotOf log night (spot_of d)) x.detections) (λ x all. all) (filter here log.exposures)
    (λ k x kn i d im. record {
      exposure = get_or (filter here log.exposures) k x;
      held = All-filter here (Contains log.exposures) log.exposures (All-contains_itself log.exposures) k x kn;
      entry = get_or (get_or (filter here log.exposures) k x).detections i d;
      among = All-contains_itself (get_or (filter here log.exposures) k x).detections i d im;
      is = refl;
      night_is = (Decides-int_eq _ _).0 (filter_passes here log.exposures k x kn);
    }))

-- a spot of a tracklet of a night
pub in_night : (s : SettingsData) (log : LogData) (night : ℤ) (spot : SpotData) → IsOfNight (tracklets_of s (spots_of_night log night)) spot → IsSpotOf log night spot
in_night s log night spot h =
    let spots : List SpotData = spots_of_night log night in
    let among : Contains spots spot = All-contains (Contains spots) h.0 spot (All-contains (All (Contains spots)) (tracklets_of s spots) h.0 (tracklets_are_of s spots) h.1) h.2 in
    All-contains (IsSpotOf log night) spots spot (spots_are_of log night) among

pub epoch_of : (log : LogData) (night : ℤ) (spot : SpotData) (h : IsSpotOf log night spot) → All AreOfOneExposure log.exposures → spot.epoch ≡ h.exposure.epoch
epoch_of log night spot h one =
    ap (λ (t : SpotData). t.epoch) h.is ∙ (All-contains (λ (d : Entry). (d.1.epoch ≡ h.exposure.epoch) × (d.1.site ≡ h.exposure.site)) h.exposure.detections h.entry (All-contains AreOfOneExposure log.exposures h.exposure one h.held) h.among).0

pub day_of_spot : (log : LogData) (night : ℤ) (spot : SpotData) → IsSpotOf log night spot → All AreOfOneExposure log.exposures → IsDayOf (spot.epoch +ℤ log.night_shift) night
day_of_spot log night spot h one =
    let night_is : night_at log.night_shift spot.epoch ≡ night = ap (night_at log.night_shift) (epoch_of log night spot h one) ∙ h.night_is in
    subst (IsDayOf (spot.epoch +ℤ log.night_shift)) night_is (time_of_night log.night_shift spot.epoch)

-- a detection of a held exposure is a held detection
entry_held : (xs : List HeldExposure) (k : ℕ) (x : HeldExposure) (d : Entry) → k < length xs → get_or xs k x ≡ x → Contains x.detections d → Contains (detections_of xs) d
entry_held [] k x d lt e h = absurd (omega arith)
entry_held (y ∷ ys) zero x d lt e h = Contains-append_left y.detections (detections_of ys) d (subst (λ (z : HeldExposure). Contains z.detections d) (sym e) h)
entry_held (y ∷ ys) (suc k) x d lt e h = Contains-append_right y.detections (detections_of ys) d (entry_held ys k x d (omega arith) e h)

pub is_held : (log : LogData) (night : ℤ) (spot : SpotData) (h : IsSpotOf log night spot) → Contains (detections_of log.exposures) h.entry
is_held log night spot h = entry_held log.exposures h.held.0 h.exposure h.entry h.held.1 h.held.2 h.among

-- ---- the detections of a night, among all

abbrev pub of_night_entry : LogData → ℤ → Entry → Bool
of_night_entry log night d = int_eq (night_at log.night_shift d.1.epoch) night

-- those of the exposures of the night are those of its epochs
pub filtered : (log : LogData) (night : ℤ) (xs : List HeldExposure) → All AreOfOneExposure xs
    → detections_of (filter (λ x. int_eq (night_at log.night_shift x.epoch) night) xs) ≡ filter (of_night_entry log night) (detections_of xs)
filtered log night [] one = refl
filtered log night (x ∷ xs) one =
    let first : All (λ (d : Entry). (d.1.epoch ≡ x.epoch) × (d.1.site ≡ x.site)) x.detections = All-head AreOfOneExposure x xs one in
    let rest = filtered log night xs (All-tail AreOfOneExposure x xs one) in
    let same : All (λ d. of_night_entry log night d ≡ int_eq (night_at log.night_shift x.epoch) night) x.detections = λ k d kn. ap (λ (e : ℤ). int_eq (night_at log.night_shift e) night) (first k d kn).0 in
    rw (filter-append (of_night_entry log night) x.detections (detections_of xs), ← rest) (by_test (int_eq (night_at log.night_shift x.epoch) night) refl same)
  where
    by_test : (b : Bool) → int_eq (night_at log.night_shift x.epoch) night ≡ b → All (λ d. of_night_entry log night d ≡ int_eq (night_at log.night_shift x.epoch) night) x.detections
        → detections_of (filter (λ y. int_eq (night_at log.night_shift y.epoch) night) (x ∷ xs)) ≡ filter (of_night_entry log night) x.detections ++ detections_of (filter (λ y. int_eq (night_at log.night_shift y.epoch) night) xs)
    by_test true e same = rw (e, filter_all (of_night_entry log night) x.detections (λ k d kn. same k d kn ∙ e)) refl
    by_test false e same = rw (e, filter_none (of_night_entry log night) x.detections (λ k d kn. same k d kn ∙ e)) refl

abbrev IsInTime : Entry → Entry → Type 0
IsInTime a b = a.1.epoch ≤ℤ b.1.epoch

no_later : (x y : Observation) → canonical_cmp x y ≡ Less → x.epoch ≤ℤ y.epoch
no_later x y h = by (int_cmp x.epoch y.epoch) (ordering_then (slice_cmp nat_cmp x.site y.site) (slice_cmp nat_cmp x.id y.id)) (int_ranked x.epoch y.epoch (int_cmp x.epoch y.epoch) refl) h
  where
    by : (o s : Ordering) → MatchOrdering o (x.epoch <ℤ y.epoch) (x.epoch ≡ y.epoch) (y.epoch <ℤ x.epoch) → ordering_then o s ≡ Less → x.epoch ≤ℤ y.epoch
    by Less s m h = omega (arith, ints, m)
    by Equal s m h = omega (arith, ints, m)
    by Greater s m h = absurd (cc)

in_time : (ds : List Entry) → IsStrictlySortedBy canonical_cmp (map (λ d. d.1) ds) → EachTwo IsInTime ds
in_time ds h = λ i j d ij jn.
    let less = Less-from_sorted canonical_cmp (map (λ (e : Entry). e.1) ds) i j d.1 h ij (omega (arith, jn, length-map ds (λ (e : Entry). e.1))) in
    no_later (get_or ds i d).1 (get_or ds j d).1 (rw (get_or-map (λ (e : Entry). e.1) ds i d d.1 (omega arith), get_or-map (λ (e : Entry). e.1) ds j d d.1 jn) at less)

pub epochs_dont_fall : (log : LogData) (night : ℤ) → IsOrderly log → EpochsDontFall (spots_of_night log night)
epochs_dont_fall log night o =
    each_two_map (λ (a b : SpotData). a.epoch ≤ℤ b.epoch) spot_of (detections_of (of_night log.night_shift night log.exposures))
    (rw (filtered log night log.exposures o.of_one) (AllPairs-filter IsInTime (of_night_entry log night) (detections_of log.exposures) (in_time (detections_of log.exposures) o.in_order)))

pub few_of_night : (log : LogData) (night : ℤ) → IsOrderly log → length (spots_of_night log night) < 2 ^ 32
few_of_night log night o =
    let all : List Entry = detections_of log.exposures in
    let kept = length-filter_both (of_night_entry log night) (λ d. not (of_night_entry log night d)) (λ d. refl) all in
    let same = ap length (filtered log night log.exposures o.of_one) in
    omega (arith, kept, same, o.few, length-map (detections_of (of_night log.night_shift night log.exposures)) spot_of)

pub of_one_day : (log : LogData) (night : ℤ) → IsOrderly log → AreOfOneDay (spots_of_night log night)
of_one_day log night o = λ i j d ij jn.
    let one = day_of_spot log night (get_or (spots_of_night log night) i d) (spots_are_of log night i d (omega arith)) o.of_one in
    let other = day_of_spot log night (get_or (spots_of_night log night) j d) (spots_are_of log night j d jn) o.of_one in
    omega (arith, ints, one.from, other.until)

-- ---- the detection of a spot's number
pub held_is : (xs : List HeldExposure) (n : ℕ) (d : Observation) → HaveNumbersApart xs → Contains (detections_of xs) (n, d) → held_at xs n ≡ Some d
held_is xs n d apart c = found (λ m. m == n) (detections_of xs) n d c (eq-eqb n n refl)
    (λ e i t. apart n e.1 d (subst (λ m. Contains (detections_of xs) (m, e.1)) (eqb-true e.0 n t) i) c)

-- a spot is where the held detection of its number stands
pub record IsHeldSpot (xs : List HeldExposure) (spot : SpotData) : Type 0 where
  pub detection : Observation
  pub held : Contains (detections_of xs) (spot.num, detection)
  pub is : spot ≡ spot_of (spot.num, detection)

-- of one number there is one
pub one_spot : (xs : List HeldExposure) (a b : SpotData) → HaveNumbersApart xs → IsHeldSpot xs a → IsHeldSpot xs b → a.num ≡ b.num → a ≡ b
one_spot xs a b apart h k same = h.is ∙ (ap₂ (λ n d. spot_of (n, d)) same (apart b.num h.detection k.detection (subst (λ n. Contains (detections_of xs) (n, h.detection)) same h.held) k.held) ∙ sym k.is)

pub held_spot : (log : LogData) (night : ℤ) (spot : SpotData) → IsSpotOf log night spot → IsHeldSpot log.exposures spot
held_spot log night spot h =
    let number : h.entry.0 ≡ spot.num = sym (ap (λ (t : SpotData). t.num) h.is) in
    record {
      detection = h.entry.1;
      held = subst (λ n. Contains (detections_of log.exposures) (n, h.entry.1)) number (is_held log night spot h);
      is = h.is ∙ ap (λ n. spot_of (n, h.entry.1)) number;
    }

pub held_there : (log : LogData) (night : ℤ) (spot : SpotData) (h : IsSpotOf log night spot) → HaveNumbersApart log.exposures → held_at log.exposures spot.num ≡ Some h.entry.1
held_there log night spot h apart = rw h.is (held_is log.exposures h.entry.0 h.entry.1 apart (is_held log night spot h))

-- ---- the numbers of the nights rise

rising_below : (n : ℕ) → EachTwo (λ i j. i < j) (below n)
rising_below n = λ i j d ij jn.
    let within : j < n = omega (arith, jn, length-range_with_len 0 n) in
    let a : get_or (below n) i d ≡ 0 + i = get_or-range_with_len 0 n i d (omega arith) in
    let b : get_or (below n) j d ≡ 0 + j = get_or-range_with_len 0 n j d within in
    omega (arith, a, b)

abbrev pub IsBefore : ℤ → ℤ → Type 0
IsBefore m n = m <ℤ n

pub in_rising : (window : ℤ × ℤ) → EachTwo IsBefore (nights_in window)
in_rising window =
    let n : ℕ = int_gap window.0 (window.1 +ℤ pos 1) in
    each_two_map IsBefore (λ (i : ℕ). window.0 +ℤ pos i) (below n) (λ i j d ij jn. let up = rising_below n i j d ij jn in omega (arith, ints, up))

rising_in : (p : ℤ → Bool) (window : Option (ℤ × ℤ)) → EachTwo IsBefore (option_map_or (λ w. filter p (nights_in w)) window [])
rising_in p None = λ i j d ij jn. absurd (omega arith)
rising_in p (Some window) = AllPairs-filter IsBefore p (nights_in window) (in_rising window)

pub nights_rise : (log : LogData) → EachTwo IsBefore (held_nights log)
nights_rise log = rising_in (is_held_night log) log.window

-- ---- they lie in the window

record AreInside (log : LogData) : Type 0 where
  window : ℤ × ℤ
  is : IsWindow window
  inside : All (IsInside log.night_shift window) log.exposures

inside_of : (log : LogData) (window : Option (ℤ × ℤ)) → LieInWindow log.night_shift window log.exposures → AreInside log
inside_of log None h = record {
  window = (pos 0, pos 0);
  is = record { from = omega (arith, ints); short = omega (arith, ints) };
  inside = rw h (All-nil (IsInside log.night_shift (pos 0, pos 0)));
}
inside_of log (Some window) h = record { window = window; is = h.0; inside = h.1 }

-- ---- the spots of the nights

-- a spot of a tracklet of some night
record IsSpot (log : LogData) (spot : SpotData) : Type 0 where
  night : ℤ
  is_of : IsSpotOf log night spot

abbrev pub here : LinkerState → ℤ → NightTracklets
here s night = tracklets_of s.settings (spots_of_night s.log night)

pub each_is : (s : LinkerState) → tracklets_of_each (nights_of s) ≡ map (here s) (held_nights s.log)
each_is s = map-map (λ (night : NightData). night.tracklets) (night_data s) (held_nights s.log)

spot_held : (s : LinkerState) (spot : SpotData) (nights : List ℤ) → IsHeld (map (here s) nights) spot → IsSpot s.log spot
spot_held s spot nights h =
    All-contains (λ (t : NightTracklets). IsOfNight t spot → IsSpot s.log spot) (map (here s) nights) h.0
    (All-map (λ (t : NightTracklets). IsOfNight t spot → IsSpot s.log spot) (here s) nights
    (λ k d kn of. record { night = get_or nights k d; is_of = in_night s.settings s.log (get_or nights k d) spot of })) h.1 h.2

night_before : (s : LinkerState) (m n : ℤ) → All AreOfOneExposure s.log.exposures → m <ℤ n → IsNightBefore (here s m) (here s n)
night_before s m n one h = λ spot later a b.
    let t = day_of_spot s.log m spot (in_night s.settings s.log m spot a) one in
    let u = day_of_spot s.log n later (in_night s.settings s.log n later b) one in
    omega (arith, ints, t.until, u.from, h)

within_arc : (a b m n lo hi : ℤ) → IsDayOf a m → IsDayOf b n → lo ≤ℤ m → n ≤ℤ hi → (hi -ℤ lo) <ℤ pos 30 → (b -ℤ a) <ℤ pos 30000000
within_arc a b m n lo hi p q from to short = omega (arith, ints, p.from, q.until)

inside_is : (log : LogData) (spot : SpotData) (i : AreInside log) (h : IsSpot log spot) → (i.window.0 ≤ℤ h.night) × (h.night ≤ℤ i.window.1)
inside_is log spot i h =
    let in_it = All-contains (IsInside log.night_shift i.window) log.exposures h.is_of.exposure i.inside h.is_of.held in
    subst (λ (n : ℤ). (i.window.0 ≤ℤ n) × (n ≤ℤ i.window.1)) h.is_of.night_is in_it

short : (log : LogData) (spot later : SpotData) → IsOrderly log → IsSpot log spot → IsSpot log later → (later.epoch -ℤ spot.epoch) <ℤ arc_ticks
short log spot later o a b =
    let i = inside_of log log.window o.in_window in
    let p = inside_is log spot i a in
    let q = inside_is log later i b in
    let r = within_arc (spot.epoch +ℤ log.night_shift) (later.epoch +ℤ log.night_shift) a.night b.night i.window.0 i.window.1 (day_of_spot log a.night spot a.is_of o.of_one) (day_of_spot log b.night later b.is_of o.of_one) p.0 q.1 i.is.short in
    omega (arith, ints, r)

pub in_order_follow : (s : LinkerState) → IsOrderly s.log → AreNights (tracklets_of_each (nights_of s))
in_order_follow s o =
    let nights : List ℤ = held_nights s.log in
    subst AreNights (sym (each_is s)) (record {
      tracklets = All-map (All IsTracklet) (here s) nights (λ k d kn. all_tracklets s.settings (spots_of_night s.log (get_or nights k d)));
      follow = each_two_map IsNightBefore (here s) nights (λ i j d ij jn. night_before s (get_or nights i d) (get_or nights j d) o.of_one (nights_rise s.log i j d ij jn));
      short = λ spot later a b. short s.log spot later o (spot_held s spot nights a) (spot_held s later nights b);
      numbered = λ spot other a b same.
          let one = spot_held s spot nights a in
          let two = spot_held s other nights b in
          one_spot s.log.exposures spot other o.numbers (held_spot s.log one.night spot one.is_of) (held_spot s.log two.night other two.is_of) same;
    })

pub nights_follow : (s : LinkerState) → IsSoundState s → AreNights (tracklets_of_each (nights_of s))
nights_follow s sound = in_order_follow s sound.orderly

-- the spots of the nights' tracklets are held ones, and so are those of a choice of them
pub held_spots : (s : LinkerState) (spot : SpotData) → IsHeld (tracklets_of_each (nights_of s)) spot → IsHeldSpot s.log.exposures spot
held_spots s spot h =
    let held = spot_held s spot (held_nights s.log) (subst (λ nights. IsHeld nights spot) (each_is s) h) in
    held_spot s.log held.night spot held.is_of

pub chosen_spots : (s : LinkerState) (set : TrackSetData) → IsChoice (tracklets_of_each (nights_of s)) set → (spot : SpotData) → Contains (spots_of set) spot → IsHeldSpot s.log.exposures spot
chosen_spots s set choice spot c = held_spots s spot (held_of_choice (tracklets_of_each (nights_of s)) set choice spot c)
