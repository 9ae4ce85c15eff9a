-- The kept nights: which they are, and what they are after an exposure was added and after the window was moved.
use Rattle.std.proofs.Common.{◌≡◌, ℕ, ◌<◌, ℤ, pos, negsuc, ◌+ℤ◌, ◌≤ℤ◌, ◌<ℤ◌, Bool, true, false, not, ◌||◌, Option, None, Some, List, [], ◌∷◌, map, refl, sym, ap, ap₂, subst, ◌∙◌, inl, inr, arith}
use Rattle.std.specs.Int.{int_gap}
use Rattle.std.specs.Int.Signed.{lt_z}
use Rattle.std.specs.List.{All, Contains, filter, find, list_any}
use Rattle.std.specs.Option.{option_map_or}
use Rattle.std.specs.Ordering.{int_cmp, int_eq, nat_cmp, ordering_then, is_eq, MatchOrdering}
use Rattle.std.specs.Cmp.Lexicographic.{slice_cmp}
use Rattle.std.specs.declared.cmp.Ordering.{Ordering}
use Rattle.std.specs.declared.cmp.Ordering.TheVariants.{Less, Equal, Greater}
use Rattle.std.proofs.lemmas.Bool.{cases_Bool, false≢true}
use Rattle.std.proofs.lemmas.Bool.Decides.{Decides-int_eq}
use Rattle.std.proofs.lemmas.Cmp.{int_ranked}
use Rattle.std.proofs.lemmas.Int.{ints}
use Rattle.std.proofs.lemmas.List.Elements.{All-head, All-tail}
use Rattle.std.proofs.lemmas.List.Folds.{list_any-append}
use Rattle.std.proofs.lemmas.List.FromFn.{length-map-range_with_len, get_or-map-range_with_len}
use Rattle.std.proofs.lemmas.List.Kept.{AllPairs-filter}
use Rattle.std.proofs.lemmas.Map.Views.{any-filter_same}
use Rattle.sky_math.specs.Night.{night_at}
use Rattle.sky_units.specs.SettingsData.{SettingsData}
use Rattle.exposure_log.specs.Held.{LogData, HeldExposure, ExposureData, TakesIn, detections_of, stands_at, stands_before, stands_after, with_exposure, without_exposure, refusal, moved, spot_of, spots_of_night}
use Rattle.exposure_log.specs.Orderly.{IsInside, LieInWindow, IsOrderly}
use Rattle.exposure_log.proofs.Keeping.{removing_undoes}
use Rattle.exposure_log.proofs.Searching.{filter_within}
use Rattle.night_tree.specs.Nights.{NightData, tracklets_of}
use Rattle.plain_tracks.proofs.Agreement.{same_members}
use Rattle.plain_tracks.proofs.Members.{each_two_map, found_in, in_mapped, none_in, none_of, of_mapped}
use Rattle.plain_tracks.proofs.Steps.{in_none}
use Rattle.plain_tracks.proofs.Tracks.{filter_exact}
use Rattle.kept_nights.specs.LinkerState.{LinkerState}
use Rattle.kept_nights.specs.KeptNights.{nights_in, is_held_night, held_nights, night_data, nights_of, with_night, RiseByNumber}
use Rattle.kept_nights.specs.Renewed.{IsNightOf}
use Rattle.kept_nights.proofs.HeldNights.{nights_rise}
use Rattle.kept_nights.proofs.WithNight.{IsBefore, still_rise, with_members}

abbrev pub is_in : ℤ → ℤ → HeldExposure → Bool
is_in shift night x = int_eq (night_at shift x.epoch) night

pub in_it : (shift night : ℤ) (x : HeldExposure) → is_in shift night x ≡ true → night_at shift x.epoch ≡ night
in_it shift night x h = (Decides-int_eq (night_at shift x.epoch) night).0 h

-- ---- a held night lies in the window
-- a night of a window stands at its distance from the first
gap_is : (from to : ℤ) → from ≤ℤ to → from +ℤ pos (int_gap from to) ≡ to
gap_is (pos a) (pos b) h = omega (arith, ints)
gap_is (pos a) (negsuc b) h = absurd (omega (arith, ints))
gap_is (negsuc a) (pos b) h = omega (arith, ints)
gap_is (negsuc a) (negsuc b) h = omega (arith, ints)

within_gap : (from at to : ℤ) → from ≤ℤ at → at ≤ℤ to → int_gap from at < int_gap from (to +ℤ pos 1)
within_gap from at to p q =
    let a = gap_is from at p in
    let b = gap_is from (to +ℤ pos 1) (omega (arith, ints, p, q)) in
    omega (arith, ints, a, b, q)

in_window : (window : ℤ × ℤ) (night : ℤ) → window.0 ≤ℤ night → night ≤ℤ window.1 → Contains (nights_in window) night
in_window window night from to =
    let n : ℕ = int_gap window.0 (window.1 +ℤ pos 1) in
    let k : ℕ = int_gap window.0 night in
    let lt : k < n = within_gap window.0 night window.1 from to in
    (k, omega (arith, lt, length-map-range_with_len (λ (i : ℕ). window.0 +ℤ pos i) 0 n), get_or-map-range_with_len (λ (i : ℕ). window.0 +ℤ pos i) 0 n k k night lt (omega arith) ∙ gap_is window.0 night from)

-- a night with an exposure that is held lies where the exposures lie
held_inside : (shift : ℤ) (window : ℤ × ℤ) (night : ℤ) (xs : List HeldExposure) → All (IsInside shift window) xs → list_any (is_in shift night) xs ≡ true → (window.0 ≤ℤ night) × (night ≤ℤ window.1)
held_inside shift window night [] all h = absurd (false≢true h)
held_inside shift window night (x ∷ xs) all h = elim (cases_Bool (is_in shift night x)) [
  | inl t ↦ subst (λ (n : ℤ). (window.0 ≤ℤ n) × (n ≤ℤ window.1)) (in_it shift night x t) (All-head (IsInside shift window) x xs all)
  | inr f ↦ held_inside shift window night xs (All-tail (IsInside shift window) x xs all) (rw f at h)
]

none_held : (shift night : ℤ) (xs : List HeldExposure) → xs ≡ [] → list_any (is_in shift night) xs ≡ true → ⊥
none_held shift night xs e h = false≢true (rw e at h)

listed : (p : ℤ → Bool) (shift : ℤ) (window : Option (ℤ × ℤ)) (xs : List HeldExposure) (night : ℤ) → LieInWindow shift window xs → list_any (is_in shift night) xs ≡ true → p night ≡ true
    → Contains (option_map_or (λ w. filter p (nights_in w)) window []) night
listed p shift None xs night lie any h = absurd (none_held shift night xs lie any)
listed p shift (Some window) xs night lie any h =
    let inside = held_inside shift window night xs lie.1 any in
    (filter_exact p (nights_in window) night).1 (in_window window night inside.0 inside.1, h)

listed_is : (p : ℤ → Bool) (window : Option (ℤ × ℤ)) (night : ℤ) → Contains (option_map_or (λ w. filter p (nights_in w)) window []) night → p night ≡ true
listed_is p None night c = absurd (in_none night c)
listed_is p (Some window) night c = ((filter_exact p (nights_in window) night).0 c).1

-- ---- which nights are kept
pub member_of : (s : LinkerState) (night : ℤ) → IsOrderly s.log → is_held_night s.log night ≡ true → Contains (nights_of s) (night_data s night)
member_of s night o h = in_mapped (night_data s) (held_nights s.log) night (listed (is_held_night s.log) s.log.night_shift s.log.window s.log.exposures night o.in_window h h)

pub member_is : (s : LinkerState) (kept : NightData) → Contains (nights_of s) kept → IsNightOf s kept
member_is s kept c =
    let w = of_mapped (night_data s) (held_nights s.log) kept c in
    subst (IsNightOf s) w.2 (listed_is (is_held_night s.log) s.log.window w.0 w.1, refl)

-- the numbers of the kept nights rise
pub numbers_rise : (s : LinkerState) → RiseByNumber (nights_of s)
numbers_rise s = each_two_map (λ (one later : NightData). one.number <ℤ later.number) (night_data s) (held_nights s.log) (nights_rise s.log)

-- other nights of rising numbers, all of them held ones and with all held ones, are the same
pub same_nights : (s : LinkerState) (nights : List NightData) → IsOrderly s.log → RiseByNumber nights → ((kept : NightData) → Contains nights kept → IsNightOf s kept) → ((night : ℤ) → is_held_night s.log night ≡ true → Contains nights (night_data s night)) → nights ≡ nights_of s
same_nights s nights o rise are all = same_members IsBefore (λ one later a b. omega (arith, ints, a, b)) nights (nights_of s) rise (numbers_rise s)
    (λ kept c. let h = are kept c in subst (Contains (nights_of s)) (sym h.1) (member_of s kept.number o h.0))
    (λ kept c. let h = member_is s kept c in subst (Contains nights) (sym h.1) (all kept.number h.0))

-- ---- a kept night is found by its number
abbrev has_number : ℤ → NightData → Bool
has_number night kept = int_eq kept.number night

pub found_tracklets : (s : LinkerState) (night : ℤ) (nights : List NightData) (kept : NightData) → nights ≡ nights_of s → find (has_number night) nights ≡ Some kept → kept.tracklets ≡ tracklets_of s.settings (spots_of_night s.log night)
found_tracklets s night nights kept is e =
    let found = found_in (has_number night) (nights_of s) kept (rw is at e) in
    ap (λ (k : NightData). k.tracklets) ((member_is s kept found.0).1 ∙ ap (night_data s) ((Decides-int_eq kept.number night).0 found.1))

pub of_no_spots : (c : SettingsData) → tracklets_of c [] ≡ []
of_no_spots c = elim (cases_Bool (int_eq c.stages (pos 1))) [
  | inl t ↦ rw t refl
  | inr f ↦ elim (cases_Bool (int_eq c.stages (pos 2))) [ inl t ↦ rw (f, t) refl | inr g ↦ rw (f, g) refl ]
]

pub no_tracklets : (s : LinkerState) (night : ℤ) (nights : List NightData) → IsOrderly s.log → nights ≡ nights_of s → find (has_number night) nights ≡ None → tracklets_of s.settings (spots_of_night s.log night) ≡ []
no_tracklets s night nights o is e = elim (cases_Bool (is_held_night s.log night)) [
  | inl t ↦ absurd (none_in (has_number night) (nights_of s) (night_data s night) (rw is at e) (member_of s night o t) ((Decides-int_eq night night).1 refl))
  | inr f ↦ ap (λ (xs : List HeldExposure). tracklets_of s.settings (map spot_of (detections_of xs))) (none_of (is_in s.log.night_shift night) s.log.exposures f)
      ∙ of_no_spots s.settings
]

-- ---- with some exposures left out: nights of which none is
abbrev holding : LinkerState → Option (ℤ × ℤ) → List HeldExposure → LinkerState
holding s window exposures = record { settings = s.settings; log = record { night_shift = s.log.night_shift; window = window; exposures = exposures } }

pub same_data : (s : LinkerState) (kept : HeldExposure → Bool) (window : Option (ℤ × ℤ)) (night : ℤ) → ((x : HeldExposure) → is_in s.log.night_shift night x ≡ true → kept x ≡ true) → night_data (holding s window (filter kept s.log.exposures)) night ≡ night_data s night
same_data s kept window night h =
    ap (λ (xs : List HeldExposure). record { number = night; tracklets = tracklets_of s.settings (map spot_of (detections_of xs)) }) (filter_within (is_in s.log.night_shift night) kept s.log.exposures h)

pub same_held : (s : LinkerState) (kept : HeldExposure → Bool) (window : Option (ℤ × ℤ)) (night : ℤ) → ((x : HeldExposure) → is_in s.log.night_shift night x ≡ true → kept x ≡ true) → is_held_night (holding s window (filter kept s.log.exposures)).log night ≡ is_held_night s.log night
same_held s kept window night h = any-filter_same (is_in s.log.night_shift night) kept true h s.log.exposures

-- ---- the window is moved
not_later : (a b : ℤ) → not (lt_z a b) ≡ true → b ≤ℤ a
not_later a b h = elim (cases_Bool (lt_z a b)) [ inl t ↦ absurd (false≢true (rw t at h)) | inr f ↦ omega (arith, ints, f) ]

not_earlier : (a b : ℤ) → b ≤ℤ a → not (lt_z a b) ≡ true
not_earlier a b h = grind (arith, ints)

abbrev at_window : LinkerState → ℤ → ℤ → LinkerState
at_window s lo hi = record s { log = moved s.log lo hi }

pub moved_nights : (s : LinkerState) (lo hi : ℤ) → IsOrderly s.log → IsOrderly (moved s.log lo hi) → filter (λ (night : NightData). not (lt_z night.number lo)) (nights_of s) ≡ nights_of (at_window s lo hi)
moved_nights s lo hi o m =
    let late : NightData → Bool = λ night. not (lt_z night.number lo) in
    let stays : HeldExposure → Bool = λ x. not (lt_z (night_at s.log.night_shift x.epoch) lo) in
    let wider : (night : ℤ) → lo ≤ℤ night → (x : HeldExposure) → is_in s.log.night_shift night x ≡ true → stays x ≡ true = λ night le x h. not_earlier (night_at s.log.night_shift x.epoch) lo (omega (arith, ints, le, in_it s.log.night_shift night x h)) in
    same_nights (at_window s lo hi) (filter late (nights_of s)) m (AllPairs-filter IsBefore late (nights_of s) (numbers_rise s))
    (λ kept c.
    let w = (filter_exact late (nights_of s) kept).0 c in
    let h = member_is s kept w.0 in
    let le : lo ≤ℤ kept.number = not_later kept.number lo w.1 in
    (same_held s stays (Some (lo, hi)) kept.number (wider kept.number le) ∙ h.0, h.1 ∙ sym (same_data s stays (Some (lo, hi)) kept.number (wider kept.number le))))
    (λ night h.
    let le : lo ≤ℤ night = (held_inside s.log.night_shift (lo, hi) night (moved s.log lo hi).exposures m.in_window.1 h).0 in
    let kept = member_of s night o (sym (same_held s stays (Some (lo, hi)) night (wider night le)) ∙ h) in
    (filter_exact late (nights_of s) (night_data (at_window s lo hi) night)).1 (subst (Contains (nights_of s)) (sym (same_data s stays (Some (lo, hi)) night (wider night le))) kept, not_earlier night lo le))

-- ---- an exposure is added
equal_means : (a b : ℤ) (o s : Ordering) → MatchOrdering o (a <ℤ b) (a ≡ b) (b <ℤ a) → is_eq (ordering_then o s) ≡ true → a ≡ b
equal_means a b Less s m h = absurd (false≢true h)
equal_means a b Equal s m h = m
equal_means a b Greater s m h = absurd (false≢true h)

pub at_epoch : (epoch : ℤ) (site : List ℕ) (x : HeldExposure) → stands_at epoch site x ≡ true → x.epoch ≡ epoch
at_epoch epoch site x h = equal_means x.epoch epoch (int_cmp x.epoch epoch) (slice_cmp nat_cmp x.site site) (int_ranked x.epoch epoch (int_cmp x.epoch epoch) refl) h

-- what is held of another night than that of a place stands elsewhere
elsewhere : (shift epoch : ℤ) (site : List ℕ) (night : ℤ) → (night ≡ night_at shift epoch → ⊥) → (x : HeldExposure) → is_in shift night x ≡ true → not (stands_at epoch site x) ≡ true
elsewhere shift epoch site night other x h = elim (cases_Bool (stands_at epoch site x)) [
  | inl t ↦ absurd (other (sym (in_it shift night x h) ∙ ap (night_at shift) (at_epoch epoch site x t)))
  | inr f ↦ rw f refl
]

-- where what is held without the exposure of a place is what was held, the night of the place is the only one that is renewed
renewed_night : (s : LinkerState) (xs : List HeldExposure) (epoch : ℤ) (site : List ℕ) → without_exposure epoch site xs ≡ s.log.exposures → IsOrderly s.log → IsOrderly (holding s s.log.window xs).log
    → list_any (is_in s.log.night_shift (night_at s.log.night_shift epoch)) xs ≡ true → with_night (night_data (holding s s.log.window xs) (night_at s.log.night_shift epoch)) (nights_of s) ≡ nights_of (holding s s.log.window xs)
renewed_night s xs epoch site undone before o any =
    let shift : ℤ = s.log.night_shift in
    let t : LinkerState = holding s s.log.window xs in
    let night : NightData = night_data t (night_at shift epoch) in
    let other_held : (n : ℤ) → (n ≡ night_at shift epoch → ⊥) → is_held_night s.log n ≡ is_held_night t.log n = λ n other.
    ap (list_any (is_in shift n)) (sym undone) ∙ same_held t (λ x. not (stands_at epoch site x)) s.log.window n (elsewhere shift epoch site n other) in
    let other_data : (n : ℤ) → (n ≡ night_at shift epoch → ⊥) → night_data s n ≡ night_data t n = λ n other.
    ap (λ ys. night_data (holding s s.log.window ys) n) (sym undone) ∙ same_data t (λ x. not (stands_at epoch site x)) s.log.window n (elsewhere shift epoch site n other) in
    same_nights t (with_night night (nights_of s)) o (still_rise night (nights_of s) (numbers_rise s))
    (λ kept c. elim ((with_members night (nights_of s) kept).0 c) [
      | inl e ↦ subst (IsNightOf t) e (any, refl)
      | inr w ↦ (let h = member_is s kept w.0 in (sym (other_held kept.number w.1) ∙ h.0, h.1 ∙ other_data kept.number w.1))
    ])
    (λ n h. (with_members night (nights_of s) (night_data t n)).1 (elim (cases_Bool (int_eq n (night_at shift epoch))) [
      | inl e ↦ inl (ap (night_data t) (sym ((Decides-int_eq n (night_at shift epoch)).0 e)))
      | inr f ↦
          let other : n ≡ night_at shift epoch → ⊥ = λ e. false≢true (sym f ∙ (Decides-int_eq n (night_at shift epoch)).1 e) in
          inr (subst (Contains (nights_of s)) (other_data n other) (member_of s n before (other_held n other ∙ h)), other)
    ]))

pub added_nights : (s : LinkerState) (new : LogData) (x : ExposureData) → IsOrderly s.log → TakesIn s.log new x → without_exposure x.epoch x.site new.exposures ≡ s.log.exposures → IsOrderly new
    → with_night (night_data (record { settings = s.settings; log = new }) (night_at s.log.night_shift x.epoch)) (nights_of s) ≡ nights_of (record { settings = s.settings; log = new })
added_nights s new x before a undone o =
    let p : HeldExposure → Bool = is_in s.log.night_shift (night_at s.log.night_shift x.epoch) in
    let here : p a.held ≡ true = (Decides-int_eq (night_at s.log.night_shift a.held.epoch) (night_at s.log.night_shift x.epoch)).1 (ap (night_at s.log.night_shift) a.epoch) in
    let earlier : List HeldExposure = filter (stands_before a.held.epoch a.held.site) s.log.exposures in
    let any : list_any p (with_exposure a.held s.log.exposures) ≡ true = rw (list_any-append p earlier (a.held ∷ filter (stands_after a.held.epoch a.held.site) s.log.exposures), here) (or_true (list_any p earlier)) in
    let undone' = ap (λ (l : LogData). without_exposure x.epoch x.site l.exposures) (sym a.is) ∙ undone in
    rw a.is (renewed_night s (with_exposure a.held s.log.exposures) x.epoch x.site undone' before (subst IsOrderly a.is o) any)
  where
    or_true : (b : Bool) → (b || true) ≡ true
    or_true true = refl
    or_true false = refl

-- an exposure that is taken out again leaves the log as it was
pub taken_out : (old new left : LogData) (x : ExposureData) → IsOrderly old → refusal old x ≡ None → TakesIn old new x → left ≡ record new { exposures = without_exposure x.epoch x.site new.exposures } → left ≡ old
taken_out old new left x o none a e =
    e ∙ ap (λ (xs : List HeldExposure). record new { exposures = xs }) (removing_undoes old new x o none a) ∙ ap (λ (l : LogData). record l { exposures = old.exposures }) a.is

-- the nights that are kept where the night of an added exposure was renewed
pub kept_nights : (s : LinkerState) (new : LogData) (x : ExposureData) (before after : List NightData) → IsOrderly s.log → refusal s.log x ≡ None → TakesIn s.log new x → IsOrderly new → s.log.night_shift ≡ s.settings.night_shift → before ≡ nights_of s
    → after ≡ with_night (night_data (record { settings = s.settings; log = new }) (night_at s.settings.night_shift x.epoch)) before → after ≡ nights_of (record { settings = s.settings; log = new })
kept_nights s new x before after o none a o' shift is e =
    let night : ℤ → NightData = night_data (record { settings = s.settings; log = new }) in
    e ∙ ap₂ (λ (shift : ℤ) (nights : List NightData). with_night (night (night_at shift x.epoch)) nights) (sym shift) is ∙ added_nights s new x o a (removing_undoes s.log new x o none a) o'
