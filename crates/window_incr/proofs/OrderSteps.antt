-- An exposure that was given before is refused as held; one that wasn't is taken, where all can be held.
use Rattle.std.proofs.Common.{◌≡◌, ℕ, ◌+◌, ◌<◌, ◌≤◌, ℤ, ◌≤ℤ◌, Bool, true, false, cond, nat_le, nat_lt, nat_eq, ◌||◌, Option, Some, None, List, [], ◌∷◌, ◌++◌, length, length-append, length-take, get_or, take, map, refl, sym, subst, ap, ap₂, ◌∙◌, ◌↔◌, inl, inr, arith}
use Rattle.std.specs.Cmp.Lexicographic.{pointwise, bytes_decides}
use Rattle.std.specs.Int.Signed.{lt_z}
use Rattle.std.specs.List.{Contains, filter, list_any, slice_get, sum_by}
use Rattle.std.specs.List.Sorted.{IsPermutation}
use Rattle.std.specs.Option.{option_map_or}
use Rattle.std.specs.Ordering.{int_eq, is_eq}
use Rattle.std.specs.declared.cmp.Ordering.{Ordering}
use Rattle.std.specs.declared.cmp.Ordering.TheVariants.{Less, Equal, Greater}
use Rattle.std.proofs.lemmas.Bool.{false_from_ne_true, false≢true, or_from, or_parts}
use Rattle.std.proofs.lemmas.Bool.Decides.{Decides-int_eq, nat_tests}
use Rattle.std.proofs.lemmas.Int.{ints}
use Rattle.std.proofs.lemmas.List.{get_or-take, get_or_default, length-map}
use Rattle.std.proofs.lemmas.List.Concat.{length-flat_map}
use Rattle.std.proofs.lemmas.List.Elements.{All-contains, Contains-append_cases, Contains-append_left}
use Rattle.std.proofs.lemmas.List.Sorted.{Contains-permutation, IsPermutation-append_left, IsPermutation-cons, IsPermutation-map, IsPermutation-middle, IsPermutation-refl, IsPermutation-sym, IsPermutation-trans, sum_by-IsPermutation}
use Rattle.std.proofs.lemmas.List.Sums.{sum_by-append, sum_by-cons}
use Rattle.std.proofs.lemmas.Option.{get_or_from_slice_get}
use Rattle.sky_math.specs.Night.{night_at}
use Rattle.sky_units.proofs.Members.{front_or_rest, in_front, in_map, in_rest, of_map}
use Rattle.miti_text.specs.Observation.{Observation}
use Rattle.exposure_log.specs.Deliveries.{IsOneExposure}
use Rattle.exposure_log.specs.Held.{LogData, HeldExposure, ExposureData, TakesIn, detections_of, exposure_cmp, first_taken, held_refusal, is_held_id, is_taken, most_detections, most_of_a_night, of_night, refusal, room_refusal, stands_after, stands_at, stands_before, with_exposure}
use Rattle.exposure_log.specs.declared.errors.AddError.{AddError}
use Rattle.exposure_log.specs.declared.errors.AddError.TheVariants.{Held, NoWindow}
use Rattle.exposure_log.proofs.Cutting.{is_equal, same_at, same_place}
use Rattle.exposure_log.proofs.Searching.{filter_map_is}
use Rattle.exposure_log.proofs.Unrefused.{outside}
use Rattle.window_incr.specs.Order.{AreOfOnePlace, CanAllBeHeld, HaveOneId, IsInWindow, as_given, given_detections}
use Rattle.window_incr.proofs.OrderLists.{any_of, counted, found_none, in_parts, no_any, of_parts, one_of, some_of, to_front, two_of_part}

-- ---- what is held of the exposures, and what is left of them
pub record HoldsSome (exposures seen : List ExposureData) (old log : LogData) : Type 0 where
  pub left : List ExposureData
  pub whole : IsPermutation (map as_given log.exposures ++ left) exposures
  pub held : (x : ExposureData) → Contains seen x ↔ Contains (map as_given log.exposures) x
  pub shift : log.night_shift ≡ old.night_shift
  pub window : log.window ≡ old.window

-- a held exposure stands at the place of one of its epoch and site, and nowhere else
stands : (epoch : ℤ) (site : List ℕ) (h : HeldExposure) → h.epoch ≡ epoch → h.site ≡ site → stands_at epoch site h ≡ true
stands epoch site h e s = ap is_eq (same_at (h.epoch, h.site) (epoch, site) e s)

place_is : (epoch : ℤ) (site : List ℕ) (h : HeldExposure) → stands_at epoch site h ≡ true → (h.epoch ≡ epoch) × (h.site ≡ site)
place_is epoch site h t = same_place (h.epoch, h.site) (epoch, site) (is_equal (exposure_cmp epoch site h) t)

turned_place : (x y : ExposureData) → AreOfOnePlace x y → AreOfOnePlace y x
turned_place x y e = (sym e.0, sym e.1)

turned_ids : (d e : Observation) → HaveOneId d e → HaveOneId e d
turned_ids d e same = sym same

-- ---- the window lets it pass
passes : (night : ℤ) (window : ℤ × ℤ) (rest : Option AddError) → window.0 ≤ℤ night → night ≤ℤ window.1 → outside night rest window ≡ rest
passes night window rest low high =
    let a : lt_z night window.0 ≡ false = false_from_ne_true (lt_z night window.0) (λ t. omega (arith, ints, low, t)) in
    let b : lt_z window.1 night ≡ false = false_from_ne_true (lt_z window.1 night) (λ t. omega (arith, ints, high, t)) in
    rw (a, b) refl

at_window : (night : ℤ) (o : Option (ℤ × ℤ)) (window : ℤ × ℤ) (rest : Option AddError) → o ≡ Some window → window.0 ≤ℤ night → night ≤ℤ window.1 → option_map_or (outside night rest) o (Some NoWindow) ≡ rest
at_window night o window rest e low high = ap (λ (w : Option (ℤ × ℤ)). option_map_or (outside night rest) w (Some NoWindow)) e ∙ passes night window rest low high

-- ---- an exposure is put in its place
put_by : (epoch : ℤ) (site : List ℕ) (y : HeldExposure) (ys : List HeldExposure) (r : Ordering) → exposure_cmp epoch site y ≡ r → list_any (stands_at epoch site) (y ∷ ys) ≡ false
    → IsPermutation (filter (stands_before epoch site) ys ++ filter (stands_after epoch site) ys) ys
    → IsPermutation (filter (stands_before epoch site) (y ∷ ys) ++ filter (stands_after epoch site) (y ∷ ys)) (y ∷ ys)
put_by epoch site y ys Less e none rest = rw e (IsPermutation-cons y (filter (stands_before epoch site) ys ++ filter (stands_after epoch site) ys) ys rest)
put_by epoch site y ys Equal e none rest = let no = rw e at none in cc
put_by epoch site y ys Greater e none rest =
    let before : List HeldExposure = filter (stands_before epoch site) ys in
    let after : List HeldExposure = filter (stands_after epoch site) ys in
    rw e (IsPermutation-trans (before ++ y ∷ after) (y ∷ (before ++ after)) (y ∷ ys) (IsPermutation-middle before y after) (IsPermutation-cons y (before ++ after) ys rest))

put_apart : (epoch : ℤ) (site : List ℕ) (ys : List HeldExposure) → list_any (stands_at epoch site) ys ≡ false
    → IsPermutation (filter (stands_before epoch site) ys ++ filter (stands_after epoch site) ys) ys
put_apart epoch site [] none = IsPermutation-refl []
put_apart epoch site (y ∷ ys) none =
    put_by epoch site y ys (exposure_cmp epoch site y) refl none (put_apart epoch site ys (or_parts (stands_at epoch site y) (list_any (stands_at epoch site) ys) none).1)

put_in : (h : HeldExposure) (ys : List HeldExposure) → list_any (stands_at h.epoch h.site) ys ≡ false → IsPermutation (with_exposure h ys) (h ∷ ys)
put_in h ys none =
    let before : List HeldExposure = filter (stands_before h.epoch h.site) ys in
    let after : List HeldExposure = filter (stands_after h.epoch h.site) ys in
    IsPermutation-trans (before ++ h ∷ after) (h ∷ (before ++ after)) (h ∷ ys) (IsPermutation-middle before h after) (IsPermutation-cons h (before ++ after) ys (put_apart h.epoch h.site ys none))

-- how many detections are held
many_held : (held : List HeldExposure) → sum_by (λ y. length y.detections) (map as_given held) ≡ length (detections_of held)
many_held [] = refl
many_held (h ∷ held) =
    sum_by-cons (λ (y : ExposureData). length y.detections) (as_given h) (map as_given held)
    ∙ (ap₂ (λ (a b : ℕ). a + b) (length-map h.detections (λ (d : ℕ × Observation). d.1)) (many_held held) ∙ sym (length-append h.detections (detections_of held)))

module _ (old log : LogData) (exposures seen : List ExposureData) (can : CanAllBeHeld old exposures) (some : HoldsSome exposures seen old log) (x : ExposureData) (given : Contains exposures x) where
  pub inside : refusal log x ≡ held_refusal log x
  inside =
      let w = All-contains (IsInWindow old) exposures x can.in_window given in
      let e : night_at log.night_shift x.epoch ≡ night_at old.night_shift x.epoch = ap (λ (s : ℤ). night_at s x.epoch) some.shift in
      at_window (night_at log.night_shift x.epoch) log.window w.0 (held_refusal log x) (some.window ∙ w.1) (subst (λ n. w.0.0 ≤ℤ n) (sym e) w.2) (subst (λ n. n ≤ℤ w.0.1) (sym e) w.3)

  -- what is held was given
  was_given : (h : HeldExposure) → Contains log.exposures h → Contains exposures (as_given h)
  was_given h c =
      Contains-permutation (map as_given log.exposures ++ some.left) exposures (as_given h) some.whole
      (Contains-append_left (map as_given log.exposures) some.left (as_given h) (in_map as_given log.exposures h c))

  -- what stands at its place is it
  pub seen_there : list_any (stands_at x.epoch x.site) log.exposures ≡ true → Contains seen x
  seen_there t =
      let w = some_of (stands_at x.epoch x.site) log.exposures t in
      let same : as_given w.0 ≡ x = one_of AreOfOnePlace exposures can.apart turned_place (as_given w.0) x (was_given w.0 w.1) given (place_is x.epoch x.site w.0 w.2) in
      (some.held x).1 (subst (Contains (map as_given log.exposures)) same (in_map as_given log.exposures w.0 w.1))

  -- ---- given before
  pub seen_stands : Contains seen x → list_any (stands_at x.epoch x.site) log.exposures ≡ true
  seen_stands s =
      let w = of_map as_given log.exposures x ((some.held x).0 s) in
      any_of (stands_at x.epoch x.site) log.exposures w.0 w.1 (stands x.epoch x.site w.0 (ap (λ (y : ExposureData). y.epoch) w.2) (ap (λ (y : ExposureData). y.site) w.2))

  pub refused_again : Contains seen x → refusal log x ≡ Some Held
  refused_again s = inside ∙ (rw (seen_stands s) refl)

  -- ---- not given before
  module _ (unheld : list_any (stands_at x.epoch x.site) log.exposures ≡ false) where
    pub is_new : Contains seen x → ⊥
    is_new s = false≢true (sym unheld ∙ seen_stands s)

    elsewhere : (h : HeldExposure) → Contains log.exposures h → h.epoch ≡ x.epoch → h.site ≡ x.site → ⊥
    elsewhere h c e s = false≢true (sym unheld ∙ any_of (stands_at x.epoch x.site) log.exposures h c (stands x.epoch x.site h e s))

    is_left : Contains some.left x
    is_left = elim (Contains-append_cases (map as_given log.exposures) some.left x
        (Contains-permutation exposures (map as_given log.exposures ++ some.left) x (IsPermutation-sym (map as_given log.exposures ++ some.left) exposures some.whole) given)) [
          | inl c ↦ absurd (is_new ((some.held x).1 c))
          | inr c ↦ c
        ]

    pub next : (rest : List ExposureData) × IsPermutation (x ∷ (map as_given log.exposures ++ rest)) exposures
    next = to_front (map as_given log.exposures) some.left exposures x some.whole is_left

    one : IsOneExposure x
    one = All-contains IsOneExposure exposures x can.each given

    -- its ids are new
    fresh : (d : Observation) → Contains x.detections d → is_held_id log.exposures d.id ≡ false
    fresh d c = no_any (λ (p : ℕ × Observation). pointwise nat_eq p.1.id d.id) (detections_of log.exposures) (λ p k. false_from_ne_true (pointwise nat_eq p.1.id d.id) (λ t.
        let w = of_parts (λ (h : HeldExposure). h.detections) log.exposures p k in
        let there : Contains (as_given w.0).detections p.1 = in_map (λ (q : ℕ × Observation). q.1) w.0.detections p w.2 in
        let member = was_given w.0 w.1 in
        let same : p.1 ≡ d = one_of HaveOneId (given_detections exposures) can.ids_apart turned_ids p.1 d
        (in_parts (λ (y : ExposureData). y.detections) exposures (as_given w.0) p.1 member there)
        (in_parts (λ (y : ExposureData). y.detections) exposures x d given c)
        ((bytes_decides p.1.id d.id).0 t) in
        let its = All-contains IsOneExposure exposures (as_given w.0) can.each member in
        let epoch : w.0.epoch ≡ x.epoch = sym (All-contains (λ (e : Observation). e.epoch ≡ w.0.epoch) (as_given w.0).detections p.1 its.one_epoch there)
        ∙ (ap (λ (e : Observation). e.epoch) same ∙ All-contains (λ (e : Observation). e.epoch ≡ x.epoch) x.detections d one.one_epoch c) in
        let site : w.0.site ≡ x.site = sym (All-contains (λ (e : Observation). e.site ≡ w.0.site) (as_given w.0).detections p.1 its.one_site there)
        ∙ (ap (λ (e : Observation). e.site) same ∙ All-contains (λ (e : Observation). e.site ≡ x.site) x.detections d one.one_site c) in
        elsewhere w.0 w.1 epoch site))

    -- and apart from one another
    apart_here : (k : ℕ) (d : Observation) → k < length x.detections → get_or x.detections k d ≡ d → list_any (λ e. pointwise nat_eq e.id d.id) (take k x.detections) ≡ false
    apart_here k d l here = no_any (λ (e : Observation). pointwise nat_eq e.id d.id) (take k x.detections) (λ e c. false_from_ne_true (pointwise nat_eq e.id d.id) (λ t.
        let own = two_of_part (λ (a b : Observation). HaveOneId a b → ⊥) (λ (y : ExposureData). y.detections) exposures x given can.ids_apart in
        let lt : c.0 < k = omega (arith, c.1, length-take k x.detections) in
        let first : get_or x.detections c.0 e ≡ e = sym (get_or-take k x.detections c.0 e lt) ∙ c.2 in
        let last : get_or x.detections k e ≡ d = get_or_default x.detections k e d l ∙ here in
        own c.0 k e lt l (ap (λ (o : Observation). o.id) first ∙ ((bytes_decides e.id d.id).0 t ∙ sym (ap (λ (o : Observation). o.id) last)))))

    free_at : (k : ℕ) (o : Option Observation) → k < length x.detections → slice_get x.detections k ≡ o → option_map_or (λ d. is_held_id log.exposures d.id || list_any (λ e. pointwise nat_eq e.id d.id) (take k x.detections)) o false ≡ false
    free_at k None l e = refl
    free_at k (Some d) l e =
        let here : get_or x.detections k d ≡ d = get_or_from_slice_get x.detections k d d e in
        or_from (is_held_id log.exposures d.id) (list_any (λ e. pointwise nat_eq e.id d.id) (take k x.detections)) (fresh d (k, l, here)) (apart_here k d l here)

    untaken : first_taken log.exposures x.detections ≡ None
    untaken = found_none (is_taken log.exposures x.detections) 0 (length x.detections) (λ k l m. free_at k (slice_get x.detections k) (omega (arith, m)) refl)

    -- ---- there is room
    abbrev is_in : ℤ → ExposureData → Bool
    is_in night y = int_eq (night_at log.night_shift y.epoch) night

    module _ (night : ℤ) (here : is_in night x ≡ true) where
      count : length (filter (is_in night) exposures) ≡ 1 + (length (of_night log.night_shift night log.exposures) + length (filter (is_in night) next.0))
      count =
          let f : ExposureData → ℕ = λ y. cond (is_in night y) 1 0 in
          let held = map as_given log.exposures in
          let all : sum_by f (x ∷ (held ++ next.0)) ≡ 1 + (sum_by f held + sum_by f next.0) = sum_by-cons f x (held ++ next.0) ∙ (rw (here, sum_by-append f held next.0) refl) in
          let of_held : length (filter (is_in night) held) ≡ length (of_night log.night_shift night log.exposures) =
          ap length (filter_map_is (is_in night) as_given log.exposures) ∙ length-map (filter (λ (h : HeldExposure). is_in night (as_given h)) log.exposures) as_given in
          counted (is_in night) exposures ∙ (sum_by-IsPermutation f (x ∷ (held ++ next.0)) exposures next.1 ∙ (all
          ∙ ap₂ (λ (a b : ℕ). 1 + (a + b)) (sym (counted (is_in night) held) ∙ of_held) (sym (counted (is_in night) next.0))))

    night_has_room : nat_le most_of_a_night (length (of_night log.night_shift (night_at log.night_shift x.epoch) log.exposures)) ≡ false
    night_has_room =
        let night : ℤ = night_at log.night_shift x.epoch in
        let few : length (filter (is_in night) exposures) ≤ most_of_a_night =
        subst (λ (s : ℤ). length (filter (λ (y : ExposureData). int_eq (night_at s y.epoch) night) exposures) ≤ most_of_a_night) (sym some.shift) (can.few_of_a_night night) in
        let less : length (of_night log.night_shift night log.exposures) < most_of_a_night = omega (arith, few, count night ((Decides-int_eq night night).1 refl)) in
        grind (arith, nat_tests)

    log_has_room : nat_lt most_detections (length (detections_of log.exposures) + length x.detections) ≡ false
    log_has_room =
        let f : ExposureData → ℕ = λ y. length y.detections in
        let held = map as_given log.exposures in
        let all : length (given_detections exposures) ≡ length x.detections + (length (detections_of log.exposures) + sum_by f next.0) =
        length-flat_map (λ (y : ExposureData). y.detections) exposures ∙ (sum_by-IsPermutation f (x ∷ (held ++ next.0)) exposures next.1 ∙ (sum_by-cons f x (held ++ next.0)
        ∙ ap (λ n. length x.detections + n) (sum_by-append f held next.0 ∙ ap (λ n. n + sum_by f next.0) (many_held log.exposures)))) in
        let few = can.few in
        let less : length (detections_of log.exposures) + length x.detections ≤ most_detections = omega (arith, few, all) in
        grind (arith, nat_tests)

    pub unrefused : refusal log x ≡ None
    unrefused =
        let room : room_refusal log x ≡ None = rw (night_has_room, log_has_room) refl in
        inside ∙ (rw (unheld, untaken) room)

    -- ---- it is taken
    module _ (new : LogData) (t : TakesIn log new x) where
      as_it_was : as_given t.held ≡ x
      as_it_was = ap₂ (λ (e : ℤ) (s : List ℕ). record { epoch = e; site = s; detections = map (λ (d : ℕ × Observation). d.1) t.held.detections }) t.epoch t.site
          ∙ ap (λ (ds : List Observation). record { epoch = x.epoch; site = x.site; detections = ds }) t.detections

      moves : IsPermutation (map as_given (with_exposure t.held log.exposures)) (x ∷ map as_given log.exposures)
      moves =
          let none : list_any (stands_at t.held.epoch t.held.site) log.exposures ≡ false = rw (t.epoch, t.site) unheld in
          subst (λ y. IsPermutation (map as_given (with_exposure t.held log.exposures)) (y ∷ map as_given log.exposures)) as_it_was
          (IsPermutation-map as_given (with_exposure t.held log.exposures) (t.held ∷ log.exposures) (put_in t.held log.exposures none))

      held_now : (y : ExposureData) → Contains (x ∷ seen) y ↔ Contains (map as_given (with_exposure t.held log.exposures)) y
      held_now y = (
        λ c. Contains-permutation (x ∷ map as_given log.exposures) (map as_given (with_exposure t.held log.exposures)) y (IsPermutation-sym (map as_given (with_exposure t.held log.exposures)) (x ∷ map as_given log.exposures) moves) (elim (front_or_rest x seen y c) [
          | inl e ↦ subst (Contains (x ∷ map as_given log.exposures)) e (in_front x (map as_given log.exposures))
          | inr d ↦ in_rest x (map as_given log.exposures) y ((some.held y).0 d)
        ]),
        λ c. elim (front_or_rest x (map as_given log.exposures) y (Contains-permutation (map as_given (with_exposure t.held log.exposures)) (x ∷ map as_given log.exposures) y moves c)) [
          | inl e ↦ subst (Contains (x ∷ seen)) e (in_front x seen)
          | inr d ↦ in_rest x seen y ((some.held y).1 d)
        ],
      )

      pub with_one : HoldsSome exposures (x ∷ seen) old new
      with_one = rw t.is record {
        left = next.0;
        whole = IsPermutation-trans (map as_given (with_exposure t.held log.exposures) ++ next.0) (x ∷ (map as_given log.exposures ++ next.0)) exposures
            (IsPermutation-append_left next.0 (map as_given (with_exposure t.held log.exposures)) (x ∷ map as_given log.exposures) moves) next.1;
        held = held_now;
        shift = some.shift;
        window = some.window;
      }

  -- given again, nothing changes
  pub with_it_again : Contains seen x → HoldsSome exposures (x ∷ seen) old log
  with_it_again s = record {
    left = some.left;
    whole = some.whole;
    held = λ y. (
      λ c. elim (front_or_rest x seen y c) [ inl e ↦ subst (Contains (map as_given log.exposures)) e ((some.held x).0 s) | inr d ↦ (some.held y).0 d ],
      λ c. in_rest x seen y ((some.held y).1 c),
    );
    shift = some.shift;
    window = some.window;
  }
