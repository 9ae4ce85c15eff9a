-- Fitting sets grow by a tracklet of the next night: what each step of the enumeration finds.
use Rattle.std.proofs.Common.{◌≡◌, ℕ, ◌+◌, ◌<◌, List, [], ◌∷◌, ◌++◌, length, take, map, get_or, refl, sym, subst, ap, ◌∙◌, ◌↔◌, append_assoc, length-append, arith}
use Rattle.std.proofs.lemmas.List.{append-nil, take_more, get_or-map, get_or_append_left, length-map, map-append}
use Rattle.std.proofs.lemmas.List.Elements.{Contains-push, Contains-push_cases, Contains-append_left, Contains-append_right, Contains-append_cases}
use Rattle.std.specs.List.{All, Contains}
use mathlib.Core.Logic.{◌⊎◌, inl, inr}
use Rattle.quad_fit.proofs.Admitted.{none_admitted}
use Rattle.sky_math.specs.Lists.{EachTwo}
use Rattle.sky_math.specs.Quadratics.{Passes}
pub use Rattle.sky_units.proofs.Steps.{taken, spots_of-append, spots_of-push}
use Rattle.sky_units.specs.Arcs.{AreNear}
use Rattle.sky_units.specs.Motion.{AxisAdmits, point_from, points, tolerance}
use Rattle.sky_units.specs.SettingsData.{AreSettings, SettingsData}
use Rattle.sky_units.specs.SpotData.{SpotData}
use Rattle.sky_units.specs.TrackletData.{TrackletData, TrackSetData, NightTracklets, spots_of}
use Rattle.sky_units.specs.Tracks.{IsChoice, IsFittingSet}
use Rattle.sky_units.specs.declared.axis.Axis.{Axis}
use Rattle.sky_units.specs.declared.axis.Axis.TheVariants.{Ra, Dec}
use Rattle.plain_tracks.specs.Growth.{FitTogether, IsGrown, IsSomeGrown}
pub use Rattle.sky_units.proofs.Members.{in_none}

-- what stands at a place of a list stands there in a map of it
pub mapped : {X Y : Type 0} → (f : X → Y) (xs : List X) (i : ℕ) (x : X) → i < length xs → x ≡ get_or xs i x → (i < length (map f xs)) × (f x ≡ get_or (map f xs) i (f x))
mapped f xs i x h e = (simp length-map h, ap f e ∙ sym (get_or-map f xs i x (f x) h))

-- ---- what fits has parts that fit
pub each_two_left : {X : Type 0} → (R : X → X → Type 0) (xs ys : List X) → EachTwo R (xs ++ ys) → EachTwo R xs
each_two_left R xs ys h = λ i j d ij jn.
    let a : get_or (xs ++ ys) i d ≡ get_or xs i d = get_or_append_left xs ys d i (omega arith) in
    let b : get_or (xs ++ ys) j d ≡ get_or xs j d = get_or_append_left xs ys d j jn in
    rw (← a, ← b) (h i j d ij (omega (arith, length-append xs ys)))

pub all_left : {X : Type 0} → (P : X → Type 0) (xs ys : List X) → All P (xs ++ ys) → All P xs
all_left P xs ys h = λ k d l.
    let a : get_or (xs ++ ys) k d ≡ get_or xs k d = get_or_append_left xs ys d k l in
    rw (← a) (h k d (omega (arith, length-append xs ys)))

pub axis_left : (axis : Axis) (settings : SettingsData) (xs ys : List SpotData) → AxisAdmits axis settings (xs ++ ys) → AxisAdmits axis settings xs
axis_left axis settings [] ys w = (w.0, w.1, λ k d h. absurd (omega arith))
axis_left axis settings (x ∷ xs) ys w =
    let e : points axis ((x ∷ xs) ++ ys) ≡ map (point_from axis x) (x ∷ xs) ++ map (point_from axis x) ys = ap (λ l. point_from axis x x ∷ l) (map-append (point_from axis x) xs ys) in
    (w.0, w.1, all_left (Passes (tolerance axis settings) w.0) (map (point_from axis x) (x ∷ xs)) (map (point_from axis x) ys) (subst (All (Passes (tolerance axis settings) w.0)) e w.2))

pub fit_left : (settings : SettingsData) (xs ys : List SpotData) → FitTogether settings (xs ++ ys) → FitTogether settings xs
fit_left settings xs ys f = record {
  spread = each_two_left (λ a b. AreNear Ra a b × AreNear Dec a b) xs ys f.spread;
  fits = (axis_left Ra settings xs ys f.fits.0, axis_left Dec settings xs ys f.fits.1);
}

-- ---- choices of one more night
pub choice_none : (nights : List NightTracklets) → IsChoice nights []
choice_none [] = refl
choice_none (night ∷ nights) = inl (choice_none nights)

pub choice_wider : (nights more : List NightTracklets) (set : TrackSetData) → IsChoice nights set → IsChoice (nights ++ more) set
choice_wider [] more set e = subst (IsChoice more) (sym e) (choice_none more)
choice_wider (night ∷ nights) more set (inl c) = inl (choice_wider nights more set c)
choice_wider (night ∷ nights) more set (inr w) = inr (w.0, w.1, w.2, w.3, choice_wider nights more w.1 w.4)

pub choice_push : (nights : List NightTracklets) (night : NightTracklets) (set : TrackSetData) (tracklet : TrackletData) → Contains night tracklet → IsChoice nights set → IsChoice (nights ++ night ∷ []) (set ++ tracklet ∷ [])
choice_push [] night set tracklet k e = inr (tracklet, [], k, ap (λ s. s ++ tracklet ∷ []) e, refl)
choice_push (first ∷ nights) night set tracklet k (inl c) = inl (choice_push nights night set tracklet k c)
choice_push (first ∷ nights) night set tracklet k (inr w) = inr (w.0, w.1 ++ tracklet ∷ [], w.2, ap (λ s. s ++ tracklet ∷ []) w.3, choice_push nights night w.1 tracklet k w.4)

-- a choice of the nights before, or one with a tracklet of the last night
abbrev pub EndsIn : List NightTracklets → NightTracklets → TrackSetData → Type 0
EndsIn nights night set = (tracklet : TrackletData) × (rest : TrackSetData) × Contains night tracklet × (set ≡ rest ++ tracklet ∷ []) × IsChoice nights rest

pub choice_cases : (nights : List NightTracklets) (night : NightTracklets) (set : TrackSetData) → IsChoice (nights ++ night ∷ []) set → IsChoice nights set ⊎ EndsIn nights night set
choice_cases [] night set (inl e) = inl e
choice_cases [] night set (inr w) = inr (w.0, [], w.2, w.3 ∙ ap (λ s. w.0 ∷ s) w.4, refl)
choice_cases (first ∷ nights) night set (inl c) = elim (choice_cases nights night set c) [ inl d ↦ inl (inl d) | inr w ↦ inr (w.0, w.1, w.2, w.3, inl w.4) ]
choice_cases (first ∷ nights) night set (inr v) = elim (choice_cases nights night v.1 v.4) [
  | inl d ↦ inl (inr (v.0, v.1, v.2, v.3, d))
  | inr w ↦ inr (w.0, v.0 ∷ w.1, w.2, v.3 ∙ ap (λ s. v.0 ∷ s) w.3, inr (v.0, w.1, v.2, refl, w.4))
]

-- ---- a set with each tracklet of the next night
abbrev pub HasGrown : SettingsData → TrackSetData → NightTracklets → List TrackSetData → List TrackSetData → Type 0
HasGrown settings set night old new = (other : TrackSetData) → Contains new other ↔ (Contains old other ⊎ IsGrown settings set night other)

pub grown_none : (settings : SettingsData) (set : TrackSetData) (old : List TrackSetData) → HasGrown settings set [] old old
grown_none settings set old = λ other. (λ c. inl c, λ w. elim w [ inl c ↦ c | inr g ↦ absurd (in_none g.tracklet g.of_night) ])

grown_wider : (settings : SettingsData) (set : TrackSetData) (night : NightTracklets) (tracklet : TrackletData) (other : TrackSetData) → IsGrown settings set night other → IsGrown settings set (night ++ tracklet ∷ []) other
grown_wider settings set night tracklet other g = record { tracklet = g.tracklet; of_night = Contains-append_left night (tracklet ∷ []) g.tracklet g.of_night; is = g.is; fit = g.fit }

grown_last : (settings : SettingsData) (set : TrackSetData) (night : NightTracklets) (tracklet : TrackletData) → FitTogether settings (spots_of (set ++ tracklet ∷ [])) → IsGrown settings set (night ++ tracklet ∷ []) (set ++ tracklet ∷ [])
grown_last settings set night tracklet f = record { tracklet = tracklet; of_night = Contains-push night tracklet; is = refl; fit = f }

grown_cases : (settings : SettingsData) (set : TrackSetData) (night : NightTracklets) (tracklet : TrackletData) (other : TrackSetData) → IsGrown settings set (night ++ tracklet ∷ []) other → IsGrown settings set night other ⊎ ((other ≡ set ++ tracklet ∷ []) × FitTogether settings (spots_of (set ++ tracklet ∷ [])))
grown_cases settings set night tracklet other g = elim (Contains-push_cases night tracklet g.tracklet g.of_night) [
  | inl c ↦ inl record { tracklet = g.tracklet; of_night = c; is = g.is; fit = g.fit }
  | inr e ↦
      let same : other ≡ set ++ tracklet ∷ [] = g.is ∙ ap (λ t. set ++ t ∷ []) (sym e) in
      inr (same, subst (λ s. FitTogether settings (spots_of s)) same g.fit)
]

pub grown_yes : (settings : SettingsData) (set : TrackSetData) (night : NightTracklets) (old new : List TrackSetData) (tracklet : TrackletData) → FitTogether settings (spots_of (set ++ tracklet ∷ [])) → HasGrown settings set night old new → HasGrown settings set (night ++ tracklet ∷ []) old (new ++ (set ++ tracklet ∷ []) ∷ [])
grown_yes settings set night old new tracklet f h = λ other. (
  λ c. elim (Contains-push_cases new (set ++ tracklet ∷ []) other c) [
    | inl d ↦ elim ((h other).0 d) [ inl a ↦ inl a | inr g ↦ inr (grown_wider settings set night tracklet other g) ]
    | inr e ↦ inr (subst (IsGrown settings set (night ++ tracklet ∷ [])) e (grown_last settings set night tracklet f))
  ],
  λ w. elim w [
    | inl a ↦ Contains-append_left new ((set ++ tracklet ∷ []) ∷ []) other ((h other).1 (inl a))
    | inr g ↦ elim (grown_cases settings set night tracklet other g) [
      | inl k ↦ Contains-append_left new ((set ++ tracklet ∷ []) ∷ []) other ((h other).1 (inr k))
      | inr p ↦ subst (Contains (new ++ (set ++ tracklet ∷ []) ∷ [])) (sym p.0) (Contains-push new (set ++ tracklet ∷ []))
    ]
  ],
)

pub grown_no : (settings : SettingsData) (set : TrackSetData) (night : NightTracklets) (old new : List TrackSetData) (tracklet : TrackletData) → (FitTogether settings (spots_of (set ++ tracklet ∷ [])) → ⊥) → HasGrown settings set night old new → HasGrown settings set (night ++ tracklet ∷ []) old new
grown_no settings set night old new tracklet f h = λ other. (
  λ c. elim ((h other).0 c) [ inl a ↦ inl a | inr g ↦ inr (grown_wider settings set night tracklet other g) ],
  λ w. elim w [
    | inl a ↦ (h other).1 (inl a)
    | inr g ↦ elim (grown_cases settings set night tracklet other g) [ inl k ↦ (h other).1 (inr k) | inr p ↦ absurd (f p.1) ]
  ],
)

-- ---- each of some sets
abbrev pub HasSomeGrown : SettingsData → List TrackSetData → NightTracklets → List TrackSetData → Type 0
HasSomeGrown settings sets night new = (other : TrackSetData) → Contains new other ↔ IsSomeGrown settings sets night other

pub some_none : (settings : SettingsData) (night : NightTracklets) → HasSomeGrown settings [] night []
some_none settings night = λ other. (λ c. absurd (in_none other c), λ w. absurd (in_none w.0 w.1))

pub some_more : (settings : SettingsData) (sets : List TrackSetData) (set : TrackSetData) (night : NightTracklets) (new newer : List TrackSetData) → HasSomeGrown settings sets night new → HasGrown settings set night new newer → HasSomeGrown settings (sets ++ set ∷ []) night newer
some_more settings sets set night new newer h g = λ other. (
  λ c. elim ((g other).0 c) [
    | inl d ↦ (let w = (h other).0 d in (w.0, Contains-append_left sets (set ∷ []) w.0 w.1, w.2))
    | inr k ↦ (set, Contains-push sets set, k)
  ],
  λ w. elim (Contains-push_cases sets set w.0 w.1) [
    | inl d ↦ (g other).1 (inl ((h other).1 (w.0, d, w.2)))
    | inr e ↦ (g other).1 (inr (subst (λ s. IsGrown settings s night other) (sym e) w.2))
  ],
)

pub all_grown : (settings : SettingsData) (sets : List TrackSetData) (night : NightTracklets) (new : List TrackSetData) → HasSomeGrown settings sets night new → (other : TrackSetData) → Contains (sets ++ new) other ↔ (Contains sets other ⊎ IsSomeGrown settings sets night other)
all_grown settings sets night new h other = (
  λ c. elim (Contains-append_cases sets new other c) [ inl d ↦ inl d | inr d ↦ inr ((h other).0 d) ],
  λ w. elim w [ inl d ↦ Contains-append_left sets new other d | inr k ↦ Contains-append_right sets new other ((h other).1 k) ],
)

-- ---- fitting sets of one more night
abbrev pub HoldsFitting : SettingsData → List NightTracklets → List TrackSetData → Type 0
HoldsFitting settings nights sets = (set : TrackSetData) → Contains sets set ↔ IsFittingSet settings nights set

fitting_wider : (settings : SettingsData) (nights : List NightTracklets) (night : NightTracklets) (set : TrackSetData) → IsFittingSet settings nights set → IsFittingSet settings (nights ++ night ∷ []) set
fitting_wider settings nights night set f = record { choice = choice_wider nights (night ∷ []) set f.choice; spread = f.spread; fits = f.fits }

fitting_grown : (settings : SettingsData) (nights : List NightTracklets) (night : NightTracklets) (set other : TrackSetData) → IsFittingSet settings nights set → IsGrown settings set night other → IsFittingSet settings (nights ++ night ∷ []) other
fitting_grown settings nights night set other f g = record {
  choice = subst (IsChoice (nights ++ night ∷ [])) (sym g.is) (choice_push nights night set g.tracklet g.of_night f.choice);
  spread = g.fit.spread;
  fits = g.fit.fits;
}

fitting_before : (settings : SettingsData) (nights : List NightTracklets) (night : NightTracklets) (other : TrackSetData) → FitTogether settings (spots_of other) → EndsIn nights night other → (set : TrackSetData) × IsFittingSet settings nights set × IsGrown settings set night other
fitting_before settings nights night other f w =
    let spots : spots_of other ≡ spots_of w.1 ++ w.0 = ap spots_of w.3 ∙ spots_of-push w.1 w.0 in
    let before : FitTogether settings (spots_of w.1) = fit_left settings (spots_of w.1) w.0 (subst (FitTogether settings) spots f) in
    (w.1, record { choice = w.4; spread = before.spread; fits = before.fits }, record { tracklet = w.0; of_night = w.2; is = w.3; fit = f })

-- no tracklets at all fit
none_fits : (settings : SettingsData) → AreSettings settings → IsFittingSet settings [] []
none_fits settings s = record {
  choice = refl;
  spread = λ i j d ij jn. absurd (omega arith);
  fits = (none_admitted settings.acc_ra settings.tol_ra s.acc_ra_in_range.from, none_admitted settings.acc_dec settings.tol_dec s.acc_dec_in_range.from);
}

pub none_fit : (settings : SettingsData) → AreSettings settings → HoldsFitting settings [] ([] ∷ [])
none_fit settings s = λ set. (
  λ c. elim (Contains-push_cases [] [] set c) [ inl d ↦ absurd (in_none set d) | inr e ↦ subst (IsFittingSet settings []) e (none_fits settings s) ],
  λ f. (0, omega arith, sym f.choice),
)

pub fitting_more : (settings : SettingsData) (nights : List NightTracklets) (night : NightTracklets) (sets all : List TrackSetData) → HoldsFitting settings nights sets → ((other : TrackSetData) → Contains all other ↔ (Contains sets other ⊎ IsSomeGrown settings sets night other)) → HoldsFitting settings (nights ++ night ∷ []) all
fitting_more settings nights night sets all h g = λ set. (
  λ c. elim ((g set).0 c) [
    | inl d ↦ fitting_wider settings nights night set ((h set).0 d)
    | inr w ↦ fitting_grown settings nights night w.0 set ((h w.0).0 w.1) w.2
  ],
  λ f. elim (choice_cases nights night set f.choice) [
    | inl c ↦ (g set).1 (inl ((h set).1 record { choice = c; spread = f.spread; fits = f.fits }))
    | inr w ↦
        let b = fitting_before settings nights night set (record { spread = f.spread; fits = f.fits }) w in
        (g set).1 (inr (b.0, (h b.0).1 b.1, b.2))
  ],
)
