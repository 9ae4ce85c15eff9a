-- Each group of a night is places of spots that lie on a line: a pair does, since it keeps the rate.
use Rattle.std.proofs.Common.{◌≡◌, ℕ, ◌<◌, ◌≤◌, ℤ, pos, neg_ℤ, ◌+ℤ◌, ◌-ℤ◌, ◌*ℤ◌, ◌≤ℤ◌, ◌<ℤ◌, Bool, true, ◌&&◌, List, [], ◌∷◌, length, get_or, refl, sym, subst, arith}
use Rattle.std.specs.Int.RustNames.{unsigned_abs}
use Rattle.std.specs.Int.Signed.{le_z, lt_z}
use Rattle.std.specs.List.{All, list_all}
use Rattle.std.specs.Prelude.{slice_get, Some}
use Rattle.std.proofs.lemmas.Bool.{cases_Bool, cases_order}
use Rattle.std.proofs.lemmas.Int.{ints}
use Rattle.std.proofs.lemmas.List.Elements.{All-cons, All-head, All-nil, All-tail, All-weaker, filter_passes}
use Rattle.std.proofs.lemmas.Option.{slice_get-get_or}
use mathlib.Core.Logic.{inl, inr}
use Rattle.line_fit.proofs.Tells.{SomeSlope, follow_of_test, meets_of_some_slope, test_of_follow}
use Rattle.line_fit.proofs.Twos.{and_of, both, by_place}
use Rattle.line_fit.specs.Lines.{each_two, follows_near, lies_on_line, slopes_meet}
use Rattle.line_fit.specs.Slopes.{AreOfOneDay, Suits}
use Rattle.sky_math.proofs.Order.{linear, mul_not_negative, product_most}
use Rattle.sky_math.proofs.Ring.{add_mul, neg_mul}
use Rattle.sky_math.specs.Lists.{EachTwo}
use Rattle.sky_units.proofs.EpochOrder.{lt_of_test}
use Rattle.sky_units.specs.Arcs.{AreNear, HaveRisingEpochs, IsArc, MeetSpreadRule}
use Rattle.sky_units.specs.AtPlaces.{spots_at}
use Rattle.sky_units.specs.Motion.{offset}
use Rattle.sky_units.specs.Pairs.{all_pairs, are_pair, are_pair_at, keeps_rate, pairs_of}
use Rattle.sky_units.specs.Ranges.{IsBetween}
use Rattle.sky_units.specs.SettingsData.{AreSettings, SettingsData}
use Rattle.sky_units.specs.SpotData.{SpotData}
use Rattle.sky_units.specs.declared.axis.Axis.{Axis}
use Rattle.sky_units.specs.declared.axis.Axis.TheVariants.{Ra, Dec}
use Rattle.collapse.specs.Groups.{join_all, join_first, may_join, with_pair, with_place}
use Rattle.collapse.proofs.Firsts.{first_within, joins_here, pair_at, passes_by, second_within}
use Rattle.collapse.proofs.Together.{all_with_place, before, no_spot, past, there}

abbrev pub lies_at : SettingsData → List SpotData → List ℕ → Bool
lies_at settings spots places = lies_on_line settings.line_tol settings.rate_ra settings.rate_dec (spots_at spots places)

-- ---- two spots that keep the rate lie on a line
record KeepsRateOn (rate ticks moved : ℤ) : Type 0 where
  pub from : neg_ℤ (rate *ℤ ticks) ≤ℤ (moved *ℤ pos 1000000)
  pub to : (moved *ℤ pos 1000000) ≤ℤ (rate *ℤ ticks)

le_of_test : (a b : ℤ) → le_z a b ≡ true → a ≤ℤ b
le_of_test a b h = grind (arith, ints)

rate_kept : (rate ticks moved : ℤ) → keeps_rate rate ticks moved ≡ true → KeepsRateOn rate ticks moved
rate_kept rate ticks moved h = let u = both _ _ h in record { from = le_of_test _ _ u.0; to = le_of_test _ _ u.1 }

record KeepRates (settings : SettingsData) (a b : SpotData) : Type 0 where
  pub later : a.epoch <ℤ b.epoch
  pub ra : KeepsRateOn settings.rate_ra (b.epoch -ℤ a.epoch) (offset Ra a b)
  pub dec : KeepsRateOn settings.rate_dec (b.epoch -ℤ a.epoch) (offset Dec a b)

rates_kept : (settings : SettingsData) (a b : SpotData) → are_pair settings a b ≡ true → KeepRates settings a b
rates_kept settings a b h =
    let u = both (lt_z a.epoch b.epoch && le_z (b.epoch -ℤ a.epoch) settings.pair_gap && keeps_rate settings.rate_ra (b.epoch -ℤ a.epoch) (offset Ra a b)) (keeps_rate settings.rate_dec (b.epoch -ℤ a.epoch) (offset Dec a b)) h in
    let v = both (lt_z a.epoch b.epoch && le_z (b.epoch -ℤ a.epoch) settings.pair_gap) (keeps_rate settings.rate_ra (b.epoch -ℤ a.epoch) (offset Ra a b)) u.0 in
    let w = both (lt_z a.epoch b.epoch) (le_z (b.epoch -ℤ a.epoch) settings.pair_gap) v.0 in
    record { later = lt_of_test a.epoch b.epoch w.0; ra = rate_kept _ _ _ v.1; dec = rate_kept _ _ _ u.1 }

near_kept : (rate ticks moved : ℤ) → IsBetween (pos 0) (pos 10000000) rate → pos 0 <ℤ ticks → ticks ≤ℤ pos 1000000 → KeepsRateOn rate ticks moved → (neg_ℤ (pos 90000000) <ℤ moved) × (moved <ℤ pos 90000000)
near_kept rate ticks moved r p t k =
    let m : unsigned_abs (rate *ℤ ticks) ≤ 10000000000000 = product_most rate ticks 10000000 1000000 (let a = r.from in let b = r.to in omega (arith, ints)) (omega (arith, ints)) in
    let a = k.from in
    let b = k.to in
    (omega (arith, ints, m, a, b), omega (arith, ints, m, a, b))

two_of : (R : SpotData → SpotData → Type 0) (a b : SpotData) → R a b → EachTwo R (a ∷ b ∷ [])
two_of R a b h = by_place R a (b ∷ []) (All-cons (R a) b [] h (All-nil (R a))) (by_place R b [] (All-nil (R b)) (λ i j d ij jn. absurd (omega arith)))

slope_kept : (axis : Axis) (tol rate : ℤ) (a b : SpotData) → pos 0 ≤ℤ tol → a.epoch <ℤ b.epoch → KeepsRateOn rate (b.epoch -ℤ a.epoch) (offset axis a b) → SomeSlope axis tol rate (a ∷ b ∷ [])
slope_kept axis tol rate a b t later k =
    let e : ℤ = b.epoch -ℤ a.epoch in
    let o : ℤ = offset axis a b in
    let positive : pos 0 <ℤ e = omega (arith, ints, later) in
    record {
      a = o;
      b = e;
      positive = positive;
      from = rw (neg_mul) k.from;
      to = k.to;
      suits = two_of (Suits axis tol o e) a b (suits o tol e t positive);
    }
  where
    suits : (o t e : ℤ) → pos 0 ≤ℤ t → pos 0 <ℤ e → (((o -ℤ (t +ℤ t)) *ℤ e) ≤ℤ (o *ℤ e)) × ((o *ℤ e) ≤ℤ ((o +ℤ (t +ℤ t)) *ℤ e))
    suits o t e h p =
        let m : pos 0 ≤ℤ (t *ℤ e) = mul_not_negative t e h (omega (arith, linear, p)) in
        (simp (add_mul, neg_mul) (omega (arith, linear, m)), simp (add_mul) (omega (arith, linear, m)))

two_lie : (settings : SettingsData) (a b : SpotData) → AreSettings settings → (b.epoch -ℤ a.epoch) ≤ℤ pos 1000000 → are_pair settings a b ≡ true → lies_on_line settings.line_tol settings.rate_ra settings.rate_dec (a ∷ b ∷ []) ≡ true
two_lie settings a b ranges day h =
    let k = rates_kept settings a b h in
    let t : pos 0 ≤ℤ settings.line_tol = ranges.line_tol_in_range.from in
    let later = k.later in
    let p : pos 0 <ℤ (b.epoch -ℤ a.epoch) = omega (arith, ints, later) in
    let rise : HaveRisingEpochs (a ∷ b ∷ []) = two_of (λ x y. x.epoch <ℤ y.epoch) a b later in
    let ra = near_kept _ _ _ ranges.rate_ra_in_range p day k.ra in
    let dec = near_kept _ _ _ ranges.rate_dec_in_range p day k.dec in
    let near : MeetSpreadRule (a ∷ b ∷ []) = two_of (λ x y. AreNear Ra x y × AreNear Dec x y) a b (ra, dec) in
    and_of _ _ (and_of _ _ (test_of_follow (a ∷ b ∷ []) rise near) (meets_of_some_slope Ra settings.line_tol settings.rate_ra (a ∷ b ∷ []) rise (slope_kept Ra settings.line_tol settings.rate_ra a b t later k.ra)))
    (meets_of_some_slope Dec settings.line_tol settings.rate_dec (a ∷ b ∷ []) rise (slope_kept Dec settings.line_tol settings.rate_dec a b t later k.dec))

-- ---- the spots of a pair
spots_of_pair : (spots : List SpotData) (pair : ℕ × ℕ) (d : SpotData) → pair.0 < length spots → pair.1 < length spots → spots_at spots (pair.0 ∷ pair.1 ∷ []) ≡ get_or spots pair.0 d ∷ get_or spots pair.1 d ∷ []
spots_of_pair spots pair d m n =
    let f : slice_get spots pair.0 ≡ Some (get_or spots pair.0 d) = slice_get-get_or spots pair.0 d m in
    let s : slice_get spots pair.1 ≡ Some (get_or spots pair.1 d) = slice_get-get_or spots pair.1 d n in
    rw (f, s) refl

-- what holds of two spots that are a pair holds of the spots of each pair of a night
pub each_pair : (P : List SpotData → Type 0) (settings : SettingsData) (spots : List SpotData) → ((a b : SpotData) → are_pair settings a b ≡ true → P (a ∷ b ∷ [])) → All (λ pair. P (spots_at spots (pair.0 ∷ pair.1 ∷ []))) (pairs_of settings spots)
each_pair P settings spots holds = All-weaker (λ pair. are_pair_at settings spots pair ≡ true) (λ pair. P (spots_at spots (pair.0 ∷ pair.1 ∷ [])))
    (λ pair h.
    let f = first_within settings spots pair h in
    let s = second_within settings spots pair h in
    subst P (sym (spots_of_pair spots pair no_spot f s)) (holds (get_or spots pair.0 no_spot) (get_or spots pair.1 no_spot) (pair_at settings spots pair no_spot h)))
    (pairs_of settings spots) (filter_passes (are_pair_at settings spots) (all_pairs (length spots) (length spots)))

-- ---- what each pair has, and each group keeps that a pair joins, each group has
pub each_joined : (P : List ℕ → Type 0) (settings : SettingsData) (spots : List SpotData) (pair : ℕ × ℕ) (groups : List (List ℕ)) → P (pair.0 ∷ pair.1 ∷ []) →
    ((group : List ℕ) → P group → may_join settings spots pair group ≡ true → P (with_pair group pair)) → All P groups → All P (join_first settings spots pair groups)
each_joined P settings spots pair [] new step a = All-cons P (pair.0 ∷ pair.1 ∷ []) [] new (All-nil P)
each_joined P settings spots pair (group ∷ rest) new step a = elim (cases_Bool (may_join settings spots pair group)) as (λ _. All P (join_first settings spots pair (group ∷ rest))) [
  | inl t ↦ rw (joins_here settings spots pair group rest t) (All-cons P (with_pair group pair) rest (step group (All-head P group rest a) t) (All-tail P group rest a))
  | inr f ↦ rw (passes_by settings spots pair group rest f) (All-cons P group (join_first settings spots pair rest) (All-head P group rest a) (each_joined P settings spots pair rest new step (All-tail P group rest a)))
]

pub each_of_all : (P : List ℕ → Type 0) (settings : SettingsData) (spots : List SpotData) (pairs : List (ℕ × ℕ)) (groups : List (List ℕ)) → All (λ pair. P (pair.0 ∷ pair.1 ∷ [])) pairs →
    ((pair : ℕ × ℕ) (group : List ℕ) → P (pair.0 ∷ pair.1 ∷ []) → P group → may_join settings spots pair group ≡ true → P (with_pair group pair)) → All P groups → All P (join_all settings spots pairs groups)
each_of_all P settings spots [] groups each step a = a
each_of_all P settings spots (pair ∷ rest) groups each step a =
    let new = All-head (λ pair. P (pair.0 ∷ pair.1 ∷ [])) pair rest each in
    each_of_all P settings spots rest (join_first settings spots pair groups) (All-tail (λ pair. P (pair.0 ∷ pair.1 ∷ [])) pair rest each) step
    (each_joined P settings spots pair groups new (λ group. step pair group new) a)

-- ---- groups lie on lines
pub pairs_lie : (settings : SettingsData) (spots : List SpotData) → AreSettings settings → AreOfOneDay spots → ((pair : ℕ × ℕ) → are_pair_at settings spots pair ≡ true → pair.0 < pair.1) → All (λ pair. lies_at settings spots (pair.0 ∷ pair.1 ∷ []) ≡ true) (pairs_of settings spots)
pairs_lie settings spots ranges day rising = All-weaker (λ pair. are_pair_at settings spots pair ≡ true) (λ pair. lies_at settings spots (pair.0 ∷ pair.1 ∷ []) ≡ true)
    (λ pair h.
    let f = first_within settings spots pair h in
    let s = second_within settings spots pair h in
    let near = day pair.0 pair.1 no_spot (rising pair h) s in
    subst (λ (xs : List SpotData). lies_on_line settings.line_tol settings.rate_ra settings.rate_dec xs ≡ true) (sym (spots_of_pair spots pair no_spot f s))
    (two_lie settings (get_or spots pair.0 no_spot) (get_or spots pair.1 no_spot) ranges near (pair_at settings spots pair no_spot h)))
    (pairs_of settings spots) (filter_passes (are_pair_at settings spots) (all_pairs (length spots) (length spots)))

pub groups_lie : (settings : SettingsData) (spots : List SpotData) (pairs : List (ℕ × ℕ)) → All (λ pair. lies_at settings spots (pair.0 ∷ pair.1 ∷ []) ≡ true) pairs → All (λ group. lies_at settings spots group ≡ true) (join_all settings spots pairs [])
groups_lie settings spots pairs each = each_of_all (λ group. lies_at settings spots group ≡ true) settings spots pairs [] each (λ pair group new old joins. joins) (All-nil (λ group. lies_at settings spots group ≡ true))

-- spots of one day on a line are an arc
pub arc_of_line : (tol rate_ra rate_dec : ℤ) (spots : List SpotData) → lies_on_line tol rate_ra rate_dec spots ≡ true → AreOfOneDay spots → IsArc spots
arc_of_line tol rate_ra rate_dec spots h day =
    let u = both _ (slopes_meet Dec tol rate_dec spots) h in
    let v = both (list_all follows_near (each_two spots)) _ u.0 in
    let f = follow_of_test spots v.0 in
    record { rising = f.0; short = λ i j d ij jn. (let n = day i j d ij jn in omega (arith, ints, n)); spread = f.1 }

-- spots on a line have rising epochs
pub rising_of_line : (tol rate_ra rate_dec : ℤ) (spots : List SpotData) → lies_on_line tol rate_ra rate_dec spots ≡ true → HaveRisingEpochs spots
rising_of_line tol rate_ra rate_dec spots h =
    let u = both _ (slopes_meet Dec tol rate_dec spots) h in
    let v = both (list_all follows_near (each_two spots)) _ u.0 in
    (follow_of_test spots v.0).0

-- ---- places of groups
pub pairs_within : (settings : SettingsData) (spots : List SpotData) → All (λ pair. All (λ p. p < length spots) (pair.0 ∷ pair.1 ∷ [])) (pairs_of settings spots)
pairs_within settings spots = All-weaker (λ pair. are_pair_at settings spots pair ≡ true) (λ pair. All (λ p. p < length spots) (pair.0 ∷ pair.1 ∷ []))
    (λ pair h. All-cons (λ p. p < length spots) pair.0 (pair.1 ∷ []) (first_within settings spots pair h) (All-cons (λ p. p < length spots) pair.1 [] (second_within settings spots pair h) (All-nil (λ p. p < length spots))))
    (pairs_of settings spots) (filter_passes (are_pair_at settings spots) (all_pairs (length spots) (length spots)))

pub within_pair : (n : ℕ) (pair : ℕ × ℕ) (group : List ℕ) → All (λ p. p < n) (pair.0 ∷ pair.1 ∷ []) → All (λ p. p < n) group → All (λ p. p < n) (with_pair group pair)
within_pair n pair group new old =
    all_with_place (λ p. p < n) (with_place group pair.0) pair.1 (new 1 0 (omega arith)) (all_with_place (λ p. p < n) group pair.0 (new 0 0 (omega arith)) old)

-- ---- groups don't shrink
grows : (xs : List ℕ) (p : ℕ) → length xs ≤ length (with_place xs p)
grows [] p = omega arith
grows (x ∷ rest) p = elim (cases_order x p) as (λ _. length (x ∷ rest) ≤ length (with_place (x ∷ rest) p)) [
  | inl e ↦ rw (there x p rest e) (omega arith)
  | inr (inl l) ↦ let i = grows rest p in rw (past x p rest l) (omega arith)
  | inr (inr l) ↦ rw (before x p rest l) (omega arith)
]

pub pair_grows : (xs : List ℕ) (pair : ℕ × ℕ) → length xs ≤ length (with_pair xs pair)
pair_grows xs pair = let a = grows xs pair.0 in let b = grows (with_place xs pair.0) pair.1 in omega (arith, a, b)
