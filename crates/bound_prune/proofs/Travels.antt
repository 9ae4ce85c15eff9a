-- What the ends of two tracklets say of the ways and rates between them is what their boxes say.
use Rattle.std.proofs.Common.{◌≡◌, ◌↔◌, ap, sym, subst, ◌∙◌, arith}
use Rattle.std.specs.Prelude.{ℤ, pos, neg_ℤ, ◌+ℤ◌, ◌-ℤ◌}
use Rattle.std.proofs.lemmas.Int.{ints}
use mathlib.Core.Logic.{◌⊎◌, inl, inr}
use Rattle.sky_math.specs.Circle.{full_turn}
use Rattle.sky_units.specs.Ranges.{IsBetween}
use Rattle.sky_units.specs.SettingsData.{SettingsData}
use Rattle.sky_units.specs.declared.axis.Axis.{Axis}
use Rattle.sky_units.specs.declared.axis.Axis.TheVariants.{Ra, Dec}
use Rattle.box_tree.specs.declared.bounds.Bounds.{Bounds}
use Rattle.bound_prune.specs.BoxEnds.{DifferLittle, rates_in}
use Rattle.bound_prune.specs.Bounds.{IsOpen, IsOpenRound, RatesAgree, Reaches, ahead_with, back_with, gained_in, greatest_distance, kept_within, lasting, least_distance, longest, two_turns, way_ahead, way_back}
use Rattle.bound_prune.specs.EndsData.{AreInRange, EndsData, bounds_of}
use Rattle.bound_prune.specs.Times.{AreTimes, IsTravel}
use Rattle.bound_prune.specs.declared.times.Times.{Times}
use Rattle.bound_prune.specs.declared.travel.Travel.{Travel}
use Rattle.bound_prune.proofs.Cuts.{kept_same, way_is}

pub ahead_is : (axis : Axis) (settings : SettingsData) (a b : Bounds) (times : Times) (travel : Travel) → AreTimes a b times → IsTravel axis settings (rates_in axis a) (rates_in axis b) times travel → travel.ahead ≡ way_ahead axis settings a b
ahead_is axis settings a b times travel t w =
    let lasts = t.lasting_is in
    let short = t.shortest_is in
    let long = t.longest_is in
    (rw (lasts, short, long) at w.ahead) ∙ way_is (ahead_with axis (gained_in axis settings (lasting a +ℤ lasting b)) a b) a b

pub back_is : (axis : Axis) (settings : SettingsData) (a b : Bounds) (times : Times) (travel : Travel) → AreTimes a b times → IsTravel axis settings (rates_in axis a) (rates_in axis b) times travel → travel.back ≡ way_back axis settings a b
back_is axis settings a b times travel t w =
    let lasts = t.lasting_is in
    let short = t.shortest_is in
    let long = t.longest_is in
    (rw (lasts, short, long) at w.back) ∙ way_is (back_with axis (gained_in axis settings (lasting a +ℤ lasting b)) a b) a b

-- another distance and another way that are the same
moved : (tol d e p q : ℤ) → d ≡ e → p ≡ q → Reaches tol d p → Reaches tol e q
moved tol d e p q same led h = subst (Reaches tol e) led (subst (λ (x : ℤ). Reaches tol x p) same h)

either : {P Q R S : Type 0} → (P → R) → (Q → S) → P ⊎ Q → R ⊎ S
either f g (inl p) = inl (f p)
either f g (inr q) = inr (g q)

turned : {P Q : Type 0} → P ⊎ Q → Q ⊎ P
turned (inl p) = inr p
turned (inr q) = inl q

-- ---- declination
pub dec_apart : (a b : ℤ) → IsBetween (neg_ℤ (pos 90000000)) (pos 90000000) a → IsBetween (neg_ℤ (pos 90000000)) (pos 90000000) b → kept_within (neg_ℤ two_turns) two_turns (b -ℤ a) ≡ b -ℤ a
dec_apart a b p q =
    let af = p.from in
    let at = p.to in
    let bf = q.from in
    let bt = q.to in
    kept_same (neg_ℤ two_turns) two_turns (b -ℤ a) (omega (arith, ints, at, bf)) (omega (arith, ints, af, bt))

pub dec_open : (settings : SettingsData) (a b : EndsData) (times : Times) (travel : Travel) → AreInRange a → AreInRange b → AreTimes (bounds_of a) (bounds_of b) times → IsTravel Dec settings a.dec_rates b.dec_rates times travel →
    (Reaches settings.tol_dec (b.dec -ℤ a.dec) travel.ahead × Reaches settings.tol_dec (neg_ℤ (b.dec -ℤ a.dec)) travel.back) ↔ IsOpen settings.tol_dec (least_distance Dec (bounds_of a) (bounds_of b)) (greatest_distance Dec (bounds_of a) (bounds_of b)) (way_ahead Dec settings (bounds_of a) (bounds_of b)) (way_back Dec settings (bounds_of a) (bounds_of b))
dec_open settings a b times travel p q t w =
    let tol : ℤ = settings.tol_dec in
    let d : ℤ = b.dec -ℤ a.dec in
    let k : ℤ = kept_within (neg_ℤ two_turns) two_turns (b.dec -ℤ a.dec) in
    let ahead : ℤ = way_ahead Dec settings (bounds_of a) (bounds_of b) in
    let back : ℤ = way_back Dec settings (bounds_of a) (bounds_of b) in
    let e : kept_within (neg_ℤ two_turns) two_turns (b.dec -ℤ a.dec) ≡ b.dec -ℤ a.dec = dec_apart a.dec b.dec p.dec q.dec in
    let n : neg_ℤ (kept_within (neg_ℤ two_turns) two_turns (b.dec -ℤ a.dec)) ≡ neg_ℤ (b.dec -ℤ a.dec) = ap neg_ℤ e in
    let f = ahead_is Dec settings (bounds_of a) (bounds_of b) times travel t w in
    let g = back_is Dec settings (bounds_of a) (bounds_of b) times travel t w in (
      λ h. record { from = moved tol d k travel.ahead ahead (sym e) f h.0; to = moved tol (neg_ℤ d) (neg_ℤ k) travel.back back (sym n) g h.1 },
      λ h. (moved tol k d ahead travel.ahead e (sym f) h.from, moved tol (neg_ℤ k) (neg_ℤ d) back travel.back n (sym g) h.to),
    )

-- ---- right ascension
ra_apart : (a b : ℤ) → IsBetween (pos 0) (pos 359999999) a → IsBetween (pos 0) (pos 359999999) b → kept_within (neg_ℤ two_turns) two_turns (b -ℤ a) ≡ b -ℤ a
ra_apart a b p q =
    let af = p.from in
    let at = p.to in
    let bf = q.from in
    let bt = q.to in
    kept_same (neg_ℤ two_turns) two_turns (b -ℤ a) (omega (arith, ints, at, bf)) (omega (arith, ints, af, bt))

pub ra_open : (settings : SettingsData) (a b : EndsData) (times : Times) (travel : Travel) → AreInRange a → AreInRange b → AreTimes (bounds_of a) (bounds_of b) times → IsTravel Ra settings a.ra_rates b.ra_rates times travel →
    ((Reaches settings.tol_ra (b.ra -ℤ a.ra) travel.ahead ⊎ Reaches settings.tol_ra (full_turn -ℤ (b.ra -ℤ a.ra)) travel.back) × (Reaches settings.tol_ra (full_turn +ℤ (b.ra -ℤ a.ra)) travel.ahead ⊎ Reaches settings.tol_ra (neg_ℤ (b.ra -ℤ a.ra)) travel.back)) ↔
    IsOpenRound settings.tol_ra (least_distance Ra (bounds_of a) (bounds_of b)) (greatest_distance Ra (bounds_of a) (bounds_of b)) (way_ahead Ra settings (bounds_of a) (bounds_of b)) (way_back Ra settings (bounds_of a) (bounds_of b))
ra_open settings a b times travel p q t w =
    let tol : ℤ = settings.tol_ra in
    let d : ℤ = b.ra -ℤ a.ra in
    let k : ℤ = kept_within (neg_ℤ two_turns) two_turns (b.ra -ℤ a.ra) in
    let ahead : ℤ = way_ahead Ra settings (bounds_of a) (bounds_of b) in
    let back : ℤ = way_back Ra settings (bounds_of a) (bounds_of b) in
    let e : kept_within (neg_ℤ two_turns) two_turns (b.ra -ℤ a.ra) ≡ b.ra -ℤ a.ra = ra_apart a.ra b.ra p.ra q.ra in
    let n : neg_ℤ (kept_within (neg_ℤ two_turns) two_turns (b.ra -ℤ a.ra)) ≡ neg_ℤ (b.ra -ℤ a.ra) = ap neg_ℤ e in
    let u : full_turn -ℤ kept_within (neg_ℤ two_turns) two_turns (b.ra -ℤ a.ra) ≡ full_turn -ℤ (b.ra -ℤ a.ra) = ap (λ (x : ℤ). full_turn -ℤ x) e in
    let v : full_turn +ℤ kept_within (neg_ℤ two_turns) two_turns (b.ra -ℤ a.ra) ≡ full_turn +ℤ (b.ra -ℤ a.ra) = ap (λ (x : ℤ). full_turn +ℤ x) e in
    let f = ahead_is Ra settings (bounds_of a) (bounds_of b) times travel t w in
    let g = back_is Ra settings (bounds_of a) (bounds_of b) times travel t w in (
      λ h. record {
        from = either (moved tol d k travel.ahead ahead (sym e) f) (moved tol (full_turn -ℤ d) (full_turn -ℤ k) travel.back back (sym u) g) h.0;
        to = turned (either (moved tol (full_turn +ℤ d) (full_turn +ℤ k) travel.ahead ahead (sym v) f) (moved tol (neg_ℤ d) (neg_ℤ k) travel.back back (sym n) g) h.1);
      },
      λ h. (
        either (moved tol k d ahead travel.ahead e (sym f)) (moved tol (full_turn -ℤ k) (full_turn -ℤ d) back travel.back u (sym g)) h.from,
        either (moved tol (full_turn +ℤ k) (full_turn +ℤ d) ahead travel.ahead v (sym f)) (moved tol (neg_ℤ k) (neg_ℤ d) back travel.back n (sym g)) (turned h.to),
      ),
    )

-- ---- rates
pub agree : (axis : Axis) (settings : SettingsData) (a b : Bounds) (time : ℤ) → time ≡ longest a b → DifferLittle axis settings (rates_in axis a) (rates_in axis b) time ↔ RatesAgree axis settings a b
agree axis settings a b time e = (
  λ h. (let s = h.slower in let f = h.faster in record { slower = rw e at s; faster = rw e at f }),
  λ h. (let s = h.slower in let f = h.faster in record { slower = rw e s; faster = rw e f }),
)
