-- What the code finds of spots is what the definition says.
use Rattle.std.proofs.Common.{◌≡◌, ℤ, pos, neg_ℤ, ◌-ℤ◌, ◌≤ℤ◌, ◌<ℤ◌, Bool, true, false, ◌&&◌, List, get_or, refl, sym, ap, ◌∙◌, arith}
use Rattle.std.proofs.lemmas.Int.{ints}
use Rattle.std.specs.Prelude.{Option, Some, None, is_some}
use Rattle.std.specs.List.{list_all}
use Rattle.sky_math.specs.Lists.{EachTwo}
use Rattle.sky_units.specs.Arcs.{IsArc}
use Rattle.sky_units.specs.Limits.{arc_ticks}
use Rattle.sky_units.specs.SpotData.{SpotData}
use Rattle.sky_units.specs.declared.axis.Axis.{Axis}
use Rattle.sky_units.specs.declared.axis.Axis.TheVariants.{Ra, Dec}
use Rattle.line_fit.specs.Lines.{each_two, follows_near, lies_on_line, per_tick, slopes_meet}
use Rattle.line_fit.specs.Slopes.{AreOfOneDay, IsNarrowed, Suits}
use Rattle.line_fit.specs.declared.slopes.Slopes.{Slopes}
use Rattle.line_fit.proofs.Bounds.{holds_low}
use Rattle.line_fit.proofs.Tells.{follow_of_test, meets_of_some_slope, some_slope_of_meets, test_of_follow}

not_true : (b : Bool) → (b ≡ true → ⊥) → false ≡ b
not_true true n = absurd (n refl)
not_true false n = refl

-- the slopes meet exactly where something is left of those of the rate
pub meets_exactly : (axis : Axis) (tol rate : ℤ) (spots : List SpotData) (limit : Slopes) (result : Option Slopes) → IsArc spots → limit.low ≡ per_tick (neg_ℤ rate) → limit.high ≡ per_tick rate →
    IsNarrowed limit (λ a b. EachTwo (Suits axis tol a b) spots) result → is_some result ≡ slopes_meet axis tol rate spots
meets_exactly axis tol rate spots limit None arc el eh n =
    not_true (slopes_meet axis tol rate spots) (λ h.
    let w = some_slope_of_meets axis tol rate spots arc.rising h in
    n w.a w.b w.positive (rw (el, eh) (w.from, w.to)) w.suits)
meets_exactly axis tol rate spots limit (Some r) arc el eh n =
    let low = (n.1 r.low.num r.low.den n.0.1).0 (holds_low r n.0) in
    let bounds = rw (el, eh) at low.0 in
    sym (meets_of_some_slope axis tol rate spots arc.rising record { a = r.low.num; b = r.low.den; positive = n.0.1; from = bounds.0; to = bounds.1; suits = low.1 })

-- spots of one day that follow one another nearby are an arc
pub arc_of_test : (spots : List SpotData) → AreOfOneDay spots → list_all follows_near (each_two spots) ≡ true → IsArc spots
arc_of_test spots day h =
    let f = follow_of_test spots h in
    record { rising = f.0; short = λ i j d ij jn. let s = day i j d ij jn in within (get_or spots i d).epoch (get_or spots j d).epoch s; spread = f.1 }
  where
    within : (x y : ℤ) → (y -ℤ x) ≤ℤ pos 1000000 → (y -ℤ x) <ℤ arc_ticks
    within x y s = omega (arith, ints)

pub arc_lies : (tol rate_ra rate_dec : ℤ) (spots : List SpotData) → IsArc spots → (slopes_meet Ra tol rate_ra spots && slopes_meet Dec tol rate_dec spots) ≡ lies_on_line tol rate_ra rate_dec spots
arc_lies tol rate_ra rate_dec spots arc = let t : list_all follows_near (each_two spots) ≡ true = test_of_follow spots arc.rising arc.spread in rw t refl

no_first : (a b c : Bool) → false ≡ a → false ≡ (a && b && c)
no_first a b c e = rw (← e) refl

pub no_arc_lies : (tol rate_ra rate_dec : ℤ) (spots : List SpotData) → (IsArc spots → ⊥) → AreOfOneDay spots → false ≡ lies_on_line tol rate_ra rate_dec spots
no_arc_lies tol rate_ra rate_dec spots apart day =
    no_first (list_all follows_near (each_two spots)) (slopes_meet Ra tol rate_ra spots) (slopes_meet Dec tol rate_dec spots) (not_true (list_all follows_near (each_two spots)) (λ h. apart (arc_of_test spots day h)))

-- a chain of two tests: the second answer where the first is yes, and else no
pub after_yes : (a b r l : Bool) → a ≡ true → r ≡ b → (a && b) ≡ l → r ≡ l
after_yes a b r l p q e = q ∙ (rw p at e)

pub after_no : (a b r l : Bool) → r ≡ a → r ≡ false → (a && b) ≡ l → r ≡ l
after_no a b r l q p e = let f : a ≡ false = sym q ∙ p in p ∙ (rw f at e)

-- equal numbers in the place of others
pub meets_same : (axis : Axis) (tol tol' rate rate' : ℤ) (spots : List SpotData) (b : Bool) → tol ≡ tol' → rate ≡ rate' → b ≡ slopes_meet axis tol rate spots → b ≡ slopes_meet axis tol' rate' spots
meets_same axis tol tol' rate rate' spots b et er e = e ∙ ap (λ (t : ℤ). slopes_meet axis t rate spots) et ∙ ap (λ (r : ℤ). slopes_meet axis tol' r spots) er
