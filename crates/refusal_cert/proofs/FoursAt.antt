-- Four spots at rising places of an arc.
use Rattle.std.proofs.Common.{◌≡◌, ◌↔◌, ℕ, ◌+◌, ◌<◌, ◌≤◌, min, max, List, [], ◌∷◌, length, take, drop, map, get_or, refl, sym, subst, ◌∙◌, arith}
use Rattle.std.proofs.lemmas.List.{get_or-take, length-take, take-append-drop}
use Rattle.sky_units.proofs.SpotsAtPlaces.{spots_are}
use Rattle.sky_units.specs.Arcs.{IsArc}
use Rattle.sky_units.specs.AtPlaces.{spots_at}
use Rattle.sky_units.specs.FracData.{FracData}
use Rattle.sky_units.specs.Motion.{AxisAdmits, tolerance}
use Rattle.sky_units.specs.SettingsData.{SettingsData}
use Rattle.sky_units.specs.SpotData.{SpotData}
use Rattle.sky_units.specs.declared.axis.Axis.{Axis}
use Rattle.refusal_cert.specs.Certificates.{AdmitsAt, AdmitsEach, IsChoice}
use Rattle.refusal_cert.specs.Coefficients.{AreEnds, HaveCommon}
use Rattle.refusal_cert.proofs.Parts.{front_of}
use Rattle.refusal_cert.proofs.Places.{admits_at, arc_at, below, four_at, three_at}
use Rattle.refusal_cert.proofs.Searching.{ArePassed}
use Rattle.refusal_cert.proofs.Suffices.{AreLimits, four_places, three_places}
use Rattle.refusal_cert.proofs.Tells.{AdmitsThrees, four_told}

-- the spots at four rising places
pub record AreFour (spots : List SpotData) (i j k l : ℕ) (w x y z : SpotData) : Type 0 where
  pub first_step : i < j
  pub second_step : j < k
  pub third_step : k < l
  pub within : l < length spots
  pub first : w ≡ get_or spots i w
  pub second : x ≡ get_or spots j x
  pub third : y ≡ get_or spots k y
  pub fourth : z ≡ get_or spots l z

pub spots_of_four : (spots : List SpotData) (i j k l : ℕ) (w x y z : SpotData) → AreFour spots i j k l w x y z → spots_at spots (i ∷ j ∷ k ∷ l ∷ []) ≡ w ∷ x ∷ y ∷ z ∷ []
spots_of_four spots i j k l w x y z f =
    let a = f.first_step in
    let b = f.second_step in
    let c = f.third_step in
    let n = f.within in
    four_at spots i j k l w x y z (omega arith) (omega arith) (omega arith) n f.first f.second f.third f.fourth

pub arc_of_four : (spots : List SpotData) (i j k l : ℕ) (w x y z : SpotData) → IsArc spots → AreFour spots i j k l w x y z → IsArc (w ∷ x ∷ y ∷ z ∷ [])
arc_of_four spots i j k l w x y z arc f =
    subst IsArc (spots_of_four spots i j k l w x y z f) (arc_at spots 0 (i ∷ j ∷ k ∷ l ∷ []) w arc (four_places (length spots) i j k l f.first_step f.second_step f.third_step f.within).0)

-- three spots of which the axis admits each three
three_admitted : (axis : Axis) (settings : SettingsData) (spots : List SpotData) (i j k : ℕ) (x y z : SpotData) → AdmitsEach 3 axis settings spots → i < j → j < k → k < length spots → x ≡ get_or spots i x → y ≡ get_or spots j y → z ≡ get_or spots k z → AxisAdmits axis settings (x ∷ y ∷ z ∷ [])
three_admitted axis settings spots i j k x y z threes ij jk kn ex ey ez =
    subst (AxisAdmits axis settings) (three_at spots i j k x y z (omega arith) (omega arith) kn ex ey ez) (threes (i ∷ j ∷ k ∷ []) (three_places (length spots) i j k ij jk kn))

threes_of_four : (axis : Axis) (settings : SettingsData) (spots : List SpotData) (i j k l : ℕ) (w x y z : SpotData) → AdmitsEach 3 axis settings spots → AreFour spots i j k l w x y z → AdmitsThrees axis settings w x y z
threes_of_four axis settings spots i j k l w x y z threes f =
    let ij = f.first_step in
    let jk = f.second_step in
    let kl = f.third_step in
    let ln = f.within in
    record {
      without_last = three_admitted axis settings spots i j k w x y threes ij jk (omega arith) f.first f.second f.third;
      without_third = three_admitted axis settings spots i j l w x z threes ij (omega arith) ln f.first f.second f.fourth;
      without_second = three_admitted axis settings spots i k l w y z threes (omega arith) kl ln f.first f.third f.fourth;
      without_first = three_admitted axis settings spots j k l x y z threes jk kl ln f.second f.third f.fourth;
    }

-- what the coefficients of the first three and of the last three tell
pub four_told_at : (axis : Axis) (settings : SettingsData) (spots : List SpotData) (i j k l : ℕ) (w x y z : SpotData) (low high low' high' : FracData) → AreLimits axis settings → IsArc spots → AdmitsEach 3 axis settings spots → AreFour spots i j k l w x y z →
    AreEnds axis (tolerance axis settings) w x y low high → AreEnds axis (tolerance axis settings) x y z low' high' → HaveCommon low high low' high' ↔ AdmitsAt axis settings spots (i ∷ j ∷ k ∷ l ∷ [])
four_told_at axis settings spots i j k l w x y z low high low' high' limits arc threes f before after =
    let at = spots_of_four spots i j k l w x y z f in
    let told = four_told axis settings w x y z low high low' high' limits (arc_of_four spots i j k l w x y z arc f) (threes_of_four axis settings spots i j k l w x y z threes f) before after in
    (λ h. subst (AxisAdmits axis settings) (sym at) (told.0 h), λ a. told.1 (subst (AxisAdmits axis settings) at a))

-- ---- the front
pub front_arc : (spots : List SpotData) (front : ℕ) → IsArc spots → IsArc (take front spots)
front_arc spots front arc = front_of (take front spots) (drop front spots) (subst IsArc (sym (take-append-drop front spots)) arc)

same_in_front : (spots : List SpotData) (front i j k l : ℕ) (d : SpotData) → i < j → j < k → k < l → l < front → l < length spots → spots_at (take front spots) (i ∷ j ∷ k ∷ l ∷ []) ≡ spots_at spots (i ∷ j ∷ k ∷ l ∷ [])
same_in_front spots front i j k l d ij jk kl lf ln =
    let n : length (take front spots) ≡ min front (length spots) = length-take front spots in
    let p = four_places (length (take front spots)) i j k l ij jk kl (omega arith) in
    let q = four_places (length spots) i j k l ij jk kl ln in
    let ei : get_or (take front spots) i d ≡ get_or spots i d = get_or-take front spots i d (omega arith) in
    let ej : get_or (take front spots) j d ≡ get_or spots j d = get_or-take front spots j d (omega arith) in
    let ek : get_or (take front spots) k d ≡ get_or spots k d = get_or-take front spots k d (omega arith) in
    let el : get_or (take front spots) l d ≡ get_or spots l d = get_or-take front spots l d lf in
    let here : map (λ p. get_or (take front spots) p d) (i ∷ j ∷ k ∷ l ∷ []) ≡ map (λ p. get_or spots p d) (i ∷ j ∷ k ∷ l ∷ []) = rw (ei, ej, ek, el) refl in
    spots_are (take front spots) (i ∷ j ∷ k ∷ l ∷ []) d (below 0 (length (take front spots)) (i ∷ j ∷ k ∷ l ∷ []) p.0) ∙ here ∙ sym (spots_are spots (i ∷ j ∷ k ∷ l ∷ []) d (below 0 (length spots) (i ∷ j ∷ k ∷ l ∷ []) q.0))

admitted_in_front : (axis : Axis) (settings : SettingsData) (spots : List SpotData) (front i j k l : ℕ) (d : SpotData) → IsArc spots → AxisAdmits axis settings (take front spots) → i < j → j < k → k < l → l < front → l < length spots → AdmitsAt axis settings spots (i ∷ j ∷ k ∷ l ∷ [])
admitted_in_front axis settings spots front i j k l d arc w ij jk kl lf ln =
    let n : length (take front spots) ≡ min front (length spots) = length-take front spots in
    let p = four_places (length (take front spots)) i j k l ij jk kl (omega arith) in
    subst (AxisAdmits axis settings) (same_in_front spots front i j k l d ij jk kl lf ln)
    (admits_at axis settings (take front spots) 0 (i ∷ j ∷ k ∷ l ∷ []) d (front_arc spots front arc) p.0 w)

-- four that end in an admitted front are admitted
pub front_passed : (axis : Axis) (settings : SettingsData) (spots : List SpotData) (front at i j k : ℕ) (d : SpotData) → IsArc spots → AxisAdmits axis settings (take front spots) → i < j → j < k → at ≡ max front (k + 1) →
    ArePassed (λ rest. AdmitsAt axis settings spots (i ∷ j ∷ k ∷ rest)) (k + 1) (length spots) 0 at
front_passed axis settings spots front at i j k d arc w ij jk e = record { passed = each }
  where
    each : (p : ℕ) (rest : List ℕ) → k + 1 ≤ p → p < at → p < length spots → IsChoice (p + 1) (length spots) 0 rest → AdmitsAt axis settings spots (i ∷ j ∷ k ∷ p ∷ rest)
    each p [] low less n c = admitted_in_front axis settings spots front i j k p d arc w ij jk (omega arith) (omega (arith, e)) n
    each p (q ∷ rest) low less n c = absurd (omega (arith, c.1))
