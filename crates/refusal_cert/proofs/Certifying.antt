-- The certificate from what the searches found.
use Rattle.std.proofs.Common.{◌≡◌, ℕ, List, [], ◌∷◌, ◌↔◌, length, get_or, refl}
use Rattle.std.specs.Prelude.{Option, Some, None}
use Rattle.sky_units.specs.Arcs.{IsArc}
use Rattle.sky_units.specs.Motion.{AxisAdmits}
use Rattle.sky_units.specs.SettingsData.{SettingsData}
use Rattle.sky_units.specs.SpotData.{SpotData}
use Rattle.sky_units.specs.declared.axis.Axis.{Axis}
use Rattle.sky_units.specs.declared.certificates.Cert.{Cert}
use Rattle.sky_units.specs.declared.certificates.Cert.TheVariants.{Three, Four}
use Rattle.refusal_cert.specs.Certificates.{AdmitsAt, AdmitsEach, IsCertificate, IsFirstRefused}
use Rattle.refusal_cert.proofs.Places.{four_at, three_at}
use Rattle.refusal_cert.proofs.Suffices.{each_admitted}

-- what `refuse` answers
pub record IsAnswer (axis : Axis) (settings : SettingsData) (spots : List SpotData) (result : Option Cert) : Type 0 where
  pub certificate : IsCertificate axis settings spots result
  pub none : (result ≡ None) ↔ AxisAdmits axis settings spots

pub answer_none : (axis : Axis) (settings : SettingsData) (spots : List SpotData) → IsArc spots → AxisAdmits axis settings spots → IsAnswer axis settings spots None
answer_none axis settings spots arc w = record {
  certificate = (each_admitted 3 axis settings spots arc w, each_admitted 4 axis settings spots arc w);
  none = (λ e. w, λ h. refl);
}

-- a choice that isn't admitted shows that not all spots are
pub not_all : (axis : Axis) (settings : SettingsData) (spots : List SpotData) (count : ℕ) (places : List ℕ) → IsArc spots → IsFirstRefused (AdmitsAt axis settings spots) 0 (length spots) count places → ¬ AxisAdmits axis settings spots
not_all axis settings spots count places arc found = λ w. found.refused (each_admitted count axis settings spots arc w places found.choice)

pub answer_three : (axis : Axis) (settings : SettingsData) (spots : List SpotData) (i j k : ℕ) (x y z : SpotData) → IsArc spots → IsFirstRefused (AdmitsAt axis settings spots) 0 (length spots) 3 (i ∷ j ∷ k ∷ []) →
    x ≡ get_or spots i x → y ≡ get_or spots j y → z ≡ get_or spots k z → IsAnswer axis settings spots (Some (Three (x.num ∷ y.num ∷ z.num ∷ [])))
answer_three axis settings spots i j k x y z arc found ex ey ez =
    let c = found.choice.0 in
    let at = three_at spots i j k x y z c.1 c.2.1 c.2.2.1 ex ey ez in
    record {
      certificate = (i ∷ j ∷ k ∷ [], found, rw at refl);
      none = (λ e. cc, λ w. absurd (not_all axis settings spots 3 (i ∷ j ∷ k ∷ []) arc found w));
    }

pub answer_four : (axis : Axis) (settings : SettingsData) (spots : List SpotData) (i j k l : ℕ) (w x y z : SpotData) → IsArc spots → AdmitsEach 3 axis settings spots → IsFirstRefused (AdmitsAt axis settings spots) 0 (length spots) 4 (i ∷ j ∷ k ∷ l ∷ []) →
    w ≡ get_or spots i w → x ≡ get_or spots j x → y ≡ get_or spots k y → z ≡ get_or spots l z → IsAnswer axis settings spots (Some (Four (w.num ∷ x.num ∷ y.num ∷ z.num ∷ [])))
answer_four axis settings spots i j k l w x y z arc threes found ew ex ey ez =
    let c = found.choice.0 in
    let at = four_at spots i j k l w x y z c.1 c.2.1 c.2.2.1 c.2.2.2.1 ew ex ey ez in
    record {
      certificate = (threes, (i ∷ j ∷ k ∷ l ∷ [], found, rw at refl));
      none = (λ e. cc, λ a. absurd (not_all axis settings spots 4 (i ∷ j ∷ k ∷ l ∷ []) arc found a));
    }
