-- The reported quadratic of spots does not depend on their numbers.
use Rattle.std.proofs.Common.{◌≡◌, ℕ, ℤ, ◌+ℤ◌, pos, List, [], ◌∷◌, map, refl, sym, subst, ap, ◌∙◌}
use Rattle.std.specs.Int.{int_div_euclid}
use Rattle.std.specs.List.{All}
use Rattle.sky_math.specs.Quadratics.{Passes, Point, Quadratic}
use Rattle.sky_units.specs.Motion.{tolerance}
use Rattle.sky_units.specs.QuadData.{QuadData}
use Rattle.sky_units.specs.Reported.{IsReported, first_position, last_epoch, middle_epoch, point_at}
use Rattle.sky_units.specs.SettingsData.{SettingsData}
use Rattle.sky_units.specs.SpotData.{SpotData}
use Rattle.sky_units.specs.declared.axis.Axis.{Axis}
use Rattle.sky_units.specs.declared.axis.Axis.TheVariants.{Ra, Dec}
use Rattle.plain_tracks.proofs.Relabelled.{relabelled}

same_base : (f : ℕ → ℕ) (axis : Axis) (spots : List SpotData) → first_position axis (map (relabelled f) spots) ≡ first_position axis spots
same_base f Ra [] = refl
same_base f Ra (first ∷ rest) = refl
same_base f Dec [] = refl
same_base f Dec (first ∷ rest) = refl

same_last : (f : ℕ → ℕ) (epoch : ℤ) (spots : List SpotData) → last_epoch epoch (map (relabelled f) spots) ≡ last_epoch epoch spots
same_last f epoch [] = refl
same_last f epoch (first ∷ rest) = same_last f first.epoch rest

same_start : (f : ℕ → ℕ) (spots : List SpotData) → middle_epoch (map (relabelled f) spots) ≡ middle_epoch spots
same_start f [] = refl
same_start f (first ∷ rest) = ap (λ (last : ℤ). int_div_euclid (first.epoch +ℤ last) (pos 2)) (same_last f first.epoch rest)

same_points : (f : ℕ → ℕ) (axis : Axis) (base start : ℤ) (spots : List SpotData) → map (point_at axis base start) (map (relabelled f) spots) ≡ map (point_at axis base start) spots
same_points f axis base start [] = refl
same_points f Ra base start (first ∷ rest) = ap (λ (points : List Point). point_at Ra base start first ∷ points) (same_points f Ra base start rest)
same_points f Dec base start (first ∷ rest) = ap (λ (points : List Point). point_at Dec base start first ∷ points) (same_points f Dec base start rest)

abbrev ArePassed : Axis → SettingsData → Quadratic → List Point → Type 0
ArePassed axis settings g points = All (Passes (tolerance axis settings) g) points

pub same_reported : (f : ℕ → ℕ) (axis : Axis) (settings : SettingsData) (spots : List SpotData) (quad : QuadData) → IsReported axis settings spots quad → IsReported axis settings (map (relabelled f) spots) quad
same_reported f axis settings spots quad is =
    let points = same_points f axis quad.base quad.start spots in
    record {
      base_is = is.base_is ∙ sym (same_base f axis spots);
      start_is = is.start_is ∙ sym (same_start f spots);
      passes = record { admitted = is.passes.admitted; passes = subst (ArePassed axis settings _) (sym points) is.passes.passes };
      least = λ g passes. is.least g (record { admitted = passes.admitted; passes = subst (ArePassed axis settings g) points passes.passes });
      lowest = is.lowest;
    }
