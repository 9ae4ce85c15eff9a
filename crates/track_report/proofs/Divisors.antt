-- Whether four numbers have a common divisor above 1.
use Rattle.std.proofs.Common.{◌≡◌, ℕ, ℤ, Bool, true, false, subst, arith, nat_eq}
use Rattle.std.specs.Bool.{MatchBool}
use Rattle.std.specs.Int.{IsGcd, ◌∣◌}
use Rattle.std.specs.Int.RustNames.{unsigned_abs}
use Rattle.std.proofs.Math.Nat.{eq-one_of_dvd-one}
use Rattle.std.proofs.lemmas.Nat.Gcd.{dvd_trans}
use Rattle.std.proofs.lemmas.Bool.Decides.{nat_tests}
use Rattle.sky_units.specs.QuadData.{HaveNoCommonDivisor}

pub decides_lowest : (d p v q : ℤ) (f g h : ℕ) → IsGcd (unsigned_abs d) (unsigned_abs p) f → IsGcd (unsigned_abs v) (unsigned_abs q) g → IsGcd f g h
    → (t : Bool) → nat_eq h 1 ≡ t → MatchBool t (HaveNoCommonDivisor d p v q) (¬ (HaveNoCommonDivisor d p v q))
decides_lowest d p v q f g h front back all true is =
    let one : h ≡ 1 = grind (arith, nat_tests) in
    λ k kd kp kv kq. eq-one_of_dvd-one (subst (λ n. k ∣ n) one (all.2 k (front.2 k kd kp) (back.2 k kv kq)))
decides_lowest d p v q f g h front back all false is =
    λ none.
    let one : h ≡ 1 = none h (dvd_trans h all.0 front.0) (dvd_trans h all.0 front.1) (dvd_trans h all.1 back.0) (dvd_trans h all.1 back.1) in
    grind (arith, nat_tests)
