-- Numbers of one quotient each, over two denominators: where nothing above 1 divides all numbers of either, the denominators are the same.
use Rattle.std.proofs.Common.{◌≡◌, ◌∙◌, ℕ, ◌+◌, ◌*◌, ◌/◌, ◌%◌, ◌<◌, arith, sym, refl, ap}
use Rattle.std.specs.Int.{IsGcd, ◌∣◌}
use Rattle.std.proofs.lemmas.Nat.Gcd.{IsGcd-from_mod, IsGcd-from_zero, same_from_IsGcd}
use Rattle.std.proofs.Math.Nat.{dvd-add, dvd-add_iff_right, dvd-mul_right, dvd-mul_right_of_dvd, div-add-mod, div-mul_cancel, dvd_of_mul-dvd-mul_right, mod-lt, mul-dvd-mul_right, one-dvd, mul_assoc, mul_comm, add-mul, mul-div_cancel, zero-mul, pos_of_dvd_of_pos}
use Prim.Native.Nat.{zero, suc}

-- a greatest common divisor, with those of all multiples
abbrev Divisor : ℕ → ℕ → Type 0
Divisor a b = (g : ℕ) × IsGcd a b g × ((x : ℕ) → IsGcd (a * x) (b * x) (g * x))

times_split : (a b q r x : ℕ) → b * q + r ≡ a → b * x * q + r * x ≡ a * x
times_split a b q r x e = rw (← e) (mixed b q r x)
  where
    mixed : (b q r x : ℕ) → b * x * q + r * x ≡ (b * q + r) * x
    mixed b q r x = rw (add-mul (b * q) r x, mul_assoc b q x, mul_assoc b x q, mul_comm q x) refl

next_divisor : (a b : ℕ) → Divisor b (a % b) → Divisor a b
next_divisor a b (g, one, all) = (g, IsGcd-from_mod a b g one, λ x. multiples x (all x))
  where
    multiples : (x : ℕ) → IsGcd (b * x) (a % b * x) (g * x) → IsGcd (a * x) (b * x) (g * x)
    multiples x h =
        let s : b * x * (a / b) + a % b * x ≡ a * x = times_split a b (a / b) (a % b) x (div-add-mod a b) in
        let whole : g * x ∣ b * x * (a / b) + a % b * x = dvd-add (g * x) (dvd-mul_right_of_dvd (g * x) h.0 (a / b)) h.1 in (
          rw s at whole,
          h.0,
          λ d p q.
              let split : d ∣ b * x * (a / b) + a % b * x = rw (← s) at p in
              h.2 d q ((dvd-add_iff_right d (dvd-mul_right_of_dvd d q (a / b))).1 split),
        )

divisor : (fuel a b : ℕ) → b < fuel → Divisor a b
divisor zero a b h = absurd (omega arith)
divisor (suc n) a zero h = (a, IsGcd-from_zero a 0 refl, λ x. IsGcd-from_zero (a * x) (0 * x) (zero-mul x))
divisor (suc n) a (suc b) h =
    let r : a % suc b < suc b = mod-lt a (omega arith) in
    next_divisor a (suc b) (divisor n (suc b) (a % suc b) (omega arith))

-- a number that divides a product and has no common divisor with one factor divides the other one
pub divides_other : (a b x : ℕ) → IsGcd a b 1 → a ∣ b * x → a ∣ x
divides_other a b x h p =
    let d : Divisor a b = divisor (suc b) a b (omega arith) in
    let one : d.0 ≡ 1 = same_from_IsGcd a b d.0 1 d.1 h in
    let all : IsGcd (a * x) (b * x) (d.0 * x) = d.2 x in
    let there : a ∣ d.0 * x = all.2 a (dvd-mul_right a x) p in
    let e : d.0 * x ≡ x = ap (λ (k : ℕ). k * x) one ∙ (let f : 1 * x ≡ x = omega arith in f) in
    rw e at there

-- ---- quotients of one value
-- two positive numbers as multiples of their greatest common divisor
record AreMultiples (d e : ℕ) : Type 0 where
  g : ℕ
  a : ℕ
  b : ℕ
  d_is : a * g ≡ d
  e_is : b * g ≡ e
  some : 0 < g
  apart : IsGcd a b 1

alone : (d e g k a b : ℕ) → 0 < g → a * g ≡ d → b * g ≡ e → IsGcd d e g → k ∣ a → k ∣ b → k ∣ 1
alone d e g k a b p x y is s t =
    let in_d : k * g ∣ d = rw x at (mul-dvd-mul_right k s g) in
    let in_e : k * g ∣ e = rw y at (mul-dvd-mul_right k t g) in
    let u : k * g ∣ g = is.2 (k * g) in_d in_e in
    let one : 1 * g ≡ g = omega arith in
    let v : k * g ∣ 1 * g = rw one u in
    dvd_of_mul-dvd-mul_right k p v

multiples_of : (d e g : ℕ) → 0 < d → IsGcd d e g → AreMultiples d e
multiples_of d e g some is =
    let p : 0 < g = pos_of_dvd_of_pos is.0 some in
    let x : d / g * g ≡ d = div-mul_cancel g is.0 in
    let y : e / g * g ≡ e = div-mul_cancel g is.1 in
    record {
      g = g;
      a = d / g;
      b = e / g;
      d_is = x;
      e_is = y;
      some = p;
      apart = (one-dvd (d / g), one-dvd (e / g), λ k s t. alone d e g k (d / g) (e / g) p x y is s t);
    }

multiples : (d e : ℕ) → 0 < d → AreMultiples d e
multiples d e some = let h : Divisor d e = divisor (suc e) d e (omega arith) in multiples_of d e h.0 some h.1

cancelled : (a b g x y : ℕ) → 0 < g → a * g * y ≡ b * g * x → a * y ≡ b * x
cancelled a b g x y p e =
    let f : a * y * g ≡ b * x * g = turned a g y ∙ e ∙ sym (turned b g x) in
    sym (mul-div_cancel (a * y) p) ∙ ap (λ (n : ℕ). n / g) f ∙ mul-div_cancel (b * x) p
  where
    turned : (a g y : ℕ) → a * y * g ≡ a * g * y
    turned a g y = rw (mul_assoc a y g, mul_comm y g, mul_assoc a g y) refl

-- x over d and y over e have one value
abbrev pub HaveOneQuotient : ℕ → ℕ → ℕ → ℕ → Type 0
HaveOneQuotient d e x y = d * y ≡ e * x

pub one_denominator : (d e x0 y0 x1 y1 x2 y2 : ℕ) → 0 < d → HaveOneQuotient d e x0 y0 → HaveOneQuotient d e x1 y1 → HaveOneQuotient d e x2 y2 →
    ((k : ℕ) → k ∣ d → k ∣ x0 → k ∣ x1 → k ∣ x2 → k ≡ 1) → ((k : ℕ) → k ∣ e → k ∣ y0 → k ∣ y1 → k ∣ y2 → k ≡ 1) → d ≡ e
one_denominator d e x0 y0 x1 y1 x2 y2 some h0 h1 h2 low other =
    let m : AreMultiples d e = multiples d e some in
    let one : m.a ≡ 1 = low m.a (rw m.d_is at (dvd-mul_right m.a m.g)) (left m x0 y0 h0) (left m x1 y1 h1) (left m x2 y2 h2) in
    let two : m.b ≡ 1 = other m.b (rw m.e_is at (dvd-mul_right m.b m.g)) (right m x0 y0 h0) (right m x1 y1 h1) (right m x2 y2 h2) in
    sym m.d_is ∙ ap (λ (k : ℕ). k * m.g) (one ∙ sym two) ∙ m.e_is
  where
    product : (m : AreMultiples d e) (x y : ℕ) → d * y ≡ e * x → m.a * y ≡ m.b * x
    product m x y h = cancelled m.a m.b m.g x y m.some (rw (m.d_is, m.e_is) h)

    left : (m : AreMultiples d e) (x y : ℕ) → d * y ≡ e * x → m.a ∣ x
    left m x y h =
        let p : m.a * y ≡ m.b * x = product m x y h in
        let t : m.a ∣ m.b * x = rw p at (dvd-mul_right m.a y) in
        divides_other m.a m.b x m.apart t

    right : (m : AreMultiples d e) (x y : ℕ) → d * y ≡ e * x → m.b ∣ y
    right m x y h =
        let p : m.a * y ≡ m.b * x = product m x y h in
        let t : m.b ∣ m.a * y = rw (← p) at (dvd-mul_right m.b x) in
        divides_other m.b m.a y (m.apart.1, m.apart.0, λ k s t. m.apart.2 k t s) t
