-- Products of whole numbers are multiplied out, and inequalities are multiplied and cancelled.
use Rattle.std.proofs.Common.{◌≡◌, ℕ, ◌+◌, ◌*◌, sym, ap, ◌∙◌, arith}
use Rattle.std.specs.Prelude.{ℤ, ◌+ℤ◌, ◌-ℤ◌, ◌*ℤ◌, neg_ℤ}
use Rattle.std.proofs.lemmas.Int.{ints}
use borrow.Author.Differences.{up, down, product_is, neg_is, same_in, sum_is_lem}

pub mul_comm : (a b : ℤ) → a *ℤ b ≡ b *ℤ a
mul_comm a b = same_in _ _ (omega (arith, product_is a b, product_is b a))

pub mul_add : (a b c : ℤ) → a *ℤ (b +ℤ c) ≡ (a *ℤ b) +ℤ (a *ℤ c)
mul_add a b c =
    let s : up (b +ℤ c) + down b + down c ≡ down (b +ℤ c) + up b + up c = sum_is_lem b c in
    let e1 : up a * (up (b +ℤ c) + down b + down c) ≡ up a * (down (b +ℤ c) + up b + up c) = ap (λ (n : ℕ). up a * n) s in
    let e2 : down a * (up (b +ℤ c) + down b + down c) ≡ down a * (down (b +ℤ c) + up b + up c) = ap (λ (n : ℕ). down a * n) s in
    same_in _ _ (omega (arith, e1, e2, product_is a (b +ℤ c), product_is a b, product_is a c, sum_is_lem (a *ℤ b) (a *ℤ c)))

pub mul_neg : (a b : ℤ) → a *ℤ neg_ℤ b ≡ neg_ℤ (a *ℤ b)
mul_neg a b =
    let e1 : up a * up (neg_ℤ b) ≡ up a * down b = ap (λ (n : ℕ). up a * n) (neg_is b).0 in
    let e2 : up a * down (neg_ℤ b) ≡ up a * up b = ap (λ (n : ℕ). up a * n) (neg_is b).1 in
    let e3 : down a * up (neg_ℤ b) ≡ down a * down b = ap (λ (n : ℕ). down a * n) (neg_is b).0 in
    let e4 : down a * down (neg_ℤ b) ≡ down a * up b = ap (λ (n : ℕ). down a * n) (neg_is b).1 in
    same_in _ _ (omega (arith, e1, e2, e3, e4, product_is a b, product_is a (neg_ℤ b), neg_is (a *ℤ b)))

pub mul_assoc : (a b c : ℤ) → (a *ℤ b) *ℤ c ≡ a *ℤ (b *ℤ c)
mul_assoc a b c =
    let p = product_is a b in
    let q = product_is b c in
    let e1 : up (a *ℤ b) * up c ≡ (up a * up b + down a * down b) * up c = ap (λ (n : ℕ). n * up c) p.0 in
    let e2 : up (a *ℤ b) * down c ≡ (up a * up b + down a * down b) * down c = ap (λ (n : ℕ). n * down c) p.0 in
    let e3 : down (a *ℤ b) * up c ≡ (up a * down b + down a * up b) * up c = ap (λ (n : ℕ). n * up c) p.1 in
    let e4 : down (a *ℤ b) * down c ≡ (up a * down b + down a * up b) * down c = ap (λ (n : ℕ). n * down c) p.1 in
    let f1 : up a * up (b *ℤ c) ≡ up a * (up b * up c + down b * down c) = ap (λ (n : ℕ). up a * n) q.0 in
    let f2 : up a * down (b *ℤ c) ≡ up a * (up b * down c + down b * up c) = ap (λ (n : ℕ). up a * n) q.1 in
    let f3 : down a * up (b *ℤ c) ≡ down a * (up b * up c + down b * down c) = ap (λ (n : ℕ). down a * n) q.0 in
    let f4 : down a * down (b *ℤ c) ≡ down a * (up b * down c + down b * up c) = ap (λ (n : ℕ). down a * n) q.1 in
    same_in _ _ (omega (arith, e1, e2, e3, e4, f1, f2, f3, f4, product_is (a *ℤ b) c, product_is a (b *ℤ c)))

pub add_mul : (a b c : ℤ) → (a +ℤ b) *ℤ c ≡ (a *ℤ c) +ℤ (b *ℤ c)
add_mul a b c = mul_comm (a +ℤ b) c ∙ mul_add c a b ∙ omega (arith, ints, mul_comm c a, mul_comm c b)

pub mul_sub : (a b c : ℤ) → a *ℤ (b -ℤ c) ≡ (a *ℤ b) -ℤ (a *ℤ c)
mul_sub a b c = omega (arith, ints, mul_add a b (neg_ℤ c), mul_neg a c)

pub neg_mul : (a b : ℤ) → neg_ℤ a *ℤ b ≡ neg_ℤ (a *ℤ b)
neg_mul a b = mul_comm (neg_ℤ a) b ∙ mul_neg b a ∙ ap neg_ℤ (mul_comm b a)

pub sub_mul : (a b c : ℤ) → (a -ℤ b) *ℤ c ≡ (a *ℤ c) -ℤ (b *ℤ c)
sub_mul a b c = omega (arith, ints, add_mul a (neg_ℤ b) c, neg_mul b c)

pub mul_left_comm : (a b c : ℤ) → a *ℤ (b *ℤ c) ≡ b *ℤ (a *ℤ c)
mul_left_comm a b c = sym (mul_assoc a b c) ∙ ap (λ (n : ℤ). n *ℤ c) (mul_comm a b) ∙ mul_assoc b a c

-- multiplies out, and sorts the factors
pub ruleset ring = (mul_add, mul_sub, mul_neg, add_mul, sub_mul, neg_mul, mul_assoc, mul_comm, mul_left_comm)

square_of_sum : (a b : ℤ) → (a +ℤ b) *ℤ (a +ℤ b) ≡ ((a *ℤ a) +ℤ ((a *ℤ b) +ℤ (a *ℤ b))) +ℤ (b *ℤ b)
square_of_sum a b = simp ring (omega (arith, ints))
