-- Each two partners that may be of one object pay for the test of their pair.
use Rattle.std.proofs.Common.{◌≡◌, ℕ, ◌+◌, ◌<◌, List, [], ◌∷◌, ◌++◌, length, get_or, take, drop, zero, suc, refl, sym, subst, ap, ◌∙◌, arith}
use Rattle.std.proofs.lemmas.Bool.{cases_lt}
use Rattle.std.proofs.lemmas.List.{take-append-drop, take_more}
use Rattle.std.proofs.lemmas.List.Elements.{Contains-append_left, Contains-get_or, Contains-push}
use Rattle.std.specs.List.{Contains}
use mathlib.Core.Logic.{◌⊎◌, inl, inr}
use Rattle.closed_sets.specs.Counting.{AreDifferent, IsPaid}
use Rattle.closed_sets.proofs.Paying.{paid_as, paid_none, paid_then}
use Rattle.set_grow.specs.Partners.{IsTestedAmong, IsTestedOf, IsTestedWith, ordered, partner_numbers}
use Rattle.set_grow.specs.SkyData.{SkyData}
use Rattle.set_grow.specs.declared.partners.Partner.{Partner}
use Rattle.set_grow.proofs.Members.{front_or_rest, in_front, in_mapped, in_none, in_rest}
use Rattle.set_grow.proofs.Pairing.{HoldsPairs, ordered_less, ordered_more}

abbrev number_of : Partner → ℕ
number_of partner = partner.number

-- ---- two numbers in order tell which two they are
abbrev SameTwo : ℕ → ℕ → ℕ → ℕ → Type 0
SameTwo a b c d = ((a ≡ c) × (b ≡ d)) ⊎ ((a ≡ d) × (b ≡ c))

first_same : (p q : ℕ × ℕ) → p ≡ q → p.0 ≡ q.0
first_same p q e = ap (λ (r : ℕ × ℕ). r.0) e

second_same : (p q : ℕ × ℕ) → p ≡ q → p.1 ≡ q.1
second_same p q e = ap (λ (r : ℕ × ℕ). r.1) e

ordered_tells : (a b c d : ℕ) → ordered a b ≡ ordered c d → SameTwo a b c d
ordered_tells a b c d e = elim (cases_lt a b) [
  | inl l ↦ elim (cases_lt c d) [
    | inl m ↦ (let same = sym (ordered_less a b l) ∙ (e ∙ ordered_less c d m) in inl (first_same (a, b) (c, d) same, second_same (a, b) (c, d) same))
    | inr m ↦ (let same = sym (ordered_less a b l) ∙ (e ∙ ordered_more c d m) in inr (first_same (a, b) (d, c) same, second_same (a, b) (d, c) same))
  ]
  | inr l ↦ elim (cases_lt c d) [
    | inl m ↦ (let same = sym (ordered_more a b l) ∙ (e ∙ ordered_less c d m) in inr (second_same (b, a) (c, d) same, first_same (b, a) (c, d) same))
    | inr m ↦ (let same = sym (ordered_more a b l) ∙ (e ∙ ordered_more c d m) in inl (second_same (b, a) (d, c) same, first_same (b, a) (d, c) same))
  ]
]

other_same : (a b d : ℕ) → ordered a b ≡ ordered a d → b ≡ d
other_same a b d e = elim (ordered_tells a b a d e) [ inl w ↦ w.1 | inr w ↦ w.1 ∙ w.0 ]

-- ---- one partner and others
-- one that stands behind others is none of them
none_before : (others : List Partner) (i : ℕ) (d b : Partner) → AreDifferent (partner_numbers others) → i < length others → Contains (take i others) b → ¬ (b.number ≡ (get_or others i d).number)
none_before [] i d b differ l c = λ e. absurd (omega (arith, l))
none_before (x ∷ others) zero d b differ l c = λ e. absurd (in_none b c)
none_before (x ∷ others) (suc i) d b differ l c = elim (front_or_rest x (take i others) b c) [
  | inl f ↦ λ e. differ.0 (subst (Contains (partner_numbers others)) (sym (ap number_of f ∙ e)) (in_mapped number_of others (get_or others i d) (there others i d (omega (arith, l)))))
  | inr k ↦ none_before others i d b differ.1 (omega (arith, l)) k
]
  where
    there : (xs : List Partner) (i : ℕ) (d : Partner) → i < length xs → Contains xs (get_or xs i d)
    there xs i d l = Contains-get_or xs i d l

tested_apart : (sky : SkyData) (one other : Partner) (before : List Partner) (pair : ℕ × ℕ) → ((b : Partner) → Contains before b → ¬ (b.number ≡ other.number)) → IsTestedWith sky one before pair → ¬ IsTestedOf sky one other pair
tested_apart sky one other before pair differ w = λ t. differ w.0 w.1 (other_same one.number w.0.number other.number (sym w.2.is ∙ t.is))

-- one partner more
pub paid_more : (sky : SkyData) (one other : Partner) (before : List Partner) (first second third : ℕ) → ((b : Partner) → Contains before b → ¬ (b.number ≡ other.number)) → IsPaid (IsTestedWith sky one before) 1 0 first second → IsPaid (IsTestedOf sky one other) 1 0 second third → IsPaid (IsTestedWith sky one (before ++ other ∷ [])) 1 0 first third
paid_more sky one other before first second third differ p q =
    paid_then (IsTestedWith sky one before) (IsTestedOf sky one other) (IsTestedWith sky one (before ++ other ∷ [])) 1 0 0 0 first second third
    (λ pair w. (w.0, Contains-append_left before (other ∷ []) w.0 w.1, w.2))
    (λ pair t. (other, Contains-push before other, t))
    (λ pair w. tested_apart sky one other before pair differ w)
    (omega arith) p q

-- the next of a list
pub paid_next : (sky : SkyData) (one other : Partner) (others : List Partner) (i first second third : ℕ) → AreDifferent (partner_numbers others) → i < length others → other ≡ get_or others i other → IsPaid (IsTestedWith sky one (take i others)) 1 0 first second → IsPaid (IsTestedOf sky one other) 1 0 second third → IsPaid (IsTestedWith sky one (take (i + 1) others)) 1 0 first third
paid_next sky one other others i first second third differ l is p q =
    let whole : take (i + 1) others ≡ take i others ++ other ∷ [] = take_more others i other l ∙ ap (λ (x : Partner). take i others ++ x ∷ []) (sym is) in
    let apart : (b : Partner) → Contains (take i others) b → ¬ (b.number ≡ other.number) = λ b c e. none_before others i other b differ l c (e ∙ ap number_of is) in
    subst (λ (list : List Partner). IsPaid (IsTestedWith sky one list) 1 0 first third) (sym whole) (paid_more sky one other (take i others) first second third apart p q)

-- some of a list are of it
pub paid_part : (sky : SkyData) (one : Partner) (others : List Partner) (i first second : ℕ) → IsPaid (IsTestedWith sky one (take i others)) 1 0 first second → IsPaid (IsTestedWith sky one others) 1 0 first second
paid_part sky one others i first second p =
    paid_as (IsTestedWith sky one (take i others)) (IsTestedWith sky one others) 1 0 0 first second
    (λ pair w. (w.0, subst (λ (list : List Partner). Contains list w.0) (take-append-drop i others) (Contains-append_left (take i others) (drop i others) w.0 w.1), w.2)) (omega arith) p

pub paid_nothing : (sky : SkyData) (one : Partner) (others : List Partner) (count : ℕ) → IsPaid (IsTestedWith sky one others) 1 0 count count
paid_nothing sky one others count = paid_none (IsTestedWith sky one others) 1 count count refl

-- ---- all partners: those of which each pair is done
abbrev pub IsTestedBefore : SkyData → List Partner → List Partner → ℕ × ℕ → Type 0
IsTestedBefore sky partners rest pair = IsTestedAmong sky partners pair × (¬ IsTestedAmong sky rest pair)

not_among : (sky : SkyData) (number : ℕ) (others : List Partner) (pair : ℕ × ℕ) (x : ℕ) → ¬ Contains (partner_numbers others) number → pair ≡ ordered number x → ¬ IsTestedAmong sky others pair
not_among sky number [] pair x none is = λ h. h
not_among sky number (y ∷ others) pair x none is = λ h. elim h [
  | inl w ↦ elim (ordered_tells number x y.number w.0.number (sym is ∙ w.2.is)) [
    | inl s ↦ none (subst (Contains (partner_numbers (y ∷ others))) (sym s.0) (in_front y.number (partner_numbers others)))
    | inr s ↦ none (subst (Contains (partner_numbers (y ∷ others))) (sym s.0) (in_rest y.number (partner_numbers others) w.0.number (in_mapped number_of others w.0 w.1)))
  ]
  | inr k ↦ not_among sky number others pair x (λ c. none (in_rest y.number (partner_numbers others) number c)) is k
]

-- the pairs of the first of those that are left
pub paid_with : (sky : SkyData) (partners : List Partner) (one : Partner) (others rest : List Partner) (first second third : ℕ) → rest ≡ one ∷ others → AreDifferent (partner_numbers rest) → ((pair : ℕ × ℕ) → IsTestedAmong sky rest pair → IsTestedAmong sky partners pair) →
    IsPaid (IsTestedBefore sky partners rest) 1 0 first second → IsPaid (IsTestedWith sky one others) 1 0 second third → IsPaid (IsTestedBefore sky partners others) 1 0 first third
paid_with sky partners one others rest first second third e differ inside p q =
    let d : AreDifferent (partner_numbers (one ∷ others)) = subst (λ (list : List Partner). AreDifferent (partner_numbers list)) e differ in
    let i : (pair : ℕ × ℕ) → IsTestedAmong sky (one ∷ others) pair → IsTestedAmong sky partners pair = subst (λ (list : List Partner). (pair : ℕ × ℕ) → IsTestedAmong sky list pair → IsTestedAmong sky partners pair) e inside in
    let a : IsPaid (IsTestedBefore sky partners (one ∷ others)) 1 0 first second = subst (λ (list : List Partner). IsPaid (IsTestedBefore sky partners list) 1 0 first second) e p in
    paid_then (IsTestedBefore sky partners (one ∷ others)) (IsTestedWith sky one others) (IsTestedBefore sky partners others) 1 0 0 0 first second third
    (λ pair w. (w.0, λ k. w.1 (inr k)))
    (λ pair w. (i pair (inl w), not_among sky one.number others pair w.0.number d.0 w.2.is))
    (λ pair w v. w.1 (inl v))
    (omega arith) a q

pub paid_of_all : (sky : SkyData) (partners rest : List Partner) (first second : ℕ) → IsPaid (IsTestedBefore sky partners rest) 1 0 first second → IsPaid (IsTestedAmong sky partners) 1 0 first second
paid_of_all sky partners rest first second p = paid_as (IsTestedBefore sky partners rest) (IsTestedAmong sky partners) 1 0 0 first second (λ pair w. w.0) (omega arith) p

pub paid_of_none : (sky : SkyData) (partners : List Partner) (count : ℕ) → IsPaid (IsTestedBefore sky partners partners) 1 0 count count
paid_of_none sky partners count = paid_none (IsTestedBefore sky partners partners) 1 count count refl

-- what holds while partners are left
pub record AreLeft (sky : SkyData) (partners rest : List Partner) (before after : ℕ) : Type 0 where
  pub inside : (pair : ℕ × ℕ) → IsTestedAmong sky rest pair → IsTestedAmong sky partners pair
  pub paid : IsPaid (IsTestedBefore sky partners rest) 1 0 before after

pub all_left : (sky : SkyData) (partners : List Partner) (count : ℕ) → AreLeft sky partners partners count count
all_left sky partners count = record { inside = λ pair h. h; paid = paid_of_none sky partners count }

pub one_fewer : (sky : SkyData) (partners : List Partner) (one : Partner) (others rest : List Partner) (first second third : ℕ) → rest ≡ one ∷ others → AreDifferent (partner_numbers rest) → AreLeft sky partners rest first second → IsPaid (IsTestedWith sky one others) 1 0 second third → AreLeft sky partners others first third
one_fewer sky partners one others rest first second third e differ a q = record {
  inside = λ pair h. a.inside pair (subst (λ (list : List Partner). IsTestedAmong sky list pair) (sym e) (inr h));
  paid = paid_with sky partners one others rest first second third e differ a.inside a.paid q;
}

-- pairs of one partner that are pushed, and what their tests cost
pub record ArePushed (sky : SkyData) (item : ℕ) (one : Partner) (others : List Partner) (old new : List (ℕ × ℕ)) (before after : ℕ) : Type 0 where
  pub pairs : HoldsPairs sky item one others old new
  pub paid : IsPaid (IsTestedWith sky one others) 1 0 before after
