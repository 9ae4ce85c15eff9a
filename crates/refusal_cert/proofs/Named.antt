-- Spots named by their numbers.
use Rattle.std.proofs.Common.{◌≡◌, ℕ, ◌+◌, ◌<◌, ◌≤◌, pos, Bool, true, false, List, [], ◌∷◌, ◌↔◌, length, get_or, refl, sym, subst, ap, ◌∙◌, arith}
use Rattle.std.proofs.lemmas.Bool.{cases_order, false≢true}
use Rattle.std.proofs.lemmas.Option.{slice_get-get_or}
use Rattle.std.specs.Prelude.{Some, None, IsTrue, not}
use mathlib.Core.Logic.{inl, inr}
use Rattle.sky_units.specs.SettingsData.{SettingsData}
use Rattle.sky_units.specs.SpotData.{SpotData}
use Rattle.sky_units.specs.declared.axis.Axis.{Axis}
use Rattle.refusal_cert.specs.Certificates.{AdmitsAt, AreShown, ArePlaces, HaveDifferentNumbers, IsPlaceOf, numbers_at}

-- any spot, for a place where there is none
abbrev pub nowhere : SpotData
nowhere = record { num = 0; epoch = pos 0; ra = pos 0; dec = pos 0 }

-- the numbers at a place and those behind it
pub named_at : (spots : List SpotData) (p : ℕ) (places : List ℕ) → p < length spots → numbers_at spots (p ∷ places) ≡ (get_or spots p nowhere).num ∷ numbers_at spots places
named_at spots p places h = rw (slice_get-get_or spots p nowhere h) refl

pub named_three : (spots : List SpotData) (i j k a b c : ℕ) → i < length spots → j < length spots → k < length spots → a ≡ (get_or spots i nowhere).num → b ≡ (get_or spots j nowhere).num → c ≡ (get_or spots k nowhere).num → a ∷ b ∷ c ∷ [] ≡ numbers_at spots (i ∷ j ∷ k ∷ [])
named_three spots i j k a b c il jl kl ea eb ec = rw (ea, eb, ec, slice_get-get_or spots i nowhere il, slice_get-get_or spots j nowhere jl, slice_get-get_or spots k nowhere kl) refl

pub named_four : (spots : List SpotData) (i j k l a b c e : ℕ) → i < length spots → j < length spots → k < length spots → l < length spots → a ≡ (get_or spots i nowhere).num → b ≡ (get_or spots j nowhere).num → c ≡ (get_or spots k nowhere).num → e ≡ (get_or spots l nowhere).num → a ∷ b ∷ c ∷ e ∷ [] ≡ numbers_at spots (i ∷ j ∷ k ∷ l ∷ [])
named_four spots i j k l a b c e il jl kl ll ea eb ec ee = rw (ea, eb, ec, ee, slice_get-get_or spots i nowhere il, slice_get-get_or spots j nowhere jl, slice_get-get_or spots k nowhere kl, slice_get-get_or spots l nowhere ll) refl

-- ---- rising places from `from` on with these numbers
pub record AreNamed (spots : List SpotData) (from : ℕ) (numbers places : List ℕ) : Type 0 where
  pub rising : ArePlaces from (length spots) places
  pub named : numbers ≡ numbers_at spots places

heads : (a b : ℕ) (xs ys : List ℕ) → a ∷ xs ≡ b ∷ ys → (a ≡ b) × (xs ≡ ys)
heads a b xs ys e = (cc, cc)

-- the first of them, and the others behind it
record Begins (spots : List SpotData) (from a : ℕ) (rest places : List ℕ) : Type 0 where
  place : ℕ
  others : List ℕ
  is : places ≡ place ∷ others
  low : from ≤ place
  high : place < length spots
  number : a ≡ (get_or spots place nowhere).num
  behind : AreNamed spots (place + 1) rest others

begins : (spots : List SpotData) (from a : ℕ) (rest places : List ℕ) → AreNamed spots from (a ∷ rest) places → Begins spots from a rest places
begins spots from a rest [] n = absurd (cons_is_not_nil a rest n.named)
  where
    cons_is_not_nil : (a : ℕ) (xs : List ℕ) → a ∷ xs ≡ [] → ⊥
    cons_is_not_nil a xs e = cc
begins spots from a rest (p ∷ ps) n =
    let h = heads a (get_or spots p nowhere).num rest (numbers_at spots ps) (n.named ∙ named_at spots p ps n.rising.1) in
    record { place = p; others = ps; is = refl; low = n.rising.0; high = n.rising.1; number = h.0; behind = record { rising = n.rising.2; named = h.1 } }

pub not_named : (spots : List SpotData) (from a : ℕ) (rest places : List ℕ) → IsPlaceOf spots from a None → AreNamed spots from (a ∷ rest) places → ⊥
not_named spots from a rest places none n =
    let b = begins spots from a rest places n in
    none b.place nowhere b.low b.high (sym b.number)

same_place : (spots : List SpotData) (i p : ℕ) → HaveDifferentNumbers spots → i < length spots → p < length spots → (get_or spots i nowhere).num ≡ (get_or spots p nowhere).num → p ≡ i
same_place spots i p different il pl e = elim (cases_order i p) as (λ _. p ≡ i) [
  | inl same ↦ sym same
  | inr c ↦ elim c as (λ _. p ≡ i) [
    | inl less ↦ absurd (different i p nowhere less pl e)
    | inr more ↦ absurd (different p i nowhere more il (sym e))
  ]
]

-- the others, where the first is the place that was found
pub record GoOn (spots : List SpotData) (i : ℕ) (rest places : List ℕ) : Type 0 where
  pub others : List ℕ
  pub is : places ≡ i ∷ others
  pub behind : AreNamed spots (i + 1) rest others

pub go_on : (spots : List SpotData) (from a i : ℕ) (rest places : List ℕ) → HaveDifferentNumbers spots → IsPlaceOf spots from a (Some i) → AreNamed spots from (a ∷ rest) places → GoOn spots i rest places
go_on spots from a i rest places different found n =
    let b = begins spots from a rest places n in
    let e : b.place ≡ i = same_place spots i b.place different found.1 b.high (found.2 nowhere ∙ b.number) in
    record {
      others = b.others;
      is = b.is ∙ ap (λ (p : ℕ). p ∷ b.others) e;
      behind = subst (λ (p : ℕ). AreNamed spots (p + 1) rest b.others) e b.behind;
    }

-- ---- three and four numbers
pub three_numbers : (xs : List ℕ) → length xs ≡ 3 → xs ≡ get_or xs 0 0 ∷ get_or xs 1 0 ∷ get_or xs 2 0 ∷ []
three_numbers [] e = absurd (omega (arith, e))
three_numbers (a ∷ []) e = absurd (omega (arith, e))
three_numbers (a ∷ b ∷ []) e = absurd (omega (arith, e))
three_numbers (a ∷ b ∷ c ∷ []) e = refl
three_numbers (a ∷ b ∷ c ∷ d ∷ rest) e = absurd (omega (arith, e))

pub four_numbers : (xs : List ℕ) → length xs ≡ 4 → xs ≡ get_or xs 0 0 ∷ get_or xs 1 0 ∷ get_or xs 2 0 ∷ get_or xs 3 0 ∷ []
four_numbers [] e = absurd (omega (arith, e))
four_numbers (a ∷ []) e = absurd (omega (arith, e))
four_numbers (a ∷ b ∷ []) e = absurd (omega (arith, e))
four_numbers (a ∷ b ∷ c ∷ []) e = absurd (omega (arith, e))
four_numbers (a ∷ b ∷ c ∷ d ∷ []) e = refl
four_numbers (a ∷ b ∷ c ∷ d ∷ f ∷ rest) e = absurd (omega (arith, e))

-- the shown spots stand at such places
pub named_of : (axis : Axis) (settings : SettingsData) (spots : List SpotData) (numbers same : List ℕ) → numbers ≡ same → (s : AreShown axis settings spots numbers) → AreNamed spots 0 same s.places
named_of axis settings spots numbers same e s = record { rising = s.rising; named = sym e ∙ s.named }

-- a list ends with its last number
pub no_more : (spots : List SpotData) (from : ℕ) (places : List ℕ) → AreNamed spots from [] places → places ≡ []
no_more spots from [] n = refl
no_more spots from (p ∷ ps) n = absurd (nil_is_not_cons (get_or spots p nowhere).num (numbers_at spots ps) (n.named ∙ named_at spots p ps n.rising.1))
  where
    nil_is_not_cons : (a : ℕ) (xs : List ℕ) → [] ≡ a ∷ xs → ⊥
    nil_is_not_cons a xs e = cc

-- ---- what a check tells
-- the test of the spots at places tells whether those of the numbers are shown
pub told_at : (axis : Axis) (settings : SettingsData) (spots : List SpotData) (numbers places : List ℕ) (test : Bool) → ArePlaces 0 (length spots) places → numbers ≡ numbers_at spots places → (IsTrue test ↔ AdmitsAt axis settings spots places) →
    ((s : AreShown axis settings spots numbers) → s.places ≡ places) → IsTrue (not test) ↔ AreShown axis settings spots numbers
told_at axis settings spots numbers places true rising named test sole = (
  λ h. absurd (false≢true h),
  λ s. absurd (s.refused (subst (AdmitsAt axis settings spots) (sym (sole s)) (test.0 refl))),
)
told_at axis settings spots numbers places false rising named test sole = (
  λ h. record { places = places; rising = rising; named = named; refused = λ w. false≢true (test.1 w) },
  λ s. refl,
)

pub none_shown : (Shown : Type 0) → (Shown → ⊥) → IsTrue false ↔ Shown
none_shown Shown never = (λ h. absurd (false≢true h), λ s. absurd (never s))
