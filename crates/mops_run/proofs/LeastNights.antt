-- The least night of some detections: it is only one, and where there is a detection there is one.
use Rattle.std.proofs.Common.{◌≡◌, ℕ, ◌+◌, ◌<◌, ℤ, ◌≤ℤ◌, ◌++◌, List, [], ◌∷◌, length, take, get_or, refl, sym, ◌∙◌, ap, subst, append_assoc, append-nil, arith, Bool, true, false, cond, inl, inr}
use Rattle.std.specs.Prelude.{◌⊎◌, int_lt}
use Rattle.std.specs.List.{Contains}
use Rattle.std.specs.Int.{int_min}
use Rattle.std.proofs.lemmas.Int.{ints, clamps}
use Rattle.std.proofs.lemmas.List.{take_more}
use Rattle.std.proofs.lemmas.List.Elements.{Contains-append_left, Contains-push, Contains-push_cases}
use Rattle.sky_math.specs.Night.{night_at}
use Rattle.sky_math.proofs.Days.{time_of_night}
use Rattle.sky_units.specs.Ranges.{IsEpoch}
use Rattle.sky_units.specs.SettingRanges.{IsNightShift}
use Rattle.miti_text.specs.Observation.{Observation}
use Rattle.mops_run.specs.Linking.{IsLeastNight, IsNearNight}

squeezed : (a b : ℤ) → a ≤ℤ b → b ≤ℤ a → a ≡ b
squeezed a b h k = omega (arith, ints)

pub least_night_is_unique : (shift : ℤ) (ds : List Observation) (one other : ℤ) → IsLeastNight shift ds one → IsLeastNight shift ds other → one ≡ other
least_night_is_unique shift ds one other a b =
    let below : one ≤ℤ other = subst (λ (n : ℤ). one ≤ℤ n) (sym b.among.2) (a.least b.among.0 b.among.1) in
    let above : other ≤ℤ one = subst (λ (n : ℤ). other ≤ℤ n) (sym a.among.2) (b.least a.among.0 a.among.1) in
    squeezed one other below above

none_in_empty : (e : Observation) → Contains [] e → ⊥
none_in_empty e c = omega (arith, c.1)

-- of one detection
pub least_of_one : (shift : ℤ) (d : Observation) → IsLeastNight shift (d ∷ []) (night_at shift d.epoch)
least_of_one shift d = record {
  among = (d, Contains-push [] d, refl);
  least = λ e c. elim (Contains-push_cases [] d e c) [
    | inl in_none ↦ absurd (none_in_empty e in_none)
    | inr same ↦ subst (λ (x : Observation). night_at shift d.epoch ≤ℤ night_at shift x.epoch) same (itself (night_at shift d.epoch))
  ];
}
  where
    itself : (n : ℤ) → n ≤ℤ n
    itself n = omega (arith, ints)

later : (a b c : ℤ) → a ≤ℤ b → b ≤ℤ c → a ≤ℤ c
later a b c h k = omega (arith, ints)

-- and of one more
pub least_of_more : (shift : ℤ) (ds : List Observation) (d : Observation) (n m : ℤ) → IsLeastNight shift ds n → (m ≡ n) ⊎ (m ≡ night_at shift d.epoch)
    → m ≤ℤ n → m ≤ℤ night_at shift d.epoch → IsLeastNight shift (ds ++ d ∷ []) m
least_of_more shift ds d n m least either below_n below_d = record {
  among = elim either [
    | inl same ↦ (least.among.0, Contains-append_left ds (d ∷ []) least.among.0 least.among.1, same ∙ least.among.2)
    | inr same ↦ (d, Contains-push ds d, same)
  ];
  least = λ e c. elim (Contains-push_cases ds d e c) [
    | inl in_front ↦ later m n (night_at shift e.epoch) below_n (least.least e in_front)
    | inr same ↦ subst (λ (x : Observation). m ≤ℤ night_at shift x.epoch) same below_d
  ];
}

-- the lesser of two numbers is one of them
pub lesser_is_one : (a b : ℤ) → (int_min a b ≡ a) ⊎ (int_min a b ≡ b)
lesser_is_one a b = by_test (int_lt b a)
  where
    by_test : (t : Bool) → (cond t b a ≡ a) ⊎ (cond t b a ≡ b)
    by_test true = inr refl
    by_test false = inl refl

pub lesser_below_one : (a b : ℤ) → int_min a b ≤ℤ a
lesser_below_one a b = omega (arith, ints, clamps)

pub lesser_below_other : (a b : ℤ) → int_min a b ≤ℤ b
lesser_below_other a b = omega (arith, ints, clamps)

-- the least night of a detection and some others, and of one more
pub least_with : (shift : ℤ) (first : Observation) (rest : List Observation) (i : ℕ) (d : Observation) (n x m : ℤ) → i < length rest → d ≡ get_or rest i d
    → IsLeastNight shift (first ∷ take i rest) n → x ≡ night_at shift d.epoch → m ≡ int_min n x → IsLeastNight shift (first ∷ take (i + 1) rest) m
least_with shift first rest i d n x m h at least is lesser =
    let taken : take (i + 1) rest ≡ take i rest ++ d ∷ [] = take_more rest i d h ∙ ap (λ y. take i rest ++ y ∷ []) (sym at) in
    let either : (m ≡ n) ⊎ (m ≡ night_at shift d.epoch) = elim (lesser_is_one n x) [
      | inl one ↦ inl (lesser ∙ one)
      | inr other ↦ inr (lesser ∙ other ∙ is)
    ] in
    let below_n : m ≤ℤ n = subst (λ (k : ℤ). k ≤ℤ n) (sym lesser) (lesser_below_one n x) in
    let below_x : m ≤ℤ x = subst (λ (k : ℤ). k ≤ℤ x) (sym lesser) (lesser_below_other n x) in
    subst (λ ds. IsLeastNight shift (first ∷ ds) m) (sym taken) (least_of_more shift (first ∷ take i rest) d n m least either below_n (subst (λ (k : ℤ). m ≤ℤ k) is below_x))

pub least_is_near : (n x m : ℤ) → IsNearNight n → IsNearNight x → m ≡ int_min n x → IsNearNight m
least_is_near n x m a b lesser = elim (lesser_is_one n x) [
  | inl one ↦ subst IsNearNight (sym (lesser ∙ one)) a
  | inr other ↦ subst IsNearNight (sym (lesser ∙ other)) b
]

-- an epoch's night is near
pub night_is_near : (shift epoch : ℤ) → IsEpoch epoch → IsNightShift shift → IsNearNight (night_at shift epoch)
night_is_near shift epoch e s =
    let day = time_of_night shift epoch in
    record {
      from = omega (arith, ints, day.until, e.from, s.from);
      to = omega (arith, ints, day.from, e.to, s.to);
    }

-- detections have a least night
pub least_night_exists : (shift : ℤ) (d : Observation) (ds : List Observation) → (n : ℤ) × IsLeastNight shift (d ∷ ds) n
least_night_exists shift d ds = behind (d ∷ []) ds (night_at shift d.epoch) (least_of_one shift d)
  where
    behind : (front back : List Observation) (n : ℤ) → IsLeastNight shift front n → (m : ℤ) × IsLeastNight shift (front ++ back) m
    behind front [] n least = (n, subst (λ xs. IsLeastNight shift xs n) (sym (append-nil front)) least)
    behind front (e ∷ back) n least =
        let x : ℤ = night_at shift e.epoch in
        let more : IsLeastNight shift (front ++ e ∷ []) (int_min n x) = least_of_more shift front e n (int_min n x) least (lesser_is_one n x) (lesser_below_one n x) (lesser_below_other n x) in
        let all = behind (front ++ e ∷ []) back (int_min n x) more in
        (all.0, subst (λ xs. IsLeastNight shift xs all.0) (append_assoc front (e ∷ []) back) all.1)
