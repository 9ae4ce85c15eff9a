-- The ids and names of a sky keep their rules.
use Rattle.std.proofs.Common.{◌≡◌, ℕ, ◌^◌, ◌<◌, ◌≤◌, Bool, true, ◌&&◌, List, [], ◌∷◌, ◌++◌, length, refl, sym, ◌∙◌, arith, nat_lt, nat_le, codes, length-append, append_assoc, subst, Result, Ok, Err, IfOk}
use Rattle.std.specs.Prelude.{decimal}
use Rattle.std.specs.List.{list_all}
use Rattle.std.specs.Char.{is_ascii_digit}
use Rattle.std.proofs.lemmas.Fmt.{length-decimal-le}
use Rattle.std.proofs.lemmas.List.Folds.{list_all-append}
use Rattle.std.proofs.lemmas.Bool.Decides.{nat_tests}
use Rattle.miti_text.specs.Observation.{is_visible, is_id, is_name}
use Rattle.miti_text.proofs.DigitTexts.{both_true}
use Rattle.miti_text.proofs.Digits.{decimal_all}
use Rattle.made_sky.specs.Motions.{id_of, name_of}

digit_seen : (b : ℕ) → is_ascii_digit b ≡ true → is_visible b ≡ true
digit_seen b h = grind (arith, nat_tests)

digits_seen : (ds : List ℕ) → list_all is_ascii_digit ds ≡ true → list_all is_visible ds ≡ true
digits_seen [] all = refl
digits_seen (d ∷ ds) all =
    let parts = both_true (is_ascii_digit d) (list_all is_ascii_digit ds) all in rw (digit_seen d parts.0, digits_seen ds parts.1) refl

-- a number's text: some visible bytes, at most ten
record Shown (text : List ℕ) : Type 0 where
  seen : list_all is_visible text ≡ true
  short : length text ≤ 10

number_shown : (n : ℕ) → n < 2 ^ 32 → Shown (decimal n)
number_shown n small =
    let wide : n < 2 ^ 64 = omega arith in
    record { seen = digits_seen (decimal n) (decimal_all n wide).1; short = length-decimal-le 10 n (omega arith) (omega arith) wide }

two_seen : (xs ys : List ℕ) → list_all is_visible xs ≡ true → list_all is_visible ys ≡ true → list_all is_visible (xs ++ ys) ≡ true
two_seen xs ys hx hy = list_all-append is_visible xs ys ∙ rw (hx, hy) refl

all_true : (a b c : Bool) → a ≡ true → b ≡ true → c ≡ true → ((a && b) && c) ≡ true
all_true a b c ha hb hc = rw (ha, hb, hc) refl

id_keeps : (a b c : List ℕ) → Shown a → Shown b → Shown c → is_id (codes "g" ++ a ++ codes "n" ++ b ++ codes "e" ++ c) ≡ true
id_keeps a b c sa sb sc =
    let word = codes "g" ++ a ++ codes "n" ++ b ++ codes "e" ++ c in
    let l1 = length-append (codes "g") a in
    let l2 = length-append (codes "g" ++ a) (codes "n") in
    let l3 = length-append (codes "g" ++ a ++ codes "n") b in
    let l4 = length-append (codes "g" ++ a ++ codes "n" ++ b) (codes "e") in
    let l5 = length-append (codes "g" ++ a ++ codes "n" ++ b ++ codes "e") c in
    let seen : list_all is_visible word ≡ true =
    two_seen (codes "g" ++ a ++ codes "n" ++ b ++ codes "e") c
    (two_seen (codes "g" ++ a ++ codes "n" ++ b) (codes "e")
    (two_seen (codes "g" ++ a ++ codes "n") b (two_seen (codes "g" ++ a) (codes "n") (two_seen (codes "g") a refl sa.seen) refl) sb.seen) refl) sc.seen in
    let short : length word ≤ 64 = omega (arith, l1, l2, l3, l4, l5, sa.short, sb.short, sc.short) in
    let some : 0 < length word = omega (arith, l1, l2, l3, l4, l5) in
    rw (all_true (nat_lt 0 (length word)) (list_all is_visible word) (nat_le (length word) 64) (grind (arith, nat_tests, some)) seen (grind (arith, nat_tests, short))) refl

pub id_is : (night exposure object : ℕ) → night < 2 ^ 32 → exposure < 2 ^ 32 → object < 2 ^ 32 → is_id (id_of night exposure object) ≡ true
id_is night exposure object n e o = id_keeps (decimal object) (decimal night) (decimal exposure) (number_shown object o) (number_shown night n) (number_shown exposure e)

name_keeps : (a : List ℕ) → Shown a → is_name (codes "obj" ++ a) ≡ true
name_keeps a sa =
    let word = codes "obj" ++ a in
    let l1 = length-append (codes "obj") a in
    let short : length word ≤ 64 = omega (arith, l1, sa.short) in
    let some : 0 < length word = omega (arith, l1) in
    all_true (nat_lt 0 (length word)) (list_all is_visible word) (nat_le (length word) 64) (grind (arith, nat_tests, some)) (two_seen (codes "obj") a refl sa.seen) (grind (arith, nat_tests, short))

pub name_is : (object : ℕ) → object < 2 ^ 32 → is_name (name_of object) ≡ true
name_is object o = name_keeps (decimal object) (number_shown object o)

regrouped : (g a n b e c : List ℕ) → g ++ (a ++ (n ++ (b ++ (e ++ c)))) ≡ g ++ a ++ n ++ b ++ e ++ c
regrouped g a n b e c = simp append_assoc refl

-- the id, as the code's format writes it
pub id_written : (night exposure object : ℕ) → codes "g" ++ (decimal object ++ (codes "n" ++ (decimal night ++ (codes "e" ++ decimal exposure)))) ≡ id_of night exposure object
id_written night exposure object = regrouped (codes "g") (decimal object) (codes "n") (decimal night) (codes "e") (decimal exposure)

-- what holds of a value holds of an answer that is this value
pub if_ok_is : {X E : Type 0} (P : X → Type 0) (r : Result X E) (z : X) → P z → IfOk r (λ w. w ≡ z) → IfOk r P
if_ok_is P (Ok w) z h e = subst P (sym e) h
if_ok_is P (Err error) z h e = e
