-- The line of a detection reads as the detection.
use Rattle.std.proofs.Common.{◌≡◌, ℕ, ◌/◌, ◌^◌, ◌<◌, ◌≤◌, Bool, true, false, not, ◌&&◌, List, [], ◌∷◌, ◌++◌, length, refl, ap, ◌∙◌, arith, nat_lt, nat_le, length-append, append_assoc, ℤ, Ok, w64, to_z, of_z}
use Rattle.std.specs.Prelude.{decimal, unsigned_abs}
use Rattle.std.specs.Int.{is_negative}
use Rattle.std.specs.Fmt.{sign_text}
use Rattle.std.specs.List.{list_all, join_with_byte}
use Rattle.std.specs.Char.{is_ascii_digit}
use Rattle.std.proofs.Math.Nat.{div-le_self}
use Rattle.std.proofs.lemmas.Fmt.{length-decimal-le}
use Rattle.std.proofs.lemmas.Int.{to_z-of_z, fits_signed_from_abs}
use Rattle.std.proofs.lemmas.List.Folds.{list_all-append}
use Rattle.std.proofs.lemmas.Bool.Decides.{nat_tests}
use Rattle.miti_text.specs.Quantities.{places, IsKept}
use Rattle.miti_text.specs.Observation.{Observation, IsDetection, is_visible, is_shown, is_word, begins_other_line}
use Rattle.miti_text.specs.Lines.{detection_of, fields_of}
use Rattle.miti_text.specs.Written.{decimal_text, last_digits, line_of}
use Rattle.miti_text.specs.declared.quantities.Quantity.{Quantity}
use Rattle.miti_text.specs.declared.quantities.Quantity.TheVariants as quantities
use Rattle.miti_text.proofs.DigitTexts.{both_true}
use Rattle.miti_text.proofs.Digits.{last_all, last_len}
use Rattle.miti_text.proofs.Numbers.{quantity_again, whole_all, small_size, le_is}
use Rattle.miti_text.proofs.Limits.{le_holds}
use Rattle.miti_text.proofs.Joined.{words_joined, text_joined, short_joined, AreShort}

more_bytes : (n : ℕ) → 0 < n → nat_lt 0 n ≡ true
more_bytes n some = grind (arith, nat_tests)

both_again : {a b : Bool} → a ≡ true → b ≡ true → (a && b) ≡ true
both_again ha hb = rw (ha, hb) refl

digit_visible : (c : ℕ) → is_ascii_digit c ≡ true → is_visible c ≡ true
digit_visible c digit = grind (arith, nat_tests)

digits_visible : (ds : List ℕ) → list_all is_ascii_digit ds ≡ true → list_all is_visible ds ≡ true
digits_visible [] all = refl
digits_visible (c ∷ ds) all =
    let parts = both_true (is_ascii_digit c) (list_all is_ascii_digit ds) all in rw (digit_visible c parts.0, digits_visible ds parts.1) refl

sign_visible : (negative : Bool) → list_all is_visible (sign_text negative) ≡ true
sign_visible true = refl
sign_visible false = refl

sign_short : (negative : Bool) → length (sign_text negative) ≤ 1
sign_short true = omega arith
sign_short false = omega arith

visible_parts : (sign w f : List ℕ) → list_all is_visible sign ≡ true → list_all is_visible w ≡ true → list_all is_visible f ≡ true → list_all is_visible (sign ++ w ++ 46 ∷ f) ≡ true
visible_parts sign w f a b c =
    list_all-append is_visible (sign ++ w) (46 ∷ f) ∙ ap (λ x. x && list_all is_visible f) (list_all-append is_visible sign w) ∙ rw (a, b, c) refl

some_bytes : (sign w f : List ℕ) → nat_lt 0 (length (sign ++ w ++ 46 ∷ f)) ≡ true
some_bytes sign w f = let len = length-append (sign ++ w) (46 ∷ f) in more_bytes (length (sign ++ w ++ 46 ∷ f)) (omega (arith, len))

pub decimal_shown : (quantity : Quantity) (z : ℤ) → IsKept quantity z → is_shown (decimal_text (places quantity) z) ≡ true
decimal_shown quantity z holds =
    let written = whole_all quantity z holds in
    let sign = sign_text (is_negative z) in
    let w = decimal (unsigned_abs z / 10 ^ places quantity) in
    let f = last_digits (places quantity) (unsigned_abs z) in
    let visible = visible_parts sign w f (sign_visible (is_negative z)) (digits_visible w written.1) (digits_visible f (last_all (places quantity) (unsigned_abs z))) in
    both_again (some_bytes sign w f) visible

few_places : (quantity : Quantity) → places quantity ≤ 6
few_places quantities.Epoch = omega arith
few_places quantities.RightAscension = omega arith
few_places quantities.Declination = omega arith
few_places quantities.Magnitude = omega arith

pub decimal_short : (quantity : Quantity) (z : ℤ) → IsKept quantity z → length (decimal_text (places quantity) z) ≤ 64
decimal_short quantity z holds =
    let w = decimal (unsigned_abs z / 10 ^ places quantity) in
    let f = last_digits (places quantity) (unsigned_abs z) in
    let size = small_size quantity z holds in
    let less : unsigned_abs z / 10 ^ places quantity ≤ unsigned_abs z = div-le_self (unsigned_abs z) (10 ^ places quantity) in
    let digits : length w ≤ 20 = length-decimal-le 20 (unsigned_abs z / 10 ^ places quantity) (omega arith) (omega arith) (omega arith) in
    let whole = length-append (sign_text (is_negative z) ++ w) (46 ∷ f) in
    let front = length-append (sign_text (is_negative z)) w in
    let sign = sign_short (is_negative z) in
    let rest = last_len (places quantity) (unsigned_abs z) in
    let few = few_places quantity in
    omega (arith, whole, front, sign, rest, few, digits)

word_shown : (most : ℕ) (word : List ℕ) → is_word most word ≡ true → (is_shown word ≡ true) × (length word ≤ most)
word_shown most word holds = let parts = both_true (is_shown word) (nat_le (length word) most) holds in (parts.0, le_holds (length word) most parts.1)

fields_shown : (a b c d e f g : List ℕ) → is_shown a ≡ true → is_shown b ≡ true → is_shown c ≡ true → is_shown d ≡ true → is_shown e ≡ true → is_shown f ≡ true → is_shown g ≡ true
    → list_all is_shown (a ∷ b ∷ c ∷ d ∷ e ∷ f ∷ g ∷ []) ≡ true
fields_shown a b c d e f g ha hb hc hd he hf hg = rw (ha, hb, hc, hd, he, hf, hg) refl

regroup : (a b c d e f g : List ℕ) → (((((a ++ b) ++ c) ++ d) ++ e) ++ f) ++ g ≡ a ++ (b ++ (c ++ (d ++ (e ++ (f ++ g)))))
regroup a b c d e f g = simp append_assoc

joined : (a b c d e f g : List ℕ) → a ++ 32 ∷ b ++ 32 ∷ c ++ 32 ∷ d ++ 32 ∷ e ++ 32 ∷ f ++ 32 ∷ g ≡ join_with_byte 32 (a ∷ b ∷ c ∷ d ∷ e ∷ f ∷ g ∷ [])
joined a b c d e f g = regroup a (32 ∷ b) (32 ∷ c) (32 ∷ d) (32 ∷ e) (32 ∷ f) (32 ∷ g)

pub line_again : (d : Observation) → IsDetection d → detection_of (line_of d) ≡ Ok d
unfolding detection_of fields_of line_of
line_again d holds =
    let id = word_shown 64 d.id (both_true (is_word 64 d.id) (not (begins_other_line d.id)) holds.id).0 in
    let site = word_shown 8 d.site holds.site in
    let name = word_shown 64 d.name holds.name in
    let epoch : List ℕ = decimal_text 6 d.epoch in
    let ra : List ℕ = decimal_text 6 d.ra in
    let dec : List ℕ = decimal_text 6 d.dec in
    let mag : List ℕ = decimal_text 3 d.mag in
    let parts : List (List ℕ) = epoch ∷ ra ∷ dec ∷ mag ∷ d.site ∷ d.name ∷ [] in
    let all = fields_shown d.id epoch ra dec mag d.site d.name id.0 (decimal_shown quantities.Epoch d.epoch holds.epoch) (decimal_shown quantities.RightAscension d.ra holds.ra)
    (decimal_shown quantities.Declination d.dec holds.dec) (decimal_shown quantities.Magnitude d.mag holds.mag) site.0 name.0 in
    let short : AreShort (d.id ∷ parts) = (
      id.1,
      (
        decimal_short quantities.Epoch d.epoch holds.epoch,
        (
          decimal_short quantities.RightAscension d.ra holds.ra,
          (decimal_short quantities.Declination d.dec holds.dec, (decimal_short quantities.Magnitude d.mag holds.mag, (omega (arith, site.1), (name.1, tt)))),
        ),
      ),
    ) in
    let len : nat_le (length (join_with_byte 32 (d.id ∷ parts))) 1024 ≡ true = le_is (length (join_with_byte 32 (d.id ∷ parts))) 1024 (omega (arith, short_joined d.id parts short)) in
    let text = text_joined d.id parts all in
    let same = words_joined d.id parts all in
    rw (
      len,
      text,
      same,
      holds.id,
      quantity_again quantities.Epoch d.epoch holds.epoch,
      quantity_again quantities.RightAscension d.ra holds.ra,
      quantity_again quantities.Declination d.dec holds.dec,
      quantity_again quantities.Magnitude d.mag holds.mag,
      holds.site,
      holds.name,
    ) refl

fits_kept : (quantity : Quantity) (z : ℤ) → IsKept quantity z → to_z w64 (of_z w64 z) ≡ z
fits_kept quantity z holds = let size = small_size quantity z holds in to_z-of_z w64 z (fits_signed_from_abs w64 z (omega (arith, size)))

-- the fields, added one after the other
pub line_written : (d : Observation) → IsDetection d → (text with_epoch with_ra with_dec with_mag with_site with_name : List ℕ) → text ≡ d.id
    → with_epoch ≡ text ++ 32 ∷ decimal_text 6 (to_z w64 (of_z w64 d.epoch)) → with_ra ≡ with_epoch ++ 32 ∷ decimal_text 6 (to_z w64 (of_z w64 d.ra))
    → with_dec ≡ with_ra ++ 32 ∷ decimal_text 6 (to_z w64 (of_z w64 d.dec)) → with_mag ≡ with_dec ++ 32 ∷ decimal_text 3 (to_z w64 (of_z w64 d.mag))
    → with_site ≡ with_mag ++ 32 ∷ d.site → with_name ≡ with_site ++ 32 ∷ d.name → with_name ≡ line_of d
unfolding line_of
line_written d holds text with_epoch with_ra with_dec with_mag with_site with_name id epoch ra dec mag site name =
    rw (
      name,
      site,
      mag,
      dec,
      ra,
      epoch,
      id,
      fits_kept quantities.Epoch d.epoch holds.epoch,
      fits_kept quantities.RightAscension d.ra holds.ra,
      fits_kept quantities.Declination d.dec holds.dec,
      fits_kept quantities.Magnitude d.mag holds.mag,
    ) (joined d.id (decimal_text 6 d.epoch) (decimal_text 6 d.ra) (decimal_text 6 d.dec) (decimal_text 3 d.mag) d.site d.name)
