-- Bytes tell which lines a line feed ends.
use Rattle.std.proofs.Common.{◌≡◌, ℕ, ◌++◌, List, [], ◌∷◌, map, refl, sym, ap, ap₂, subst, ◌∙◌, append_assoc}
use Rattle.std.specs.Prelude.{◌==◌, false}
use Rattle.std.specs.List.{All, flat_map}
use Rattle.std.specs.Str.Lines.{strip_carriage_return}
use Rattle.std.proofs.lemmas.List.Elements.{All-head, All-tail}
use Rattle.outer_io.specs.Seen.{NoFeed}
use Rattle.mops_run.specs.Part.{AreEndedLines, EndedLinesAreUnique, with_feed}

abbrev is_none : ℕ → Type 0
is_none byte = (byte == 10) ≡ false

-- a line feed is one
has_feed : (front more : List ℕ) → NoFeed (front ++ 10 ∷ more) → ⊥
has_feed [] more none = let no : (10 == 10) ≡ false = All-head is_none 10 more none in cc
has_feed (byte ∷ front) more none = has_feed front more (All-tail is_none byte (front ++ 10 ∷ more) none)

-- the first line feed of the same bytes stands at one place
same_first : (one other more rest : List ℕ) → NoFeed one → NoFeed other → one ++ 10 ∷ more ≡ other ++ 10 ∷ rest → (one ≡ other) × (more ≡ rest)
same_first [] [] more rest none none' same = (refl, cc)
same_first [] (byte ∷ other) more rest none none' same =
    let first : 10 ≡ byte = cc in
    let no : (10 == 10) ≡ false = subst is_none (sym first) (All-head is_none byte other none') in
    cc
same_first (byte ∷ one) [] more rest none none' same =
    let first : byte ≡ 10 = cc in
    let no : (10 == 10) ≡ false = subst is_none first (All-head is_none byte one none) in
    cc
same_first (byte ∷ one) (byte' ∷ other) more rest none none' same =
    let first : byte ≡ byte' = cc in
    let tail : one ++ 10 ∷ more ≡ other ++ 10 ∷ rest = cc in
    let behind = same_first one other more rest (All-tail is_none byte one none) (All-tail is_none byte' other none') tail in
    (ap₂ (λ b bs. b ∷ bs) first behind.0, behind.1)

-- the first line and what comes behind it
regrouped : (raw lines others : List ℕ) → ((raw ++ 10 ∷ []) ++ lines) ++ others ≡ raw ++ 10 ∷ (lines ++ others)
regrouped raw lines others = append_assoc (raw ++ 10 ∷ []) lines others ∙ append_assoc raw (10 ∷ []) (lines ++ others)

same_raw : (one other : List (List ℕ)) (others others' : List ℕ) → All NoFeed one → All NoFeed other → NoFeed others → NoFeed others'
    → flat_map with_feed one ++ others ≡ flat_map with_feed other ++ others' → one ≡ other
same_raw [] [] others others' each each' none none' same = refl
same_raw [] (raw ∷ other) others others' each each' none none' same =
    absurd (has_feed raw (flat_map with_feed other ++ others') (subst NoFeed (same ∙ regrouped raw (flat_map with_feed other) others') none))
same_raw (raw ∷ one) [] others others' each each' none none' same =
    absurd (has_feed raw (flat_map with_feed one ++ others) (subst NoFeed (sym same ∙ regrouped raw (flat_map with_feed one) others) none'))
same_raw (raw ∷ one) (raw' ∷ other) others others' each each' none none' same =
    let first = same_first raw raw' (flat_map with_feed one ++ others) (flat_map with_feed other ++ others') (All-head NoFeed raw one each) (All-head NoFeed raw' other each')
    (sym (regrouped raw (flat_map with_feed one) others) ∙ same ∙ regrouped raw' (flat_map with_feed other) others') in
    ap₂ (λ r rs. r ∷ rs) first.0 (same_raw one other others others' (All-tail NoFeed raw one each) (All-tail NoFeed raw' other each') none none' first.1)

pub ended_only : EndedLinesAreUnique
ended_only bytes one other is is' =
    is.2.contents_are
    ∙ ap (map strip_carriage_return) (same_raw is.2.raw is'.2.raw is.0 is'.0 is.2.each is'.2.each is.1 is'.1 (sym is.2.parts ∙ is'.2.parts))
    ∙ sym is'.2.contents_are
