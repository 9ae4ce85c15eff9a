-- Sets that their numbers tell apart, each once.
use Rattle.std.proofs.Common.{◌≡◌, ℕ, List, [], ◌∷◌, refl, sym, subst, ap, ◌↔◌, arith}
use Rattle.std.proofs.lemmas.Bool.{cases_eq}
use Rattle.std.proofs.lemmas.List.Elements.{Contains-get_or}
use Rattle.std.specs.List.{Contains}
use mathlib.Core.Logic.{inl, inr}
use Rattle.sky_math.specs.Lists.{EachTwo}
use Rattle.sky_units.specs.TrackletData.{TrackSetData}
use Rattle.sky_units.specs.Tracks.{numbers_of}
use Rattle.night_tree.proofs.EachTwoOf.{each_two_cons}
use Rattle.plain_tracks.specs.Numbers.{AreKnownByNumbers}
use Rattle.plain_tracks.proofs.Entries.{in_front, in_rest, front_or_rest}
use Rattle.plain_tracks.proofs.Members.{IsDecided, both, contains_or_not, reworded}

same_or_not : (xs ys : List ℕ) → IsDecided (xs ≡ ys)
same_or_not [] [] = inl refl
same_or_not [] (y ∷ ys) = inr (λ e. cc)
same_or_not (x ∷ xs) [] = inr (λ e. cc)
same_or_not (x ∷ xs) (y ∷ ys) = reworded (λ w. let first : x ≡ y = w.0 in let rest : xs ≡ ys = w.1 in cc) (λ e. (cc, cc)) (both (cases_eq x y) (same_or_not xs ys))

-- the same sets, no two of which are one
pub record Distinct (sets : List TrackSetData) : Type 0 where
  pub list : List TrackSetData
  pub once : EachTwo (λ one other. one ≡ other → ⊥) list
  pub exactly : (set : TrackSetData) → Contains list set ↔ Contains sets set

pub distinct : (sets : List TrackSetData) → AreKnownByNumbers sets → Distinct sets
distinct [] known = record { list = []; once = λ i j d ij jl. absurd (omega arith); exactly = λ set. (λ c. c, λ c. c) }
distinct (set ∷ sets) known =
    let before = distinct sets (λ one other c d. known one other (in_rest set sets one c) (in_rest set sets other d)) in
    let there = contains_or_not before.list set (λ other c. reworded
    (known other set (in_rest set sets other ((before.exactly other).0 c)) (in_front set sets))
    (ap numbers_of) (same_or_not (numbers_of other) (numbers_of set))) in
    elim there [
      | inl c ↦ record {
        list = before.list;
        once = before.once;
        exactly = λ other. (
          λ d. in_rest set sets other ((before.exactly other).0 d),
          λ d. elim (front_or_rest set sets other d) [ inl e ↦ subst (Contains before.list) e c | inr k ↦ (before.exactly other).1 k ],
        );
      }
      | inr new ↦ record {
        list = set ∷ before.list;
        once = each_two_cons (λ one other. one ≡ other → ⊥) set before.list (λ k d l e. new (subst (Contains before.list) (sym e) (Contains-get_or before.list k d l))) before.once;
        exactly = λ other. (
          λ d. elim (front_or_rest set before.list other d) [ inl e ↦ subst (Contains (set ∷ sets)) e (in_front set sets) | inr k ↦ in_rest set sets other ((before.exactly other).0 k) ],
          λ d. elim (front_or_rest set sets other d) [ inl e ↦ subst (Contains (set ∷ before.list)) e (in_front set before.list) | inr k ↦ in_rest set before.list other ((before.exactly other).1 k) ],
        );
      }
    ]
