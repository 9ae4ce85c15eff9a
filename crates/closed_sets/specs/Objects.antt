-- The family of the tests: sets of numbers below ten, all of one object.
use Rattle.std.specs.Prelude.{ℕ, ◌<◌, List}
use Rattle.std.specs.List.{All, Contains}
use Rattle.std.proofs.lemmas.List.Elements.{All-contains}
use Rattle.sky_units.specs.Tracks.{AreAmong}
use Rattle.closed_sets.specs.Families.{IsHereditary, IsSet}

-- some object has all of these numbers
abbrev pub IsOfOne : List (List ℕ) → List ℕ → Type 0
IsOfOne objects numbers = (object : List ℕ) × Contains objects object × AreAmong numbers object

pub record IsSeen (objects : List (List ℕ)) (set : List ℕ) : Type 0 where
  pub is_set : IsSet set
  pub small : All (λ x. x < 10) set
  pub of_one : IsOfOne objects set

-- every part of a set of one object is one
pub seen_is_hereditary : (objects : List (List ℕ)) → IsHereditary (IsSeen objects)
seen_is_hereditary objects = record {
  sets = λ set seen. seen.is_set;
  parts = λ set part seen is_set among. record {
    is_set = is_set;
    small = λ k d l. All-contains (λ x. x < 10) set _ seen.small (among k d l);
    of_one = (seen.of_one.0, seen.of_one.1, λ k d l. All-contains (Contains seen.of_one.0) set _ seen.of_one.2 (among k d l));
  };
}
