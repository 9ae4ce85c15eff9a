-- The fitting triples of three nights: tracklets, one of each night, that fit together, told by their places.
use Rattle.std.specs.Prelude.{ℕ, ◌≡◌, ◌↔◌, Some, List}
use Rattle.std.specs.List.{Contains, slice_get}
use Rattle.std.specs.List.Sorted.{IsStrictlySortedBy}
use Rattle.std.specs.Ordering.{nat_cmp, ordering_then}
use Rattle.std.specs.declared.cmp.Ordering.{Ordering}
use Rattle.sky_units.specs.SettingsData.{SettingsData}
use Rattle.box_tree.specs.Joins.{allow_own, triples_that}
use Rattle.bound_prune.specs.Boxes.{BoxedTracklet, box_low, box_high}
use Rattle.bound_prune.specs.Pruning.{may_three}
use Rattle.bound_prune.specs.Wanted.{AreWantedThree}

-- the lexicographic order of triples
abbrev pub triple_cmp : ℕ × ℕ × ℕ → ℕ × ℕ × ℕ → Ordering
triple_cmp one other = ordering_then (ordering_then (nat_cmp one.0 other.0) (nat_cmp one.1 other.1)) (nat_cmp one.2 other.2)

-- a fitting triple: at its places stand tracklets whose spots, one tracklet after the other, are an arc that fits, in boxes that
-- were made with the tolerances of the settings
pub record IsFittingTriple (settings : SettingsData) (xs ys zs : List BoxedTracklet) (triple : ℕ × ℕ × ℕ) : Type 0 where
  pub first : BoxedTracklet
  pub second : BoxedTracklet
  pub third : BoxedTracklet
  pub first_at : slice_get xs triple.0 ≡ Some first
  pub second_at : slice_get ys triple.1 ≡ Some second
  pub third_at : slice_get zs triple.2 ≡ Some third
  pub fit : AreWantedThree settings first second third

-- exactly the fitting triples, each once, in lexicographic order
pub record AreFittingTriples (settings : SettingsData) (xs ys zs : List BoxedTracklet) (list : List (ℕ × ℕ × ℕ)) : Type 0 where
  pub in_order : IsStrictlySortedBy triple_cmp list
  pub exactly : (triple : ℕ × ℕ × ℕ) → Contains list triple ↔ IsFittingTriple settings xs ys zs triple

-- the triples of places whose own boxes may hold tracklets of one object
abbrev pub allowed_triples : SettingsData → List BoxedTracklet → List BoxedTracklet → List BoxedTracklet → List (ℕ × ℕ × ℕ)
allowed_triples settings xs ys zs = triples_that (allow_own (may_three settings) 5 box_low box_high 5 box_low box_high 5 box_low box_high) xs ys zs
