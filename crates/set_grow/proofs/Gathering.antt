-- The closed sets of one item after the other.
use Rattle.std.proofs.Common.{◌≡◌, ℕ, ◌<◌, List, [], ◌∷◌, ◌++◌, length, get_or, take, sym, subst, ◌↔◌, arith}
use Rattle.std.proofs.lemmas.List.{get_or-take, length-take}
use Rattle.std.proofs.lemmas.List.Elements.{Contains-append_left, Contains-append_right, Contains-append_cases, Contains-push, Contains-push_cases}
use Rattle.std.specs.Cmp.Lexicographic.{slice_cmp}
use Rattle.std.specs.List.{Contains}
use Rattle.std.specs.List.Sorted.{IsStrictlySortedBy}
use Rattle.std.specs.Ordering.{nat_cmp}
use mathlib.Core.Logic.{inl, inr}
use Rattle.closed_sets.specs.Around.{AreClosedSetsWith}
use Rattle.closed_sets.specs.Families.{IsSet}
use Rattle.sky_units.specs.SettingsData.{SettingsData}
use Rattle.set_grow.specs.Growing.{AreClosedSetsWithOne, AreGrown}
use Rattle.set_grow.specs.Nights.{AreInPlace, NumberedNightData, by_night}
use Rattle.set_grow.specs.SkyData.{FitsWithParts, SkyData}
use Rattle.set_grow.specs.declared.places.Place.{Place}
use Rattle.set_grow.proofs.Members.{in_none, some_or_none}
use Rattle.set_grow.proofs.NumberSets.{is_rising, number_or_not, rising}
use Rattle.set_grow.proofs.SkyFits.{closed_alike, sky_of}

pub grown_none : (sky : SkyData) → AreGrown sky [] []
grown_none sky = λ set. (λ c. absurd (in_none set c), λ w. absurd (in_none w.1.0 w.1.1))

-- those of one item more that hold none of the items before it
pub grown_more : (sky : SkyData) (items : List ℕ) (item : ℕ) (found sets : List (List ℕ)) → AreGrown sky items found → AreClosedSetsWith (FitsWithParts sky) item items sets → AreGrown sky (items ++ item ∷ []) (found ++ sets)
grown_more sky items item found sets h s = λ set. (
  λ c. elim (Contains-append_cases found sets set c) [
    | inl d ↦ (let w = (h set).0 d in (w.0, (w.1.0, Contains-append_left items (item ∷ []) w.1.0 w.1.1, w.1.2), w.2))
    | inr d ↦ (let w = (s.exactly set).0 d in (w.0, (item, Contains-push items item, w.1), w.3))
  ],
  λ w. elim (some_or_none (Contains set) items (λ x c. number_or_not set x)) [
    | inl one ↦ Contains-append_left found sets set ((h set).1 (w.0, one, w.2))
    | inr none ↦ elim (Contains-push_cases items item w.1.0 w.1.1) [
      | inl d ↦ absurd (none (w.1.0, d, w.1.2))
      | inr e ↦ Contains-append_right found sets set ((s.exactly set).1 (w.0, subst (Contains set) (sym e) w.1.2, λ x c k. none (x, c, k), w.2))
    ]
  ],
)

-- the front of a set is one
pub front_set : (numbers : List ℕ) (n : ℕ) → IsSet numbers → IsSet (take n numbers)
front_set numbers n h =
    let all = rising numbers h in
    is_rising (take n numbers) (λ i j d ij jl.
    let short = length-take n numbers in
    let within : j < n = omega (arith, jl, short) in
    let whole : j < length numbers = omega (arith, jl, short) in
    let less : get_or numbers i d < get_or numbers j d = all i j d ij whole in
    let one : get_or (take n numbers) i d ≡ get_or numbers i d = get_or-take n numbers i d (omega (arith, ij, within)) in
    let other : get_or (take n numbers) j d ≡ get_or numbers j d = get_or-take n numbers j d within in
    omega (arith, less, one, other))

-- the closed sets of the same numbers are the same
pub grown_same : (sky : SkyData) (numbers others : List ℕ) (sets : List (List ℕ)) → ((x : ℕ) → Contains numbers x ↔ Contains others x) → AreGrown sky numbers sets → AreGrown sky others sets
grown_same sky numbers others sets same h = λ set. (
  λ c. (let w = (h set).0 c in (w.0, (w.1.0, (same w.1.0).0 w.1.1, w.1.2), w.2)),
  λ w. (h set).1 (w.0, (w.1.0, (same w.1.0).1 w.1.1, w.1.2), w.2),
)

pub grown_all : (settings : SettingsData) (nights : List NumberedNightData) (table : List Place) (items : List ℕ) (found sets : List (List ℕ)) → AreInPlace nights table → AreGrown (sky_of settings nights table) items found → IsStrictlySortedBy (slice_cmp nat_cmp) sets → ((set : List ℕ) → Contains sets set ↔ Contains found set) → AreClosedSetsWithOne settings (by_night nights) items sets
grown_all settings nights table items found sets p h order same = record {
  in_order = order;
  exactly = λ set. (
    λ c. (let w = (h set).0 ((same set).0 c) in ((closed_alike settings nights table set p).0 w.0, w.1, w.2)),
    λ w. (same set).1 ((h set).1 ((closed_alike settings nights table set p).1 w.0, w.1, w.2)),
  );
}
