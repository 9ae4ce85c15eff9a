-- The search for closed sets: from a set, over the numbers that fit with it, of which the first ones are excluded.
use Rattle.std.specs.Prelude.{◌≡◌, ℕ, ◌+◌, ◌<◌, ◌≤◌, ◌↔◌, ◌⊎◌, Bool, false, cond, nat_eq, not, IsTrue, List, [], ◌∷◌, ◌++◌, length, take, drop, get_or}
use Rattle.std.specs.List.{Contains, filter, list_any}
use Rattle.sky_units.specs.Tracks.{AreAmong}
use Rattle.closed_sets.specs.Families.{IsSet, IsClosed}
use Rattle.closed_sets.specs.Around.{FitTogether, IsFree}
use Rattle.closed_sets.specs.Counting.{AreDifferent}

-- a closed set that has all of a set and none of the excluded numbers
pub record IsClosedFrom (Fits : List ℕ → Type 0) (set excluded found : List ℕ) : Type 0 where
  pub closed : IsClosed Fits found
  pub has : AreAmong set found
  pub free : IsFree excluded found

-- a fitting set that has all of a set and none of the excluded numbers
pub record IsReached (Fits : List ℕ → Type 0) (set excluded found : List ℕ) : Type 0 where
  pub fits : Fits found
  pub has : AreAmong set found
  pub free : IsFree excluded found

-- and another number
pub record IsGrown (Fits : List ℕ → Type 0) (set excluded found : List ℕ) : Type 0 where
  pub reached : IsReached Fits set excluded found
  pub more : ℕ
  pub there : Contains found more
  pub new : ¬ Contains set more

-- exactly the other numbers that fit together with a set, each once
pub record AreOthers (Fits : List ℕ → Type 0) (set others : List ℕ) : Type 0 where
  pub different : AreDifferent others
  pub exactly : (x : ℕ) → Contains others x ↔ ((¬ Contains set x) × FitTogether Fits (x ∷ set))

-- other numbers than those of a set, each once; each one that fits together with it is among them
pub record AreBeside (Fits : List ℕ → Type 0) (set others : List ℕ) : Type 0 where
  pub different : AreDifferent others
  pub new : (x : ℕ) → Contains others x → ¬ Contains set x
  pub complete : (x : ℕ) → (¬ Contains set x) → FitTogether Fits (x ∷ set) → Contains others x

-- where the search stands: a fitting set and its others, of which the first ones are excluded
pub record IsNode (Fits : List ℕ → Type 0) (set others : List ℕ) (first : ℕ) : Type 0 where
  pub fits : Fits set
  pub listed : AreOthers Fits set others
  pub within : first ≤ length others

-- the members of one list and of another, as a set
pub record IsUnion (one other union : List ℕ) : Type 0 where
  pub is_set : IsSet union
  pub exactly : (x : ℕ) → Contains union x ↔ (Contains one x ⊎ Contains other x)

-- those of some numbers that fit together with a set
pub record AreFitting (Fits : List ℕ → Type 0) (set numbers kept : List ℕ) : Type 0 where
  pub different : AreDifferent numbers → AreDifferent kept
  pub exactly : (x : ℕ) → Contains kept x ↔ (Contains numbers x × FitTogether Fits (x ∷ set))
  pub few : length kept ≤ length numbers

-- a fitting set, of a set and some candidates, to which no candidate can be added
pub record IsLargest (Fits : List ℕ → Type 0) (set candidates largest : List ℕ) : Type 0 where
  pub fits : Fits largest
  pub has : AreAmong set largest
  pub only : (x : ℕ) → Contains largest x → Contains set x ⊎ Contains candidates x
  pub full : (x : ℕ) → Contains candidates x → FitTogether Fits (x ∷ largest) → Contains largest x

-- the others of a node in another order, with more of them excluded
pub record IsNarrowed (Fits : List ℕ → Type 0) (set others : List ℕ) (first : ℕ) (ordered : List ℕ) (end : ℕ) : Type 0 where
  pub node : IsNode Fits set ordered end
  pub same : take first ordered ≡ take first others
  pub more : first ≤ end
  pub few : length ordered ≤ length others

-- excluded numbers, those candidates that are not in a set, and behind the first so many those that are
pub record AreParted (excluded candidates set numbers : List ℕ) (first : ℕ) : Type 0 where
  pub outside : List ℕ
  pub inside : List ℕ
  pub is : numbers ≡ (excluded ++ outside) ++ inside
  pub at : first ≡ length (excluded ++ outside)
  pub exactly : (x : ℕ) → Contains candidates x ↔ (Contains outside x ⊎ Contains inside x)
  pub out : (x : ℕ) → Contains outside x → ¬ Contains set x
  pub within : (x : ℕ) → Contains inside x → Contains set x
  pub different : AreDifferent candidates → AreDifferent outside × AreDifferent inside
  pub size : length outside + length inside ≡ length candidates

-- what a node's candidates come to: a largest set, outside which they are excluded too, and which is added where
-- no excluded number fits together with it
pub record IsSettled (Fits : List ℕ → Type 0) (set others : List ℕ) (first : ℕ) (numbers : List ℕ) (end : ℕ) (before after : List (List ℕ)) : Type 0 where
  pub largest : List ℕ
  pub is_largest : IsLargest Fits set (drop first others) largest
  pub parted : AreParted (take first others) (drop first others) largest numbers end
  pub closed : Bool
  pub alone : IsTrue closed ↔ ((x : ℕ) → Contains (take first others) x → ¬ FitTogether Fits (x ∷ largest))
  pub added : after ≡ cond closed (before ++ largest ∷ []) before

-- the node of a set and one more number, before which the others are excluded
pub record IsBranch (Fits : List ℕ → Type 0) (set before : List ℕ) (item : ℕ) (grown others : List ℕ) (first : ℕ) : Type 0 where
  pub node : IsNode Fits grown others first
  pub exactly : (x : ℕ) → Contains grown x ↔ (Contains (item ∷ []) x ⊎ Contains set x)
  pub excluded : (x : ℕ) → Contains (take first others) x ↔ (Contains before x × FitTogether Fits (x ∷ grown))

-- the lists afterwards are those before and those of a kind
abbrev pub Gains : (List ℕ → Type 0) → List (List ℕ) → List (List ℕ) → Type 0
Gains Kind before after = (set : List ℕ) → Contains after set ↔ (Contains before set ⊎ Kind set)

-- a fitting set that lies in one of three or more
pub record LiesInThree (Fits : List ℕ → Type 0) (set : List ℕ) : Type 0 where
  pub fits : Fits set
  pub whole : List ℕ
  pub whole_fits : Fits whole
  pub large : 3 ≤ length whole
  pub has : AreAmong set whole

-- whether a number is one of some
abbrev pub is_one : List ℕ → ℕ → Bool
is_one numbers number = list_any (λ other. nat_eq other number) numbers

-- whether neither number of a pair is done
abbrev pub is_pair_free : List ℕ → ℕ × ℕ → Bool
is_pair_free done pair = cond (is_one done pair.0) false (not (is_one done pair.1))

-- two numbers are a pair
abbrev pub IsPaired : List (ℕ × ℕ) → ℕ → ℕ → Type 0
IsPaired pairs x y = Contains pairs (x, y) ⊎ Contains pairs (y, x)

-- the numbers of some pairs, each once; behind the first so many stand those of pairs without done numbers
pub record ArePartners (pairs : List (ℕ × ℕ)) (done numbers : List ℕ) (first : ℕ) : Type 0 where
  pub different : AreDifferent numbers
  pub within : first ≤ length numbers
  pub exactly : (x : ℕ) → Contains numbers x ↔ ((y : ℕ) × IsPaired pairs x y)
  pub candidates : (x : ℕ) → Contains (drop first numbers) x ↔ ((¬ Contains done x) × ((y : ℕ) × (¬ Contains done y) × IsPaired pairs x y))

-- where the search around an item begins: at the item alone, with candidates that are paired with each other
pub record IsStart (Fits : List ℕ → Type 0) (item : ℕ) (pairs : List (ℕ × ℕ)) (set others : List ℕ) (first : ℕ) : Type 0 where
  pub alone : set ≡ item ∷ []
  pub node : IsNode (LiesInThree Fits) set others first
  pub some : first < length others
  pub paired : (x : ℕ) → Contains (drop first others) x → ((y : ℕ) × Contains (drop first others) y × IsPaired pairs x y)

-- an item and its partner at a place, and those of the others that are paired with the two
pub record IsRoot (item : ℕ) (pairs : List (ℕ × ℕ)) (others : List ℕ) (place : ℕ) (set numbers : List ℕ) (first : ℕ) : Type 0 where
  pub union : IsUnion (item ∷ []) (get_or others place 0 ∷ []) set
  pub partners : List ℕ
  pub exactly : (x : ℕ) → Contains partners x ↔ IsPaired pairs (get_or others place 0) x
  pub is : numbers ≡ filter (is_one partners) (take place others) ++ filter (is_one partners) (drop (place + 1) others)
  pub at : first ≡ length (filter (is_one partners) (take place others))

-- some numbers without an item, each once: the done ones, and behind the first so many the others
pub record AreSplit (item : ℕ) (done partners numbers : List ℕ) (first : ℕ) : Type 0 where
  pub different : AreDifferent numbers
  pub within : first ≤ length numbers
  pub few : length numbers ≤ length partners
  pub front : (x : ℕ) → Contains (take first numbers) x ↔ (Contains partners x × Contains done x)
  pub rest : (x : ℕ) → Contains (drop first numbers) x ↔ (Contains partners x × (¬ (x ≡ item)) × (¬ Contains done x))

-- what some numbers beside an item come to: as IsSettled, where a largest set counts from three numbers on
pub record IsSettledAround (Fits : List ℕ → Type 0) (item : ℕ) (others : List ℕ) (first : ℕ) (numbers : List ℕ) (end : ℕ) (before after : List (List ℕ)) : Type 0 where
  pub largest : List ℕ
  pub is_largest : IsLargest Fits (item ∷ []) (drop first others) largest
  pub parted : AreParted (take first others) (drop first others) largest numbers end
  pub closed : Bool
  pub alone : IsTrue closed ↔ (3 ≤ length largest × ((x : ℕ) → Contains (take first others) x → ¬ FitTogether Fits (x ∷ largest)))
  pub added : after ≡ cond closed (before ++ largest ∷ []) before
