-- Lists of items: one without some items, and what two have in common.
use Rattle.std.specs.Prelude.{ℕ, ◌≡◌, Bool, List, not, nat_eq}
use Rattle.std.specs.List.{Contains, filter, list_any}
use Rattle.sky_math.specs.Lists.{EachTwo}

-- whether an item is one of some
abbrev pub is_one : List ℕ → ℕ → Bool
is_one items item = list_any (λ other. nat_eq other item) items

-- a set without some items
unfoldable pub less : List ℕ → List ℕ → List ℕ
less items set = filter (λ item. not (is_one items item)) set

-- a set holds one of some items
abbrev pub HoldsOne : List ℕ → List ℕ → Type 0
HoldsOne items set = (item : ℕ) × Contains items item × Contains set item

-- no two of some sets are the same
abbrev pub AreDifferent : List (List ℕ) → Type 0
AreDifferent sets = EachTwo (λ one other. one ≡ other → ⊥) sets
