-- The groups of a night: pairs that lie on one line, each pair in the first group that takes it.
use Rattle.std.specs.Prelude.{if◌then◌else◌, ℕ, ◌<◌, Bool, List, [], ◌∷◌, nat_eq, nat_lt}
use Rattle.std.specs.List.{All}
use Rattle.sky_math.specs.Lists.{EachTwo}
use Rattle.sky_units.specs.AtPlaces.{spots_at}
use Rattle.sky_units.specs.Pairs.{pairs_of}
use Rattle.sky_units.specs.SettingsData.{SettingsData}
use Rattle.sky_units.specs.SpotData.{SpotData}
use Rattle.line_fit.specs.Lines.{lies_on_line}

-- rising places with one more
abbrev pub with_place : List ℕ → ℕ → List ℕ
with_place [] place = place ∷ []
with_place (first ∷ rest) place = if nat_lt first place then first ∷ with_place rest place else (if nat_eq first place then first ∷ rest else place ∷ first ∷ rest)

-- the places of a group and of a pair together
abbrev pub with_pair : List ℕ → ℕ × ℕ → List ℕ
with_pair group pair = with_place (with_place group pair.0) pair.1

-- a pair may join a group: together they lie on a line
abbrev pub may_join : SettingsData → List SpotData → ℕ × ℕ → List ℕ → Bool
may_join settings spots pair group = lies_on_line settings.line_tol settings.rate_ra settings.rate_dec (spots_at spots (with_pair group pair))

-- a pair joins the first group that it may join, or else becomes a new last group
abbrev pub join_first : SettingsData → List SpotData → ℕ × ℕ → List (List ℕ) → List (List ℕ)
join_first settings spots pair [] = (pair.0 ∷ pair.1 ∷ []) ∷ []
join_first settings spots pair (group ∷ rest) = if may_join settings spots pair group then with_pair group pair ∷ rest else group ∷ join_first settings spots pair rest

-- pairs join groups one after the other
abbrev pub join_all : SettingsData → List SpotData → List (ℕ × ℕ) → List (List ℕ) → List (List ℕ)
join_all settings spots [] groups = groups
join_all settings spots (pair ∷ rest) groups = join_all settings spots rest (join_first settings spots pair groups)

-- the groups of a night: its pairs in their order join groups, of which there are none at first
abbrev pub groups_of : SettingsData → List SpotData → List (List ℕ)
groups_of settings spots = join_all settings spots (pairs_of settings spots) []

-- ---- what groups and pairs are
-- rising places below n
pub record ArePlaces (n : ℕ) (places : List ℕ) : Type 0 where
  pub within : All (λ p. p < n) places
  pub rising : EachTwo (λ i j. i < j) places

-- two rising places below n
abbrev pub IsPairBelow : ℕ → ℕ × ℕ → Type 0
IsPairBelow n pair = (pair.0 < pair.1) × (pair.1 < n)
