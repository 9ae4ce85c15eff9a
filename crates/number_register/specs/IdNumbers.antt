-- The number of each held id, found by a hash of its bytes.
use Rattle.std.specs.Prelude.{◌≡◌, ◌≢◌, ℕ, ◌+◌, ◌*◌, ◌^◌, ◌%◌, ◌⊎◌, nat_eq, cond, Option, Some, None, List}
use Rattle.std.specs.Cmp.Lexicographic.{pointwise}
use Rattle.std.specs.List.{fold}
use Rattle.std.specs.Map.{lookup}
use Rattle.std.specs.Global.{Vec}
use Rattle.miti_text.specs.Observation.{Observation}
use Rattle.number_register.specs.Numbering.{slot}

-- the hash of the bytes before and of one more
abbrev pub hash_step : ℕ → ℕ → ℕ
hash_step hash byte = (((hash * 1099511628211) % 2 ^ 64) + byte) % 2 ^ 64

-- a hash of an id's bytes; nothing rests on which
unfoldable pub id_hash : List ℕ → ℕ
id_hash bytes = fold hash_step 0 bytes

-- the number that stands under a hash
abbrev pub under_hash : List (ℕ × ℕ) → ℕ → Option ℕ
under_hash hashes hash = lookup (λ k. nat_eq hash k) hashes

-- the number that stands under an id
abbrev pub under_id : List (Vec ℕ × ℕ) → List ℕ → Option ℕ
under_id ids id = lookup (λ k. pointwise nat_eq id k.items) ids

-- each held number stands under the hash of its id, or, where another number stands there, under the id; and no other does
pub record AreNumbers (slots : List (Option Observation)) (hashes : List (ℕ × ℕ)) (ids : List (Vec ℕ × ℕ)) : Type 0 where
  pub found : (n : ℕ) (d : Observation) → slot slots n ≡ Some d → (under_hash hashes (id_hash d.id) ≡ Some n) ⊎ (under_id ids d.id ≡ Some n)
  pub hashed : (hash n : ℕ) → under_hash hashes hash ≡ Some n → (d : Observation) × (slot slots n ≡ Some d) × (id_hash d.id ≡ hash)
  pub named : (id : List ℕ) (n : ℕ) → under_id ids id ≡ Some n → (d : Observation) × (slot slots n ≡ Some d) × (d.id ≡ id)
  pub one_place : (id : List ℕ) (n : ℕ) → under_id ids id ≡ Some n → under_hash hashes (id_hash id) ≢ Some n

-- under each hash stands what stood there
abbrev pub StandAlike : List (ℕ × ℕ) → List (ℕ × ℕ) → Type 0
StandAlike hashes hashes' = (hash : ℕ) → under_hash hashes' hash ≡ under_hash hashes hash

-- the number is entered under the id's hash, or, where another number stands there, under the id
abbrev pub Enters : List (ℕ × ℕ) → List (Vec ℕ × ℕ) → List (ℕ × ℕ) → List (Vec ℕ × ℕ) → List ℕ → ℕ → Type 0
Enters hashes ids hashes' ids' id n =
    ((under_hash hashes (id_hash id) ≡ None) × ((hash : ℕ) → under_hash hashes' hash ≡ cond (nat_eq (id_hash id) hash) (Some n) (under_hash hashes hash)) × (ids' ≡ ids))
    ⊎ ((m : ℕ) × (under_hash hashes (id_hash id) ≡ Some m) × StandAlike hashes hashes' × ((other : List ℕ) → under_id ids' other ≡ cond (pointwise nat_eq id other) (Some n) (under_id ids other)))

-- the number is struck out under the id's hash, or, where it doesn't stand there, under the id
abbrev pub Strikes : List (ℕ × ℕ) → List (Vec ℕ × ℕ) → List (ℕ × ℕ) → List (Vec ℕ × ℕ) → List ℕ → ℕ → Type 0
Strikes hashes ids hashes' ids' id n =
    ((under_hash hashes (id_hash id) ≡ Some n) × ((hash : ℕ) → under_hash hashes' hash ≡ cond (nat_eq (id_hash id) hash) None (under_hash hashes hash)) × (ids' ≡ ids))
    ⊎ ((under_hash hashes (id_hash id) ≢ Some n) × (hashes' ≡ hashes) × ((other : List ℕ) → under_id ids' other ≡ cond (pointwise nat_eq id other) None (under_id ids other)))
