-- The motions that a sky holds are those of its objects.
use Rattle.std.proofs.Common.{◌≡◌, ℕ, ◌+◌, ◌<◌, List, [], ◌∷◌, ◌++◌, map, length, get_or, sym, arith}
use Rattle.std.specs.List.{range_with_len}
use Rattle.std.proofs.lemmas.List.FromFn.{length-map-range_with_len, get_or-map-range_with_len, map-range_with_len_more}
use Rattle.made_sky.specs.Motions.{motion_from, motion_of, state_before}
use Rattle.made_sky.specs.declared.motions.Motion.{Motion}

pub held_one : (motions : List Motion) (number objects object : ℕ) → motions ≡ map (motion_of number) (range_with_len 0 objects) → object < objects → object < length motions
held_one motions number objects object is h = let len = length-map-range_with_len (motion_of number) 0 objects in rw is (omega (arith, len))

pub held_is : (motions : List Motion) (number objects object : ℕ) (d : Motion) → motions ≡ map (motion_of number) (range_with_len 0 objects) → object < objects
    → get_or motions object d ≡ motion_of number object
held_is motions number objects object d is h = rw is (get_or-map-range_with_len (motion_of number) 0 objects object object d h (omega arith))

pub held_more : (motions : List Motion) (number object state : ℕ) (motion : Motion) → state ≡ state_before number object → motion ≡ motion_from state
    → motions ≡ map (motion_of number) (range_with_len 0 object) → motions ++ motion ∷ [] ≡ map (motion_of number) (range_with_len 0 (object + 1))
held_more motions number object state motion at is held = rw (is, at, held) (sym (map-range_with_len_more (motion_of number) 0 object object (omega arith)))
