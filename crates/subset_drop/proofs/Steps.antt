-- Lists that grow at their end.
use Rattle.std.proofs.Common.{◌≡◌, ℕ, ◌+◌, ◌<◌, Vec, Global, List, [], ◌∷◌, ◌++◌, length, take, map, get_or, refl, sym, ap, ◌∙◌, append_assoc}
use Rattle.std.proofs.lemmas.List.{append-nil, take_more, get_or-map, length-map}
use Rattle.sky_units.specs.SpotData.{SpotData}
use Rattle.sky_units.specs.TrackletData.{TrackSetData, spots_of}
use Rattle.sky_units.specs.Tracks.{numbers_of}

-- the numbers of the member at a place
pub numbers_there : (lists : List (Vec ℕ Global)) (i : ℕ) (list : Vec ℕ Global) → i < length lists → list ≡ get_or lists i list → list.items ≡ get_or (map (λ list. list.items) lists) i []
numbers_there lists i list l e = sym (get_or-map (λ list. list.items) lists i list [] l ∙ ap (λ list. list.items) (sym e))

-- two lists with equal maps have one length
pub same_size : (lists : List (Vec ℕ Global)) (sets : List TrackSetData) → map (λ list. list.items) lists ≡ map numbers_of sets → length lists ≡ length sets
same_size lists sets e = sym (length-map lists (λ list. list.items)) ∙ (ap length e ∙ length-map sets numbers_of)
