-- How far a loop over a list has come: one more element is one more step.
use Rattle.std.proofs.Common.{◌≡◌, ℕ, ◌+◌, ◌<◌, List, [], ◌∷◌, ◌++◌, length, take, get_or, refl, sym, ap, ◌∙◌, append_assoc}
use Rattle.std.proofs.lemmas.List.{append-nil, take_more}
use Rattle.sky_units.specs.SpotData.{SpotData}
use Rattle.sky_units.specs.TrackletData.{TrackletData, TrackSetData, spots_of}

pub taken : {X : Type 0} → (xs : List X) (i : ℕ) (x : X) → i < length xs → x ≡ get_or xs i x → take (i + 1) xs ≡ take i xs ++ x ∷ []
taken xs i x h e = take_more xs i x h ∙ ap (λ y. take i xs ++ y ∷ []) (sym e)

pub spots_of-append : (xs ys : TrackSetData) → spots_of (xs ++ ys) ≡ spots_of xs ++ spots_of ys
spots_of-append [] ys = refl
spots_of-append (x ∷ xs) ys = rw (spots_of-append xs ys) (sym (append_assoc x (spots_of xs) (spots_of ys)))

pub spots_of-push : (xs : TrackSetData) (t : List SpotData) → spots_of (xs ++ t ∷ []) ≡ spots_of xs ++ t
spots_of-push xs t = spots_of-append xs (t ∷ []) ∙ ap (λ l. spots_of xs ++ l) (append-nil t)

pub spots_one_more : (set : TrackSetData) (i : ℕ) (t : TrackletData) → i < length set → t ≡ get_or set i t → spots_of (take i set) ++ t ≡ spots_of (take (i + 1) set)
spots_one_more set i t h same = sym (ap spots_of (taken set i t h same) ∙ spots_of-push (take i set) t)
