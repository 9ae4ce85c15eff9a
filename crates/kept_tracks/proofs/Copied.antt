-- Tracklets that are copied one by one.
use Rattle.std.proofs.Common.{◌≡◌, ℕ, ◌+◌, ◌<◌, [], ◌∷◌, ◌++◌, List, length, take, get_or, sym, ap, ◌∙◌}
use Rattle.std.proofs.lemmas.List.{get_or_default, map-append}
use Rattle.set_grow.specs.Nights.{NumberedNightData}
use Rattle.set_grow.specs.Seats.{one_at, tracklets_at}
use Rattle.set_grow.specs.declared.seats.Seat.{Seat}
use Rattle.sky_units.proofs.Steps.{taken}
use Rattle.sky_units.specs.TrackletData.{TrackletData, TrackSetData}

pub copied : (nights : List NumberedNightData) (seats : List Seat) (i : ℕ) (d : Seat) (one : TrackletData) (old new : TrackSetData) → i < length seats → one ≡ (one_at nights (get_or seats i d)).tracklet → new ≡ old ++ one ∷ [] → old ≡ tracklets_at nights (take i seats)
    → new ≡ tracklets_at nights (take (i + 1) seats)
copied nights seats i d one old new l same e h =
    let own : Seat → TrackletData = λ (seat : Seat). (one_at nights seat).tracklet in
    let seat : Seat = get_or seats i d in
    e ∙ (ap (λ (t : TrackletData). old ++ t ∷ []) same
    ∙ (ap (λ (list : TrackSetData). list ++ (one_at nights (get_or seats i d)).tracklet ∷ []) h
    ∙ sym (ap (tracklets_at nights) (taken seats i seat l (get_or_default seats i d seat l)) ∙ map-append own (take i seats) (seat ∷ []))))
