use Rattle.std.proofs.Common.{◌≡◌, ◌<◌, List, length, ap, subst, sym, ◌∙◌, rules}
use Rattle.set_grow.specs.Nights.{NumberedNightData}
use Rattle.set_grow.specs.Seats.{IsSeat, one_at}
use Rattle.set_grow.specs.SkyData.{SkyData}
use Rattle.set_grow.proofs.Seating.{place_within, seat_within, tracklet_there}
use Rattle.set_grow.proofs.family.Sky.spots_at.Goals as goal

pub bounds-nights-seat : goal.bounds-nights-seat
bounds-nights-seat c =
    let same : c.self.inside.nights.now ≡ c.args.self.now.nights = ap (λ (s : SkyData). s.nights) c.self.view_is in
    let w : IsSeat c.self.inside.nights.now c.args.seat = subst (λ n. IsSeat n c.args.seat) (sym same) c.requires in
    seat_within c.self.inside.nights.now c.args.seat w

pub offset_bounds-nights-seat : goal.offset_bounds-nights-seat
offset_bounds-nights-seat c =
    let same : c.self.inside.nights.now ≡ c.args.self.now.nights = ap (λ (s : SkyData). s.nights) c.self.view_is in
    let w : IsSeat c.self.inside.nights.now c.args.seat = subst (λ n. IsSeat n c.args.seat) (sym same) c.requires in
    let l : c.args.seat.night < length c.self.inside.nights.now = seat_within c.self.inside.nights.now c.args.seat w in
    search rules

pub bounds-tracklets-seat : goal.bounds-tracklets-seat
bounds-tracklets-seat c =
    let same : c.self.inside.nights.now ≡ c.args.self.now.nights = ap (λ (s : SkyData). s.nights) c.self.view_is in
    let w : IsSeat c.self.inside.nights.now c.args.seat = subst (λ n. IsSeat n c.args.seat) (sym same) c.requires in
    rw (c.tracklets.ensures, c.index-nights-seat.is) (place_within c.self.inside.nights.now _ _ w)

pub offset_bounds-tracklets-seat : goal.offset_bounds-tracklets-seat
offset_bounds-tracklets-seat c =
    let same : c.self.inside.nights.now ≡ c.args.self.now.nights = ap (λ (s : SkyData). s.nights) c.self.view_is in
    let w : IsSeat c.self.inside.nights.now c.args.seat = subst (λ n. IsSeat n c.args.seat) (sym same) c.requires in
    let l : c.args.seat.place < length c.tracklets.result.now = rw (c.tracklets.ensures, c.index-nights-seat.is) (place_within c.self.inside.nights.now _ _ w) in
    search rules

pub returns : goal.returns
returns c =
    let same : c.self.inside.nights.now ≡ c.args.self.now.nights = ap (λ (s : SkyData). s.nights) c.self.view_is in
    let w : IsSeat c.self.inside.nights.now c.args.seat = subst (λ n. IsSeat n c.args.seat) (sym same) c.requires in
    let there : c.index-tracklets-seat.result ≡ (one_at c.self.inside.nights.now c.args.seat).tracklet = c.index-tracklets-seat.is ∙ rw (c.tracklets.ensures, c.index-nights-seat.is) (tracklet_there c.self.inside.nights.now _ _ _ w) in
    c.spots.ensures.value ∙ (there ∙ ap (λ (n : List NumberedNightData). (one_at n c.args.seat).tracklet) same)
