use Rattle.std.proofs.Common.{◌≡◌, ◌<◌, ◌∷◌, [], ℕ, pos, List, length, get_or, refl, ap, subst, ◌∙◌, rules, arith}
use Rattle.std.proofs.lemmas.List.{get_or-map, length-map}
use Rattle.std.specs.List.{Contains}
use Rattle.bound_prune.specs.EndsData.{EndsData}
use Rattle.closed_sets.proofs.Paying.{paid_none}
use Rattle.set_grow.specs.Costs.{MayBeOfOne}
use Rattle.set_grow.specs.Ends.{ends_at, ends_in, ends_there}
use Rattle.set_grow.specs.Nights.{NumberedNightData}
use Rattle.set_grow.specs.Numbered.{without_numbers}
use Rattle.set_grow.specs.Partners.{ArePartners, IsPartner, partner_of}
use Rattle.set_grow.specs.Seats.{HasNoSeat, IsSeatOf}
use Rattle.set_grow.specs.SkyData.{SkyData}
use Rattle.set_grow.proofs.Members.{in_front, in_none}
use Rattle.set_grow.proofs.PaidBoth.{paid_by_triples}
use Rattle.set_grow.proofs.Partnering.{none_with}
use Rattle.set_grow.proofs.Seating.{place_within, seat_within, tracklet_there}
use Rattle.set_grow.proofs.growing.pairs_around.Goals as goal

pub returns-in_default-clause-pairs : goal.returns-in_default-clause-pairs
returns-in_default-clause-pairs c =
    let nights : c.sky.inside.nights.now ≡ c.args.sky.now.nights = ap (λ (s : SkyData). s.nights) c.sky.view_is in
    let none : HasNoSeat c.args.sky.now.nights c.args.item = subst (λ (n : List NumberedNightData). HasNoSeat n c.args.item) nights c.in_default.ensures in
    λ pair. (
      λ k. absurd (in_none pair (subst (λ (list : List (ℕ × ℕ)). Contains list pair) c.new.ensures.items k)),
      λ f. absurd (none_with c.args.sky.now c.args.item (c.args.item ∷ pair.0 ∷ pair.1 ∷ []) none (in_front c.args.item (pair.0 ∷ pair.1 ∷ [])) f.fit),
    )

pub ends_of-requires : goal.ends_of-requires
ends_of-requires c =
    let nights : c.sky.inside.nights.now ≡ c.args.sky.now.nights = ap (λ (s : SkyData). s.nights) c.sky.view_is in
    let seat : IsSeatOf c.args.sky.now.nights c.args.item c.in-Some.seat = subst (λ (n : List NumberedNightData). IsSeatOf n c.args.item c.in-Some.seat) nights c.in-Some.ensures in
    seat_within c.args.sky.now.nights c.in-Some.seat (c.args.item, seat)

pub bounds-ends_of-seat : goal.bounds-ends_of-seat
bounds-ends_of-seat c =
    let nights : c.sky.inside.nights.now ≡ c.args.sky.now.nights = ap (λ (s : SkyData). s.nights) c.sky.view_is in
    let seat : IsSeatOf c.args.sky.now.nights c.args.item c.in-Some.seat = subst (λ (n : List NumberedNightData). IsSeatOf n c.args.item c.in-Some.seat) nights c.in-Some.ensures in
    let below : c.in-Some.seat.place < length (without_numbers (get_or c.args.sky.now.nights c.in-Some.seat.night (record { number = pos 0; tracklets = [] })).tracklets) = place_within c.args.sky.now.nights c.in-Some.seat (record { number = pos 0; tracklets = [] }) (c.args.item, seat) in
    let ends : c.ends_of.result.now ≡ ends_in c.args.sky.now.settings (without_numbers (get_or c.args.sky.now.nights c.in-Some.seat.night (record { number = pos 0; tracklets = [] })).tracklets) = c.ends_of.ensures (record { number = pos 0; tracklets = [] }) in
    let size : length c.ends_of.result.now ≡ length (without_numbers (get_or c.args.sky.now.nights c.in-Some.seat.night (record { number = pos 0; tracklets = [] })).tracklets) = ap (λ list. length list) ends ∙ length-map (without_numbers (get_or c.args.sky.now.nights c.in-Some.seat.night (record { number = pos 0; tracklets = [] })).tracklets) (ends_at c.args.sky.now.settings) in
    omega (arith, below, size)

pub offset_bounds-ends_of-seat : goal.offset_bounds-ends_of-seat
offset_bounds-ends_of-seat c =
    let nights : c.sky.inside.nights.now ≡ c.args.sky.now.nights = ap (λ (s : SkyData). s.nights) c.sky.view_is in
    let seat : IsSeatOf c.args.sky.now.nights c.args.item c.in-Some.seat = subst (λ (n : List NumberedNightData). IsSeatOf n c.args.item c.in-Some.seat) nights c.in-Some.ensures in
    let below : c.in-Some.seat.place < length (without_numbers (get_or c.args.sky.now.nights c.in-Some.seat.night (record { number = pos 0; tracklets = [] })).tracklets) = place_within c.args.sky.now.nights c.in-Some.seat (record { number = pos 0; tracklets = [] }) (c.args.item, seat) in
    let ends : c.ends_of.result.now ≡ ends_in c.args.sky.now.settings (without_numbers (get_or c.args.sky.now.nights c.in-Some.seat.night (record { number = pos 0; tracklets = [] })).tracklets) = c.ends_of.ensures (record { number = pos 0; tracklets = [] }) in
    let size : length c.ends_of.result.now ≡ length (without_numbers (get_or c.args.sky.now.nights c.in-Some.seat.night (record { number = pos 0; tracklets = [] })).tracklets) = ap (λ list. length list) ends ∙ length-map (without_numbers (get_or c.args.sky.now.nights c.in-Some.seat.night (record { number = pos 0; tracklets = [] })).tracklets) (ends_at c.args.sky.now.settings) in
    let l : c.in-Some.seat.place < length c.ends_of.result.now = omega (arith, below, size) in
    search rules

pub partners_of-requires : goal.partners_of-requires
partners_of-requires c =
    let nights : c.sky.inside.nights.now ≡ c.args.sky.now.nights = ap (λ (s : SkyData). s.nights) c.sky.view_is in
    let seat : IsSeatOf c.args.sky.now.nights c.args.item c.in-Some.seat = subst (λ (n : List NumberedNightData). IsSeatOf n c.args.item c.in-Some.seat) nights c.in-Some.ensures in
    let below : c.in-Some.seat.place < length (without_numbers (get_or c.args.sky.now.nights c.in-Some.seat.night (record { number = pos 0; tracklets = [] })).tracklets) = place_within c.args.sky.now.nights c.in-Some.seat (record { number = pos 0; tracklets = [] }) (c.args.item, seat) in
    let ends : c.ends_of.result.now ≡ ends_in c.args.sky.now.settings (without_numbers (get_or c.args.sky.now.nights c.in-Some.seat.night (record { number = pos 0; tracklets = [] })).tracklets) = c.ends_of.ensures (record { number = pos 0; tracklets = [] }) in
    let size : length c.ends_of.result.now ≡ length (without_numbers (get_or c.args.sky.now.nights c.in-Some.seat.night (record { number = pos 0; tracklets = [] })).tracklets) = ap (λ list. length list) ends ∙ length-map (without_numbers (get_or c.args.sky.now.nights c.in-Some.seat.night (record { number = pos 0; tracklets = [] })).tracklets) (ends_at c.args.sky.now.settings) in
    let read : c.index-ends_of-seat.result ≡ ends_there c.args.sky.now.settings c.args.sky.now.nights c.in-Some.seat =
    c.index-ends_of-seat.is
    ∙ (ap (λ (list : List EndsData). get_or list c.in-Some.seat.place c.index-ends_of-seat.result) ends
    ∙ (get_or-map (ends_at c.args.sky.now.settings) (without_numbers (get_or c.args.sky.now.nights c.in-Some.seat.night (record { number = pos 0; tracklets = [] })).tracklets) c.in-Some.seat.place [] c.index-ends_of-seat.result below
    ∙ ap (ends_at c.args.sky.now.settings) (tracklet_there c.args.sky.now.nights c.in-Some.seat (record { number = pos 0; tracklets = [] }) [] (c.args.item, seat)))) in
    record { seat = seat; ends = read }

pub fitting_pairs-requires-clause-item : goal.fitting_pairs-requires-clause-item
fitting_pairs-requires-clause-item c =
    let nights : c.sky.inside.nights.now ≡ c.args.sky.now.nights = ap (λ (s : SkyData). s.nights) c.sky.view_is in
    let seat : IsSeatOf c.args.sky.now.nights c.args.item c.in-Some.seat = subst (λ (n : List NumberedNightData). IsSeatOf n c.args.item c.in-Some.seat) nights c.in-Some.ensures in
    let below : c.in-Some.seat.place < length (without_numbers (get_or c.args.sky.now.nights c.in-Some.seat.night (record { number = pos 0; tracklets = [] })).tracklets) = place_within c.args.sky.now.nights c.in-Some.seat (record { number = pos 0; tracklets = [] }) (c.args.item, seat) in
    let ends : c.ends_of.result.now ≡ ends_in c.args.sky.now.settings (without_numbers (get_or c.args.sky.now.nights c.in-Some.seat.night (record { number = pos 0; tracklets = [] })).tracklets) = c.ends_of.ensures (record { number = pos 0; tracklets = [] }) in
    let size : length c.ends_of.result.now ≡ length (without_numbers (get_or c.args.sky.now.nights c.in-Some.seat.night (record { number = pos 0; tracklets = [] })).tracklets) = ap (λ list. length list) ends ∙ length-map (without_numbers (get_or c.args.sky.now.nights c.in-Some.seat.night (record { number = pos 0; tracklets = [] })).tracklets) (ends_at c.args.sky.now.settings) in
    let read : c.index-ends_of-seat.result ≡ ends_there c.args.sky.now.settings c.args.sky.now.nights c.in-Some.seat =
    c.index-ends_of-seat.is
    ∙ (ap (λ (list : List EndsData). get_or list c.in-Some.seat.place c.index-ends_of-seat.result) ends
    ∙ (get_or-map (ends_at c.args.sky.now.settings) (without_numbers (get_or c.args.sky.now.nights c.in-Some.seat.night (record { number = pos 0; tracklets = [] })).tracklets) c.in-Some.seat.place [] c.index-ends_of-seat.result below
    ∙ ap (ends_at c.args.sky.now.settings) (tracklet_there c.args.sky.now.nights c.in-Some.seat (record { number = pos 0; tracklets = [] }) [] (c.args.item, seat)))) in
    record { seat = seat; ends = read }

pub returns-in_default-clause-paid : goal.returns-in_default-clause-paid
returns-in_default-clause-paid c = paid_none (MayBeOfOne c.args.sky.now c.args.item) 1 c.args.tally.now.tests c.args.tally.now.tests refl

pub returns-clause-paid : goal.returns-clause-paid
returns-clause-paid c =
    let nights : c.sky.inside.nights.now ≡ c.args.sky.now.nights = ap (λ (s : SkyData). s.nights) c.sky.view_is in
    let seat : IsSeatOf c.args.sky.now.nights c.args.item c.in-Some.seat = subst (λ (n : List NumberedNightData). IsSeatOf n c.args.item c.in-Some.seat) nights c.in-Some.ensures in
    let below : c.in-Some.seat.place < length (without_numbers (get_or c.args.sky.now.nights c.in-Some.seat.night (record { number = pos 0; tracklets = [] })).tracklets) = place_within c.args.sky.now.nights c.in-Some.seat (record { number = pos 0; tracklets = [] }) (c.args.item, seat) in
    let ends : c.ends_of.result.now ≡ ends_in c.args.sky.now.settings (without_numbers (get_or c.args.sky.now.nights c.in-Some.seat.night (record { number = pos 0; tracklets = [] })).tracklets) = c.ends_of.ensures (record { number = pos 0; tracklets = [] }) in
    let size : length c.ends_of.result.now ≡ length (without_numbers (get_or c.args.sky.now.nights c.in-Some.seat.night (record { number = pos 0; tracklets = [] })).tracklets) = ap (λ list. length list) ends ∙ length-map (without_numbers (get_or c.args.sky.now.nights c.in-Some.seat.night (record { number = pos 0; tracklets = [] })).tracklets) (ends_at c.args.sky.now.settings) in
    let read : c.index-ends_of-seat.result ≡ ends_there c.args.sky.now.settings c.args.sky.now.nights c.in-Some.seat =
    c.index-ends_of-seat.is
    ∙ (ap (λ (list : List EndsData). get_or list c.in-Some.seat.place c.index-ends_of-seat.result) ends
    ∙ (get_or-map (ends_at c.args.sky.now.settings) (without_numbers (get_or c.args.sky.now.nights c.in-Some.seat.night (record { number = pos 0; tracklets = [] })).tracklets) c.in-Some.seat.place [] c.index-ends_of-seat.result below
    ∙ ap (ends_at c.args.sky.now.settings) (tracklet_there c.args.sky.now.nights c.in-Some.seat (record { number = pos 0; tracklets = [] }) [] (c.args.item, seat)))) in
    let item : IsPartner c.args.sky.now (partner_of c.args.item c.in-Some.seat c.index-ends_of-seat.result) = record { seat = seat; ends = read } in
    let partners : ArePartners c.args.sky.now (partner_of c.args.item c.in-Some.seat c.index-ends_of-seat.result) c.as_slice.result.now = rw c.as_slice.ensures.value c.in_ok-partners.ensures in
    paid_by_triples c.args.sky.now (partner_of c.args.item c.in-Some.seat c.index-ends_of-seat.result) c.as_slice.result.now c.args.tally.now.tests c.fitting_pairs.new.tally.tests item partners c.fitting_pairs.ensures.paid
