use Rattle.std.proofs.Common.{◌≡◌, ◌<◌, ◌↔◌, List, IsTrue, length, get_or, ap, subst, sym, rules, arith}
use Rattle.std.proofs.lemmas.List.{length-map}
use Rattle.std.proofs.lemmas.List.Elements.{Contains-get_or}
use Rattle.std.specs.List.{Contains}
use Rattle.bound_prune.specs.EndsData.{EndsData}
use Rattle.set_grow.specs.Ends.{MayGo, ends_at, ends_in}
use Rattle.set_grow.specs.Nights.{AreInPlace, NumberedNightData}
use Rattle.set_grow.specs.Numbered.{NumberedTracklet, numbers_in, without_numbers}
use Rattle.set_grow.specs.SkyData.{SkyData}
use Rattle.set_grow.proofs.Partnering.{ends_read, partners_end, partners_step}
use Rattle.set_grow.proofs.others.push_partners.Goals as goal

pub offset_bounds-nights-night : goal.offset_bounds-nights-night
offset_bounds-nights-night c =
    let nights : c.sky.inside.nights.now ≡ c.args.sky.now.nights = ap (λ (s : SkyData). s.nights) c.sky.view_is in
    let l : c.args.night < length c.sky.inside.nights.now = subst (λ (n : List NumberedNightData). c.args.night < length n) (sym nights) c.requires.within in
    search rules

pub may_go_within-wanted-requires : goal.may_go_within-wanted-requires
may_go_within-wanted-requires c = λ may.
    let nights : c.sky.inside.nights.now ≡ c.args.sky.now.nights = ap (λ (s : SkyData). s.nights) c.sky.view_is in
    let is : c.index-nights-night.result ≡ get_or c.args.sky.now.nights c.args.night c.index-nights-night.result = rw nights at c.index-nights-night.is in
    let size : length (numbers_in c.index-nights-night.result.tracklets) ≡ length c.index-nights-night.result.tracklets = length-map c.index-nights-night.result.tracklets (λ (o : NumberedTracklet). o.num) in
    let numbers : c.numbers-numbers.result.now ≡ numbers_in c.index-nights-night.result.tracklets = c.numbers-numbers.ensures in
    let settings : c.sky.inside.settings.now ≡ c.args.sky.now.settings = ap (λ (s : SkyData). s.settings) c.sky.view_is in
    let p : AreInPlace c.args.sky.now.nights c.args.sky.now.table = subst (λ (s : SkyData). AreInPlace s.nights s.table) c.sky.view_is c.sky.invariant.0 in
    let below : c.loop-place.place < length (numbers_in c.index-nights-night.result.tracklets) = subst (λ list. c.loop-place.place < length list) numbers c.loop-place-test.true in
    let l : c.loop-place.place < length c.index-nights-night.result.tracklets = omega (arith, below, size) in
    let ends : c.ends_of-ends.result.now ≡ ends_in c.args.sky.now.settings (without_numbers c.index-nights-night.result.tracklets) = subst (λ (n : NumberedNightData). c.ends_of-ends.result.now ≡ ends_in c.args.sky.now.settings (without_numbers n.tracklets)) (sym is) (c.ends_of-ends.ensures c.index-nights-night.result) in
    let read : c.loop-place.place < length c.ends_of-ends.result.now = rw (ap (λ (list : List EndsData). length list) ends, length-map (without_numbers c.index-nights-night.result.tracklets) (ends_at c.args.sky.now.settings), length-map c.index-nights-night.result.tracklets (λ (o : NumberedTracklet). o.tracklet)) l in
    let there : Contains c.ends_of-ends.result.now c.index-ends-place.result = subst (Contains c.ends_of-ends.result.now) (sym c.index-ends-place.is) (Contains-get_or c.ends_of-ends.result.now c.loop-place.place c.index-ends-place.result read) in
    let listed : Contains (ends_in c.args.sky.now.settings (without_numbers c.index-nights-night.result.tracklets)) c.index-ends-place.result = subst (λ (list : List EndsData). Contains list c.index-ends-place.result) ends there in
    let here : Contains (ends_in c.args.sky.now.settings (without_numbers (get_or c.args.sky.now.nights c.args.night c.index-nights-night.result).tracklets)) c.index-ends-place.result = subst (λ (n : NumberedNightData). Contains (ends_in c.args.sky.now.settings (without_numbers n.tracklets)) c.index-ends-place.result) is listed in
    c.range_around-range.ensures c.index-nights-night.result c.index-ends-place.result here (rw settings at may)

pub loop-place-preserved : goal.loop-place-preserved
loop-place-preserved c =
    let nights : c.sky.inside.nights.now ≡ c.args.sky.now.nights = ap (λ (s : SkyData). s.nights) c.sky.view_is in
    let is : c.index-nights-night.result ≡ get_or c.args.sky.now.nights c.args.night c.index-nights-night.result = rw nights at c.index-nights-night.is in
    let size : length (numbers_in c.index-nights-night.result.tracklets) ≡ length c.index-nights-night.result.tracklets = length-map c.index-nights-night.result.tracklets (λ (o : NumberedTracklet). o.num) in
    let numbers : c.numbers-numbers.result.now ≡ numbers_in c.index-nights-night.result.tracklets = c.numbers-numbers.ensures in
    let settings : c.sky.inside.settings.now ≡ c.args.sky.now.settings = ap (λ (s : SkyData). s.settings) c.sky.view_is in
    let p : AreInPlace c.args.sky.now.nights c.args.sky.now.table = subst (λ (s : SkyData). AreInPlace s.nights s.table) c.sky.view_is c.sky.invariant.0 in
    let below : c.loop-place.place < length (numbers_in c.index-nights-night.result.tracklets) = subst (λ list. c.loop-place.place < length list) numbers c.loop-place-test.true in
    let l : c.loop-place.place < length c.index-nights-night.result.tracklets = omega (arith, below, size) in
    let ends : c.ends_of-ends.result.now ≡ ends_in c.args.sky.now.settings (without_numbers c.index-nights-night.result.tracklets) = subst (λ (n : NumberedNightData). c.ends_of-ends.result.now ≡ ends_in c.args.sky.now.settings (without_numbers n.tracklets)) (sym is) (c.ends_of-ends.ensures c.index-nights-night.result) in
    let tested = ends_read c.args.sky.now.settings c.index-nights-night.result.tracklets c.ends_of-ends.result.now c.loop-place.place c.index-ends-place.result ends l c.index-ends-place.is in
    let pushed = ends_read c.args.sky.now.settings c.index-nights-night.result.tracklets c.ends_of-ends.result.now c.loop-place.place c.index-ends-place-in-loop-place.result ends l c.index-ends-place-in-loop-place.is in
    let says : IsTrue c.may_go_within-wanted.result ↔ MayGo c.args.sky.now.settings c.args.item.now.seat.night c.args.item.now.ends c.args.night c.index-ends-place.result = rw settings at c.may_go_within-wanted.ensures in
    let says_so : IsTrue c.may_go_within-wanted.result ↔ MayGo c.args.sky.now.settings c.args.item.now.seat.night c.args.item.now.ends c.args.night c.index-ends-place-in-loop-place.result = subst (λ (e : EndsData). IsTrue c.may_go_within-wanted.result ↔ MayGo c.args.sky.now.settings c.args.item.now.seat.night c.args.item.now.ends c.args.night e) (sym pushed) (subst (λ (e : EndsData). IsTrue c.may_go_within-wanted.result ↔ MayGo c.args.sky.now.settings c.args.item.now.seat.night c.args.item.now.ends c.args.night e) tested says) in
    partners_step c.args.sky.now c.args.item.now c.args.night c.loop-place.place (get_or c.numbers-numbers.result.now c.loop-place.place 0) c.index-nights-night.result c.index-ends-place-in-loop-place.result c.may_go_within-wanted.result c.loop-place.partners.items c.push_where.new.partners.items p c.requires.within is l
    (ap (λ list. get_or list c.loop-place.place 0) numbers) pushed says_so c.loop-place.invariant c.in_ok-push_where.ensures

pub returns : goal.returns
returns c =
    let nights : c.sky.inside.nights.now ≡ c.args.sky.now.nights = ap (λ (s : SkyData). s.nights) c.sky.view_is in
    let is : c.index-nights-night.result ≡ get_or c.args.sky.now.nights c.args.night c.index-nights-night.result = rw nights at c.index-nights-night.is in
    let size : length (numbers_in c.index-nights-night.result.tracklets) ≡ length c.index-nights-night.result.tracklets = length-map c.index-nights-night.result.tracklets (λ (o : NumberedTracklet). o.num) in
    let numbers : c.numbers-numbers.result.now ≡ numbers_in c.index-nights-night.result.tracklets = c.numbers-numbers.ensures in
    let at_most = c.loop-place.auto.place-end in
    let end = c.loop-place-test.false in
    let all : length c.numbers-numbers.result.now ≡ length (numbers_in c.index-nights-night.result.tracklets) = ap (λ list. length list) numbers in
    partners_end c.args.sky.now c.args.item.now c.args.night c.loop-place.place c.index-nights-night.result c.loop-place.partners.items c.requires.within is (omega (arith, at_most, end, all, size)) c.loop-place.invariant
