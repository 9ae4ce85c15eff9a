use Rattle.std.proofs.Common.{◌≡◌, ◌<◌, None, Some, length, sym, ap, ◌∙◌, rules}
use Rattle.std.proofs.lemmas.Option.{get_or_from_slice_get, slice_get_within}
use Rattle.std.specs.List.{slice_get}
use Rattle.set_grow.specs.Nights.{NumberedNightData}
use Rattle.set_grow.specs.Numbered.{numbers_in}
use Rattle.set_grow.proofs.Seating.{none_by_night, none_by_number, none_by_place, none_by_table, seat_found}
use Rattle.set_grow.proofs.seats.seat_of.Goals as goal

pub bounds-nights-night : goal.bounds-nights-night
bounds-nights-night c = slice_get_within c.args.nights.now c.in_ok-night.night c.in_ok-night.ensures.0 c.in_ok-night.ensures.1

pub offset_bounds-nights-night : goal.offset_bounds-nights-night
offset_bounds-nights-night c =
    let l : c.in_ok-night.night < length c.args.nights.now = slice_get_within c.args.nights.now c.in_ok-night.night c.in_ok-night.ensures.0 c.in_ok-night.ensures.1 in
    search rules

pub returns-in_err-place : goal.returns-in_err-place
returns-in_err-place c = rw c.from_residual.ensures (none_by_table c.args.nights.now c.args.table.now c.args.number c.requires (sym c.in_err-place.ensures))

pub returns-in_err-night : goal.returns-in_err-night
returns-in_err-night c = rw c.from_residual-in_err-night.ensures (none_by_night c.args.nights.now c.args.table.now c.args.number c.in_ok-place.place c.requires (sym c.in_ok-place.ensures) (rw c.in_err-night.was at c.night_of.ensures))

pub returns-in_err-found : goal.returns-in_err-found
returns-in_err-found c =
    let night : NumberedNightData = c.in_ok-night.ensures.0 in
    let is : c.index-nights-night.result ≡ c.in_ok-night.ensures.0 = c.index-nights-night.is ∙ get_or_from_slice_get c.args.nights.now c.in_ok-night.night c.in_ok-night.ensures.0 _ c.in_ok-night.ensures.1 in
    let numbers : c.numbers.result.now ≡ numbers_in c.in_ok-night.ensures.0.tracklets = c.numbers.ensures ∙ ap (λ (n : NumberedNightData). numbers_in n.tracklets) is in
    let there : slice_get (numbers_in c.in_ok-night.ensures.0.tracklets) c.in_ok-place.place.place ≡ None = rw numbers at (sym c.in_err-found.ensures) in
    rw c.from_residual-in_err-found.ensures (none_by_place c.args.nights.now c.args.table.now c.args.number c.in_ok-night.night c.in_ok-place.place night c.requires (sym c.in_ok-place.ensures) c.in_ok-night.ensures.1 c.in_ok-night.ensures.2 there)

pub returns-then-found-number : goal.returns-then-found-number
returns-then-found-number c =
    let night : NumberedNightData = c.in_ok-night.ensures.0 in
    let is : c.index-nights-night.result ≡ c.in_ok-night.ensures.0 = c.index-nights-night.is ∙ get_or_from_slice_get c.args.nights.now c.in_ok-night.night c.in_ok-night.ensures.0 _ c.in_ok-night.ensures.1 in
    let numbers : c.numbers.result.now ≡ numbers_in c.in_ok-night.ensures.0.tracklets = c.numbers.ensures ∙ ap (λ (n : NumberedNightData). numbers_in n.tracklets) is in
    let there : slice_get (numbers_in c.in_ok-night.ensures.0.tracklets) c.in_ok-place.place.place ≡ Some c.in_ok-found.found = rw numbers at (sym c.in_ok-found.ensures) in
    none_by_number c.args.nights.now c.args.table.now c.args.number c.in_ok-night.night c.in_ok-found.found c.in_ok-place.place night c.requires (sym c.in_ok-place.ensures) c.in_ok-night.ensures.1 c.in_ok-night.ensures.2 there c.if-found-number.true

pub returns : goal.returns
returns c =
    let night : NumberedNightData = c.in_ok-night.ensures.0 in
    let is : c.index-nights-night.result ≡ c.in_ok-night.ensures.0 = c.index-nights-night.is ∙ get_or_from_slice_get c.args.nights.now c.in_ok-night.night c.in_ok-night.ensures.0 _ c.in_ok-night.ensures.1 in
    let numbers : c.numbers.result.now ≡ numbers_in c.in_ok-night.ensures.0.tracklets = c.numbers.ensures ∙ ap (λ (n : NumberedNightData). numbers_in n.tracklets) is in
    let there : slice_get (numbers_in c.in_ok-night.ensures.0.tracklets) c.in_ok-place.place.place ≡ Some c.in_ok-found.found = rw numbers at (sym c.in_ok-found.ensures) in
    let same : c.in_ok-found.found ≡ c.args.number = c.if-found-number.false in
    seat_found c.args.nights.now c.args.number c.in_ok-night.night c.in_ok-place.place.place night c.in_ok-night.ensures.1 (there ∙ ap (λ n. Some n) same)
