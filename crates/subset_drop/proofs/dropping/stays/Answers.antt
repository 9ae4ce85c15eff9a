use Rattle.std.proofs.Common.{ℕ, ◌<◌, length, map, get_or, ◌∙◌}
use Rattle.std.proofs.lemmas.List.{length-map}
use Rattle.std.proofs.lemmas.List.Elements.{All-contains}
use Rattle.subset_drop.proofs.Keeping.{answers, stays_beside}
use Rattle.subset_drop.proofs.Steps.{numbers_there}
use Rattle.subset_drop.proofs.dropping.stays.Goals as goal

pub passes_holders-requires-clause-holders : goal.passes_holders-requires-clause-holders
passes_holders-requires-clause-holders c = λ k d l.
    let places = c.requires.index.held.places in
    let inside : (get_or c.rarest.result.now k d).1 < length (map (λ list. list.items) c.args.lists.now) = All-contains (λ (pair : ℕ × ℕ). pair.1 < length (map (λ list. list.items) c.args.lists.now)) c.args.index.now (get_or c.rarest.result.now k d) places (c.rarest.ensures.2.among k d l) in
    simp length-map at inside

pub returns : goal.returns
returns c =
    let there = numbers_there c.args.lists.now c.args.place c.index-lists-place.result c.requires.place c.index-lists-place.is in
    let l : c.args.place < length (map (λ list. list.items) c.args.lists.now) = simp length-map c.requires.place in
    answers c.passes_holders.result
    (stays_beside (map (λ list. list.items) c.args.lists.now) c.args.place c.args.index.now c.rarest.result.now c.as_slice-numbers.result.now l c.requires.index (c.as_slice-numbers.ensures.value ∙ there) c.rarest.ensures)
    c.passes_holders.ensures
