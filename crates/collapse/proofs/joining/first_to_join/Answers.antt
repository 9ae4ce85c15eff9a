use Rattle.std.proofs.Common.{◌-◌, ◌/◌, ◌+◌, ◌<◌, ℕ, [], length, map, subst, sym, ap, ◌∙◌, arith}
use Rattle.std.proofs.lemmas.List.{length-map}
use Rattle.std.specs.List.{All}
use Rattle.std.specs.Prelude.{min}
use Rattle.collapse.specs.Strips.{IsEntry, PlacesDontFall}
use Rattle.collapse.proofs.Searching.{found_in_strips, list_read, searched_one, strip_within}
use Rattle.collapse.proofs.joining.first_to_join.Goals as goal

pub first_in-requires-clause-entries : goal.first_in-requires-clause-entries
first_in-requires-clause-entries c =
    let inside : c.loop-strip.strip < length c.args.strips.now = strip_within c.loop-strip.strip c.min-strip-end.result (length c.args.strips.now) _ c.loop-strip-test.true c.min-strip-end.ensures in
    let read = c.as_slice.ensures.value ∙ list_read (λ list. list.items) c.args.strips.now c.loop-strip.strip c.index-strips-strip.result inside c.index-strips-strip.is in
    subst (All (IsEntry c.args.groups.now)) (sym read) (c.requires.filed.entries c.loop-strip.strip [] (omega (arith, inside, length-map c.args.strips.now (λ list. list.items))))

pub loop-strip-preserved : goal.loop-strip-preserved
loop-strip-preserved c =
    let inside : c.loop-strip.strip < length c.args.strips.now = strip_within c.loop-strip.strip c.min-strip-end.result (length c.args.strips.now) _ c.loop-strip-test.true c.min-strip-end.ensures in
    let read = c.as_slice.ensures.value ∙ list_read (λ list. list.items) c.args.strips.now c.loop-strip.strip c.index-strips-strip.result inside c.index-strips-strip.is in
    searched_one c.args.settings.now c.args.spots.now c.args.pair c.args.groups.now (map (λ list. list.items) c.args.strips.now) _ c.loop-strip.strip c.loop-strip.first c.in_ok-first.first c.as_slice.result.now c.loop-strip.auto.strip read c.loop-strip.invariant c.in_ok-first.ensures

pub returns : goal.returns
returns c =
    let here = c.height-here.ensures.value in
    let low = c.saturating_sub.ensures ∙ ap (λ (h : ℕ). h - c.args.grid.reach) here in
    let end = c.min-strip-end.ensures ∙ ap (λ (h : ℕ). min (length c.args.strips.now) ((h + c.args.grid.reach) / c.args.grid.width + 1)) here in
    found_in_strips (λ list. list.items) c.args.settings.now c.args.spots.now c.args.pair c.args.groups.now c.args.strips.now c.args.grid.width c.args.grid.reach c.saturating_sub.result c.min-strip-end.result c.loop-strip.strip c.loop-strip.first c.index-spots-pair.result
    c.requires.pair c.requires.groups c.requires.grid.positive c.requires.grid.covers c.requires.filed c.index-spots-pair.is low end c.loop-strip-test.false c.loop-strip.invariant

pub first_in-requires-clause-in_order : goal.first_in-requires-clause-in_order
first_in-requires-clause-in_order c =
    let inside : c.loop-strip.strip < length c.args.strips.now = strip_within c.loop-strip.strip c.min-strip-end.result (length c.args.strips.now) _ c.loop-strip-test.true c.min-strip-end.ensures in
    let read = c.as_slice.ensures.value ∙ list_read (λ list. list.items) c.args.strips.now c.loop-strip.strip c.index-strips-strip.result inside c.index-strips-strip.is in
    subst PlacesDontFall (sym read) (c.requires.filed.in_order c.loop-strip.strip [] (omega (arith, inside, length-map c.args.strips.now (λ list. list.items)))).places
