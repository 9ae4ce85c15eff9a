use Rattle.std.proofs.Common.{◌≡◌, ◌≤◌, ◌+◌, List, ℕ, length, take, refl, sym, subst, ap, inl, inr, ◌∙◌, arith}
use Rattle.std.proofs.lemmas.List.{with_items_is}
use Rattle.std.proofs.lemmas.List.Edits.{length-between}
use Rattle.std.proofs.lemmas.Slice.{between_from_start}
use Rattle.std.specs.Prelude.{slice_range}
use Rattle.std.specs.Str.Lines.{strip_carriage_return}
use Rattle.std.specs.Vec.{with_items}
use Rattle.outer_io.specs.Seen.{NoFeed}
use Rattle.outer_io.specs.Reached.{ReachedFrom}
use Rattle.outer_io.specs.Advance.{PassesFeed, PassesLast, Fails, Overflows}
use Rattle.outer_io.specs.contracts.line_reader.LineReader.{the_view}
use Rattle.outer_io.specs.declared.line_reader.Reached.TheVariants.{Feed, End, Failed, TooLong}
use Rattle.outer_io.proofs.Advancing.{at_view, passes_feed, passes_last, fails, overflows}
use Rattle.outer_io.proofs.line_reader.LineReader.read_on.Goals as goal

pub returns-in-Feed-clause-advances : goal.returns-in-Feed-clause-advances
returns-in-Feed-clause-advances g c =
    let buffer : List ℕ = c.read_behind.new.buffer in
    let items : (with_items c.self.inside.buffer buffer).items ≡ buffer = with_items_is c.self.inside.buffer buffer (omega arith) in
    let counted : length (slice_range c.self.inside.buffer.items c.self.inside.start c.self.inside.end) ≤ c.self.inside.took =
    omega (arith, length-between c.self.inside.buffer.items c.self.inside.start c.self.inside.end c.self.invariant.within) in
    let none : NoFeed (slice_range c.self.inside.buffer.items c.self.inside.start c.self.inside.end) = subst (λ r. NoFeed r.held) (sym c.self.view_is) c.requires.none in
    let reached = subst (λ xs. ReachedFrom (slice_range xs c.self.inside.start c.self.inside.end) buffer c.self.inside.took c.read_behind.new.took
    (g.S.Source.supply c.args.source.now) (g.S.Source.supply c.read_behind.new.source) (Feed c.in-Feed.feed c.in-Feed.end)) c.as_mut_slice.ensures.value c.in-Feed.ensures in
    let whole : slice_range c.as_slice.result.now 0 c.in-Feed.feed ≡ take c.in-Feed.feed buffer =
    ap (λ xs. slice_range xs 0 c.in-Feed.feed) (c.as_slice.ensures.value ∙ items) ∙ between_from_start buffer c.in-Feed.feed in
    inl (at_view PassesFeed _ _ _ _ _ c.self.view_is (passes_feed (the_view c.self.inside) _ buffer c.in-Feed.feed c.in-Feed.end _ _
    c.if-self.false counted none reached (ap (λ xs. slice_range xs (c.in-Feed.feed + 1) c.in-Feed.end) items)
    (ap (λ xs. slice_range xs 0 c.content_end-self-inside.result) (sym c.as_slice.ensures.value) ∙ c.content_end-self-inside.ensures.content
    ∙ ap (λ l. take 1025 (strip_carriage_return l)) whole)
    c.if-self.false (ap (λ r. r.stopped) c.self.view_is ∙ c.requires.unstopped)))

pub returns-else-begun-eq0-clause-advances : goal.returns-else-begun-eq0-clause-advances
returns-else-begun-eq0-clause-advances g c =
    let buffer : List ℕ = c.read_behind.new.buffer in
    let items : (with_items c.self.inside.buffer buffer).items ≡ buffer = with_items_is c.self.inside.buffer buffer (omega arith) in
    let counted : length (slice_range c.self.inside.buffer.items c.self.inside.start c.self.inside.end) ≤ c.self.inside.took =
    omega (arith, length-between c.self.inside.buffer.items c.self.inside.start c.self.inside.end c.self.invariant.within) in
    let none : NoFeed (slice_range c.self.inside.buffer.items c.self.inside.start c.self.inside.end) = subst (λ r. NoFeed r.held) (sym c.self.view_is) c.requires.none in
    let reached = subst (λ xs. ReachedFrom (slice_range xs c.self.inside.start c.self.inside.end) buffer c.self.inside.took c.read_behind.new.took
    (g.S.Source.supply c.args.source.now) (g.S.Source.supply c.read_behind.new.source) (End c.in-End.begun)) c.as_mut_slice.ensures.value c.in-End.ensures in
    inr (at_view PassesLast _ _ _ _ _ c.self.view_is (passes_last (the_view c.self.inside) _ buffer c.in-End.begun _ _
    c.if-self.false counted none reached (omega (arith, reached.1)) (omega arith) refl
    (ap (λ xs. slice_range xs 0 c.min-self-inside.result) items ∙ between_from_start buffer c.min-self-inside.result ∙ ap (λ n. take n buffer) c.min-self-inside.ensures)
    refl (ap (λ r. r.stopped) c.self.view_is ∙ c.requires.unstopped)))

pub returns-in-Failed-clause-advances : goal.returns-in-Failed-clause-advances
returns-in-Failed-clause-advances g c =
    let buffer : List ℕ = c.read_behind.new.buffer in
    let counted : length (slice_range c.self.inside.buffer.items c.self.inside.start c.self.inside.end) ≤ c.self.inside.took =
    omega (arith, length-between c.self.inside.buffer.items c.self.inside.start c.self.inside.end c.self.invariant.within) in
    let none : NoFeed (slice_range c.self.inside.buffer.items c.self.inside.start c.self.inside.end) = subst (λ r. NoFeed r.held) (sym c.self.view_is) c.requires.none in
    let reached = subst (λ xs. ReachedFrom (slice_range xs c.self.inside.start c.self.inside.end) buffer c.self.inside.took c.read_behind.new.took
    (g.S.Source.supply c.args.source.now) (g.S.Source.supply c.read_behind.new.source) Failed) c.as_mut_slice.ensures.value c.in-Failed.ensures in
    at_view Fails _ _ _ _ _ c.self.view_is (fails (the_view c.self.inside) _ buffer _ _ c.if-self.false counted none reached refl refl c.if-self.false refl)

pub returns-in-TooLong-clause-advances : goal.returns-in-TooLong-clause-advances
returns-in-TooLong-clause-advances g c =
    let buffer : List ℕ = c.read_behind.new.buffer in
    let counted : length (slice_range c.self.inside.buffer.items c.self.inside.start c.self.inside.end) ≤ c.self.inside.took =
    omega (arith, length-between c.self.inside.buffer.items c.self.inside.start c.self.inside.end c.self.invariant.within) in
    let none : NoFeed (slice_range c.self.inside.buffer.items c.self.inside.start c.self.inside.end) = subst (λ r. NoFeed r.held) (sym c.self.view_is) c.requires.none in
    let reached = subst (λ xs. ReachedFrom (slice_range xs c.self.inside.start c.self.inside.end) buffer c.self.inside.took c.read_behind.new.took
    (g.S.Source.supply c.args.source.now) (g.S.Source.supply c.read_behind.new.source) TooLong) c.as_mut_slice.ensures.value c.in-TooLong.ensures in
    at_view Overflows _ _ _ _ _ c.self.view_is (overflows (the_view c.self.inside) _ buffer _ _ c.if-self.false counted none reached refl refl c.if-self.false refl)
