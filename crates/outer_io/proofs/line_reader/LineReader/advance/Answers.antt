use Rattle.std.proofs.Common.{◌≡◌, ◌≤◌, List, ℕ, length, take, false, refl, sym, subst, ap, inl, ◌∙◌, arith}
use Rattle.std.proofs.lemmas.List.Edits.{length-between}
use Rattle.std.specs.Prelude.{slice_range}
use Rattle.std.specs.Str.Lines.{strip_carriage_return}
use Rattle.outer_io.specs.Seen.{FeedAt}
use Rattle.outer_io.specs.Advance.{PassesFeed}
use Rattle.outer_io.specs.contracts.line_reader.LineReader.{the_view}
use Rattle.outer_io.proofs.Advancing.{at_view, passes_waiting, not_true}
use Rattle.outer_io.proofs.line_reader.LineReader.advance.Goals as goal

pub returns-in-Some-clause-advances : goal.returns-in-Some-clause-advances
returns-in-Some-clause-advances g c =
    let buffer : List ℕ = c.self.inside.buffer.items in
    let counted : length (slice_range buffer c.self.inside.start c.self.inside.end) ≤ c.self.inside.took =
    omega (arith, length-between buffer c.self.inside.start c.self.inside.end c.self.invariant.within) in
    let going : c.self.inside.stopped ≡ false = ap (λ r. r.stopped) c.self.view_is ∙ c.requires.unstopped in
    let at : FeedAt buffer c.self.inside.start c.self.inside.end c.in-Some.feed =
    subst (λ xs. FeedAt xs c.self.inside.start c.self.inside.end c.in-Some.feed) c.as_slice.ensures.value c.in-Some.ensures in
    let unended : c.self.inside.ended ≡ false = not_true c.self.inside.ended (λ e. let same = c.self.invariant.none_held e in omega (arith, at.0, at.1)) in
    inl (at_view PassesFeed _ _ _ _ _ c.self.view_is (passes_waiting (the_view c.self.inside) _ buffer c.self.inside.start c.self.inside.end c.in-Some.feed _
    unended counted (c.self.invariant.unstopped going) refl c.self.invariant.within at refl
    (ap (λ xs. slice_range xs c.self.inside.start c.content_end-self-inside.result) (sym c.as_slice-in-Some.ensures.value) ∙ c.content_end-self-inside.ensures.content
    ∙ ap (λ xs. take 1025 (strip_carriage_return (slice_range xs c.self.inside.start c.in-Some.feed))) c.as_slice-in-Some.ensures.value)
    refl unended going))
