-- How the reader's steps follow from what a run of reads came to.
use Rattle.std.proofs.Common.{◌≡◌, ◌<◌, ℕ, ◌+◌, ◌-◌, ◌^◌, ◌≤◌, Bool, true, false, cond, List, [], ◌∷◌, ◌++◌, length, take, min, sym, ap, subst, ◌∙◌, ⊎_elim, arith, refl, length-take, append_assoc}
use Rattle.std.proofs.lemmas.Bool.{cases_lt}
use Rattle.std.proofs.lemmas.List.{take-take, take_all, append-nil}
use Rattle.std.proofs.Math.Dec.{eqb}
use Rattle.std.specs.Prelude.{slice_range, slice_index}
use Rattle.std.specs.Str.Lines.{strip_carriage_return}
use Rattle.outer_io.proofs.Begun.{NoFeed-append, Took-none}
use Rattle.outer_io.proofs.Pieces.{take-take-append, take_min, range_at}
use Rattle.outer_io.specs.Supply.{Supply}
use Rattle.outer_io.specs.Seen.{NoFeed, FeedAt}
use Rattle.outer_io.specs.Reached.{KeepsFront, ReachedFrom}
use Rattle.outer_io.specs.Reading.{Reading}
use Rattle.outer_io.specs.Advance.{PassesFeed, PassesLast, Fails, Overflows}
use Rattle.outer_io.specs.declared.line_reader.Reached.{Reached}
use Rattle.outer_io.specs.declared.line_reader.Reached.TheVariants.{Feed, End, Failed, TooLong}

-- a long line's content is cut before its end, whether it loses a carriage return or not
content_of_long : (line : List ℕ) → 1026 ≤ length line → take 1025 (strip_carriage_return line) ≡ take 1025 line
content_of_long line long = elim (eqb (slice_index line (length line - 1)) 13) as (λ b. take 1025 (cond b (take (length line - 1) line) line) ≡ take 1025 line) [
  | true ↦ take-take 1025 (length line - 1) line (omega arith)
  | false ↦ refl
]

-- the content of a line is that of its front
pub content_of_front : (front line : List ℕ) → KeepsFront front line → take 1025 (strip_carriage_return front) ≡ take 1025 (strip_carriage_return line)
content_of_front front line same = ⊎_elim
    (λ short.
    let len : length (take 1026 front) ≡ length (take 1026 line) = ap length same in
    let short_line : length line ≤ 1026 = omega (arith, length-take 1026 front, length-take 1026 line) in
    ap (λ l. take 1025 (strip_carriage_return l)) (sym (take_all 1026 front (omega arith)) ∙ same ∙ take_all 1026 line short_line))
    (λ long.
    let len : length (take 1026 front) ≡ length (take 1026 line) = ap length same in
    let long_line : 1026 ≤ length line = omega (arith, length-take 1026 front, length-take 1026 line) in
    content_of_long front long ∙ sym (take-take 1025 1026 front (omega arith)) ∙ ap (λ l. take 1025 l) same
    ∙ take-take 1025 1026 line (omega arith) ∙ sym (content_of_long line long_line))
    (cases_lt (length front) 1026)

-- a run of reads from the front of a begun line is one from the whole of it
pub reached_from_front : (held buffer begun : List ℕ) (took_old took_new : ℕ) (s t : Supply) (reached : Reached) → begun ≡ take 1026 held
    → ReachedFrom begun buffer took_old took_new s t reached → ReachedFrom held buffer took_old took_new s t reached
reached_from_front held buffer begun took_old took_new s t (Feed feed end) is r =
    (r.0, r.1, r.2, r.3 ∙ ap (λ l. take 1026 (l ++ r.0)) is ∙ take-take-append 1026 held r.0, r.4, r.5, r.6, r.7)
reached_from_front held buffer begun took_old took_new s t (End len) is r =
    (r.0, r.1, r.2 ∙ ap (λ l. take 1026 (l ++ r.0)) is ∙ take-take-append 1026 held r.0, r.3, r.4, r.5, r.6)
reached_from_front held buffer begun took_old took_new s t Failed is r = r
reached_from_front held buffer begun took_old took_new s t TooLong is r = r

pub passes_feed : (r n : Reading) (buffer : List ℕ) (feed end : ℕ) (s t : Supply) → r.ended ≡ false → length r.held ≤ r.took → NoFeed r.held
    → ReachedFrom r.held buffer r.took n.took s t (Feed feed end) → n.held ≡ slice_range buffer (feed + 1) end
    → n.line ≡ take 1025 (strip_carriage_return (take feed buffer)) → n.ended ≡ false → n.stopped ≡ false → PassesFeed r n s t
passes_feed r n buffer feed end s t unended counted none reached held line unended_now going =
    let seen : List ℕ = reached.0 in
    record {
      raw = r.held ++ seen;
      given = seen ++ 10 ∷ slice_range buffer (feed + 1) end;
      none = NoFeed-append r.held seen none reached.4;
      cut = sym (append_assoc r.held seen _) ∙ ap (λ t. (r.held ++ seen) ++ 10 ∷ t) (sym held);
      line = line ∙ content_of_front (take feed buffer) (r.held ++ seen) reached.3;
      moved = record { took = reached.5; unended = unended; ended = unended_now; held = counted; counted = reached.6.sum };
      limit = omega (arith, reached.6.within);
      going = going;
      faults = reached.7;
    }

pub passes_last : (r n : Reading) (buffer : List ℕ) (len : ℕ) (s t : Supply) → r.ended ≡ false → length r.held ≤ r.took → NoFeed r.held
    → ReachedFrom r.held buffer r.took n.took s t (End len) → len ≤ length buffer → 0 < len → n.held ≡ []
    → n.line ≡ take (min len 1025) buffer → n.ended ≡ true → n.stopped ≡ false → PassesLast r n s t
passes_last r n buffer len s t unended counted none reached within some held line ended going =
    let seen : List ℕ = reached.0 in
    let front : take len buffer ≡ take 1026 (r.held ++ seen) = reached.2 in
    let counts : length (take len buffer) ≡ length (take 1026 (r.held ++ seen)) = ap length front in
    record {
      given = seen;
      none = NoFeed-append r.held seen none reached.3;
      some = omega (arith, length-take len buffer, length-take 1026 (r.held ++ seen));
      line = line ∙ take_min len 1025 buffer ∙ ap (λ l. take 1025 l) front ∙ take-take 1025 1026 (r.held ++ seen) (omega arith);
      held = held;
      moved = record { took = reached.4; unended = unended; ended = ended; held = counted; counted = reached.5.sum };
      limit = omega (arith, reached.5.within);
      going = going;
      faults = reached.6;
    }

pub fails : (r n : Reading) (buffer : List ℕ) (s t : Supply) → r.ended ≡ false → length r.held ≤ r.took → NoFeed r.held
    → ReachedFrom r.held buffer r.took n.took s t Failed → n.held ≡ [] → n.line ≡ [] → n.ended ≡ false → n.stopped ≡ true → Fails r n s t
fails r n buffer s t unended counted none reached held line unended_now stopped = record {
  given = reached.0;
  none = NoFeed-append r.held reached.0 none reached.1;
  moved = record { took = reached.2; unended = unended; ended = unended_now; held = counted; counted = reached.3.sum };
  limit = omega (arith, reached.3.within);
  stops = record { stopped = stopped; held = held; line = line };
  faults = reached.4;
}

pub overflows : (r n : Reading) (buffer : List ℕ) (s t : Supply) → r.ended ≡ false → length r.held ≤ r.took → NoFeed r.held
    → ReachedFrom r.held buffer r.took n.took s t TooLong → n.held ≡ [] → n.line ≡ [] → n.ended ≡ false → n.stopped ≡ true → Overflows r n s t
overflows r n buffer s t unended counted none reached held line unended_now stopped = record {
  given = reached.0;
  extra = reached.1;
  none = NoFeed-append r.held reached.0 none reached.2;
  moved = record { took = reached.3; unended = unended; ended = unended_now; held = counted; counted = reached.4.sum };
  limit = reached.5;
  stops = record { stopped = stopped; held = held; line = line };
  faults = reached.6;
}

-- a step of a reader that is seen as v is one of v
pub at_view : (P : Reading → Reading → Supply → Supply → Type 0) (v r n : Reading) (s t : Supply) → v ≡ r → P v n s t → P r n s t
at_view P v r n s t is p = subst (λ x. P x n s t) is p

pub not_true : (b : Bool) → (b ≡ true → ⊥) → b ≡ false
not_true true h = absurd (h refl)
not_true false h = refl

-- a whole line was held back
pub passes_waiting : (r n : Reading) (buffer : List ℕ) (start end feed : ℕ) (s : Supply) → r.ended ≡ false → length r.held ≤ r.took → r.took < 2 ^ 32
    → r.held ≡ slice_range buffer start end → end ≤ length buffer → FeedAt buffer start end feed
    → n.held ≡ slice_range buffer (feed + 1) end → n.line ≡ take 1025 (strip_carriage_return (slice_range buffer start feed))
    → n.took ≡ r.took → n.ended ≡ false → n.stopped ≡ false → PassesFeed r n s s
passes_waiting r n buffer start end feed s unended counted limit was within at held line took unended_now going = record {
  raw = slice_range buffer start feed;
  given = [];
  none = at.2;
  cut = append-nil r.held ∙ was ∙ range_at buffer start feed end at.0 at.1 within at.3 ∙ ap (λ t. slice_range buffer start feed ++ 10 ∷ t) (sym held);
  line = line;
  moved = record { took = Took-none s; unended = unended; ended = unended_now; held = counted; counted = omega arith };
  limit = omega arith;
  going = going;
  faults = refl;
}
