-- What holds of a run between two lines.
use Rattle.std.proofs.Common.{◌≡◌, ℕ, ◌+◌, ◌^◌, ◌<◌, ◌≤◌, ◌++◌, List, [], ◌∷◌, length, map, refl, sym, ◌∙◌, ap, subst, append_assoc, append-nil, arith, Bool, true, false, ◌||◌, inl, inr, length-append, lit<}
use Rattle.std.specs.Prelude.{◌⊎◌, Option, Some, None, IfSome, IsSomeAnd, Result, Ok, Err, ◌↔◌}
use Rattle.std.specs.List.{flat_map, list_any}
use Rattle.std.specs.Str.Lines.{lines, strip_carriage_return}
use Rattle.std.proofs.lemmas.List.{map-append}
use Rattle.std.proofs.lemmas.List.Elements.{All-append, All-cons, All-nil}
use Rattle.std.specs.Io.KnownBytes.{Consumes, IsAtEnd, prepend_known}
use Rattle.std.proofs.KnownBytes.{Appends-nil, Appends-trans, Consumes-nil, Consumes-trans}
use Rattle.std.proofs.lemmas.List.Folds.{list_any-append}
use Rattle.std.proofs.lemmas.Grind.{flat_map-append}
use Rattle.outer_io.specs.Supply.{Supply, risen}
use Rattle.outer_io.specs.Receipt.{Receipt, IsFlushed}
use Rattle.outer_io.specs.Reading.{Reading, ahead, used, fresh, BeginsWithLine, HandsOut, SawNoLine, CountsOn, Ends, FaultsAfter}
use Rattle.outer_io.specs.Seen.{NoFeed}
use Rattle.outer_io.specs.declared.line_reader.Got.{Got}
use Rattle.outer_io.specs.declared.line_reader.Got.TheVariants.{Line, End}
use Rattle.outer_io.specs.declared.line_reader.ReadStop.{ReadStop}
use Rattle.outer_io.specs.declared.line_reader.ReadStop.TheVariants.{TooLong}
use Rattle.window_incr.specs.LinkerState.{LinkerState}
use Rattle.mops_run.specs.declared.inputs.Input.{Input}
use Rattle.mops_run.specs.declared.inputs.Input.TheVariants.{Script, Plain}
use Rattle.mops_run.specs.Inputs.{RepliesIn, EndsIn}
use Rattle.mops_run.specs.State.{State, start}
use Rattle.mops_run.specs.Replies.{Replies}
use Rattle.track_report.specs.Refusals.{is_refusal}
use Rattle.mops_run.specs.Output.{text_of_all}
use Rattle.track_report.specs.Texts.{text_of}
use Rattle.mops_run.specs.Output.{WritesText, WritesTextFront, FailsIn}
use Rattle.mops_run.specs.Watch.{Answers, AnswersAll}
use Rattle.mops_run.specs.Answering.{Answered, FailsToAnswer, Finished, FailsToFinish}
use Rattle.mops_run.specs.Part.{BeginWithLines, IsBeyond, WritesTaken, with_feed}
use Rattle.mops_run.specs.Promise.{WritesAll, WritesFront, Takes}
use Rattle.mops_run.specs.declared.top.Status.{Status}
use Rattle.mops_run.specs.declared.top.Status.TheVariants.{InputTooLong}
use Rattle.mops_run.specs.declared.lines.Said.{Said}
use Rattle.mops_run.specs.declared.lines.Said.TheVariants.{Nothing, Waits, Refused, Asks, Malformed}
use Rattle.mops_run.specs.Lines.{said_by, said_of}
use Rattle.track_report.specs.declared.replies.Reply.{Reply}
use Rattle.mops_run.proofs.Receipts.{WritesText-then}
use Rattle.mops_run.proofs.Cut.{script_line_of-take}
use Rattle.mops_run.proofs.Agreement.{Answers-only, AnswersAll-only}
use Rattle.mops_run.proofs.Runs.{Answers-append, Answers-split}

-- the lines of an input that is told are those seen and those ahead; before the end a line feed ends each line that was seen
abbrev pub Tells : Option (List ℕ) → Option (List ℕ) → List (List ℕ) → Bool → Type 0
Tells input bytes seen ended = IfSome input (λ all. IsSomeAnd bytes (λ rest. (lines all ≡ seen ++ lines rest) × (ended ≡ false → BeginWithLines all seen rest)))

-- so many bytes were taken from a source, and they were its next ones
pub record TakesBytes (old new : Supply) (count : ℕ) : Type 0 where
  pub given : List ℕ
  pub bytes : Consumes old.left new.left given
  pub sum : count ≡ length given
  pub counted : new.taken ≡ risen old.taken count

-- after some lines: the replies to them are written, and they have led to this state
pub record SoFar (kind : Input) (source_old : Supply) (reader : Reading) (source : Supply) (sink_old sink : Receipt) (number : ℕ) (state : State) (refused : Bool) : Type 0 where
  pub seen : List (List ℕ)
  pub replies : List Reply
  pub answers : Answers kind 1 start seen replies state
  pub counted : number ≡ length seen
  pub few : length state.waiting ≤ number
  pub adds : WritesText sink_old sink (text_of_all replies)
  pub refused_is : refused ≡ list_any is_refusal replies
  pub tells : Tells source_old.left (ahead reader source) seen reader.ended
  pub passed : number ≤ used reader
  pub taken : TakesBytes source_old source reader.took
  pub within : reader.took < 2 ^ 32
  pub unstopped : reader.stopped ≡ false
  pub spent : reader.ended ≡ true → (source.ended ≡ true) × IsAtEnd source.left
  pub faults : source.faults ≡ source_old.faults

-- no line was seen yet
pub tells_none : (left : Option (List ℕ)) → Tells left (prepend_known [] left) [] false
tells_none None = tt
tells_none (Some bytes) = (refl, λ _. record { raw = []; each = All-nil NoFeed; parts = refl; contents_are = refl })

-- nothing was read or written yet
pub SoFar-start : (kind : Input) (source : Supply) (sink : Receipt) → SoFar kind source fresh source sink sink 0 start false
SoFar-start kind source sink = record {
  seen = [];
  replies = [];
  answers = (refl, refl);
  counted = refl;
  few = omega arith;
  adds = record { bytes = Appends-nil sink.written; whole = inl refl; faults = refl };
  refused_is = refl;
  tells = tells_none source.left;
  passed = omega arith;
  taken = record { given = []; bytes = Consumes-nil source.left; sum = refl; counted = omega arith };
  within = lit< tt;
  unstopped = refl;
  spent = λ no. cc;
  faults = refl;
}

-- a step of the reader to a line, from before the end
pub record NextLine (reader reader' : Reading) (source source' : Supply) : Type 0 where
  pub line : IfSome (ahead reader source) (λ bytes. IsSomeAnd (ahead reader' source') (λ rest. HandsOut bytes reader'.line rest reader'.ended))
  pub counts : CountsOn reader reader' source source'
  pub within : reader'.took < 2 ^ 32
  pub progress : used reader < used reader'
  pub ends : Ends reader reader' source source'
  pub unended : reader.ended ≡ false
  pub unstopped : reader'.stopped ≡ false
  pub faults : source'.faults ≡ source.faults

-- one more line that a line feed ends
front_more : (all bytes rest content : List ℕ) (seen : List (List ℕ)) (last : Bool) → BeginWithLines all seen bytes → BeginsWithLine bytes content rest last
    → last ≡ false → BeginWithLines all (seen ++ content ∷ []) rest
front_more all bytes rest content seen true front begins is = cc
front_more all bytes rest content seen false front begins is =
    let raw : List ℕ = begins.0 in
    let none : NoFeed raw = begins.1 in
    let one : flat_map with_feed (raw ∷ []) ≡ raw ++ 10 ∷ [] = append-nil (raw ++ 10 ∷ []) in
    record {
      raw = front.raw ++ raw ∷ [];
      each = All-append NoFeed front.raw (raw ∷ []) front.each (All-cons NoFeed raw [] none (All-nil NoFeed));
      parts = front.parts ∙ ap (λ xs. flat_map with_feed front.raw ++ xs) (begins.2 ∙ sym (append_assoc raw (10 ∷ []) rest) ∙ ap (λ xs. xs ++ rest) (sym one))
          ∙ sym (append_assoc (flat_map with_feed front.raw) (flat_map with_feed (raw ∷ [])) rest)
          ∙ ap (λ xs. xs ++ rest) (sym (flat_map-append with_feed front.raw (raw ∷ [])));
      contents_are = ap (λ xs. xs ++ content ∷ []) front.contents_are ∙ ap (λ x. map strip_carriage_return front.raw ++ x ∷ []) begins.3
          ∙ sym (map-append strip_carriage_return front.raw (raw ∷ []));
    }

-- one more line of an input that is told; where it isn't, what was handed out stands for it
pub tells_more : (input bytes rest : Option (List ℕ)) (seen : List (List ℕ)) (line : List ℕ) (was last : Bool) → was ≡ false → Tells input bytes seen was
    → IfSome bytes (λ xs. IsSomeAnd rest (λ ys. HandsOut xs line ys last))
    → (content : List ℕ) × (said_by line ≡ said_by content) × Tells input rest (seen ++ content ∷ []) last
tells_more None bytes rest seen line was last not_ended tells next = (line, refl, tt)
tells_more (Some all) None rest seen line was last not_ended tells next = absurd tells
tells_more (Some all) (Some xs) None seen line was last not_ended tells next = absurd next
tells_more (Some all) (Some xs) (Some ys) seen line was last not_ended tells next =
    let first : lines xs ≡ next.content ∷ lines ys = next.first in (
      next.content,
      ap said_by next.cut ∙ ap said_of (script_line_of-take next.content),
      (
        tells.0 ∙ ap (λ ls. seen ++ ls) first ∙ sym (append_assoc seen (next.content ∷ []) (lines ys)),
        front_more all xs ys next.content seen last (tells.1 not_ended) next.place,
      ),
    )

-- one more detection at most waits after a line
waits_on : (old new : State) → new ≡ old → length new.waiting ≤ length old.waiting + 1
waits_on old new same = omega (arith, ap (λ (s : State). length s.waiting) same)

script_waiting : (n : ℕ) (old new : State) (said : Said) (given : List Reply) → Replies n old said given new → length new.waiting ≤ length old.waiting + 1
script_waiting n old new Nothing given a = waits_on old new a.1
script_waiting n old new (Waits d) given a = omega (arith, ap (λ (s : State). length s.waiting) a.1, length-append old.waiting (d ∷ []))
script_waiting n old new (Refused error) given a = waits_on old new a.1
script_waiting n old new (Asks command) given a = omega (arith, ap length a.none_waits)
script_waiting n old new (Malformed error) given a = omega (arith, ap length a.none_waits)

waiting_more : (kind : Input) (n : ℕ) (old new : State) (said : Said) (given : List Reply) → RepliesIn kind n old said given new → length new.waiting ≤ length old.waiting + 1
waiting_more Script n old new said given a = script_waiting n old new said given a
waiting_more Plain n old new Nothing given a = waits_on old new a.1
waiting_more Plain n old new (Waits d) given a = script_waiting n old new (Waits d) given a
waiting_more Plain n old new (Refused error) given a = waits_on old new a.1
waiting_more Plain n old new (Asks command) given a = waits_on old new a.1
waiting_more Plain n old new (Malformed error) given a = waits_on old new a.1

-- two rises of a count, one behind the other
risen-then : (first mid last m more n : ℕ) → mid ≡ risen first m → last ≡ risen mid more → n ≡ m + more → last ≡ risen first n
risen-then first mid last m more n a b sum = omega (arith, a, b, sum)

-- the bytes of one more step of the reader
pub takes_more : (source_old : Supply) (reader reader' : Reading) (source source' : Supply) → TakesBytes source_old source reader.took
    → CountsOn reader reader' source source' → TakesBytes source_old source' reader'.took
takes_more source_old reader reader' source source' taken counts = record {
  given = taken.given ++ counts.given;
  bytes = Consumes-trans source_old.left source.left source'.left taken.given counts.given taken.bytes counts.bytes;
  sum = omega (arith, taken.sum, counts.counted, length-append taken.given counts.given);
  counted = risen-then source_old.taken source.taken source'.taken reader.took (length counts.given) reader'.took taken.counted counts.taken counts.counted;
}

pub or_true : (b : Bool) → (b || true) ≡ true
or_true true = refl
or_true false = refl

-- the answers so far, and those to one more line
one_more : (kind : Input) (seen : List (List ℕ)) (content line : List ℕ) (number : ℕ) (state state' : State) (so_far given : List Reply) → Answers kind 1 start seen so_far state → number ≡ length seen
    → said_by line ≡ said_by content → RepliesIn kind (number + 1) state (said_by line) given state' → Answers kind 1 start (seen ++ content ∷ []) (so_far ++ given) state'
one_more kind seen content line number state state' so_far given answers counted same replies =
    let numbered : RepliesIn kind (1 + length seen) state (said_by line) given state' = subst (λ k. RepliesIn kind k state (said_by line) given state') (omega (arith, counted)) replies in
    let now : RepliesIn kind (1 + length seen) state (said_by content) given state' = subst (λ said. RepliesIn kind (1 + length seen) state said given state') same numbered in
    Answers-append kind 1 start state state' seen (content ∷ []) so_far given answers (given, [], state', now, (refl, refl), sym (append-nil given))

-- what was answered so far, and one more line
pub SoFar-line : (kind : Input) (source_old : Supply) (reader reader' : Reading) (source source' : Supply) (sink_old sink sink' : Receipt) (number : ℕ)
    (state state' : State) (refused bad refused' : Bool)
    → SoFar kind source_old reader source sink_old sink number state refused → NextLine reader reader' source source'
    → Answered kind (number + 1) state (said_by reader'.line) sink sink' bad state' → refused' ≡ (refused || bad)
    → SoFar kind source_old reader' source' sink_old sink' (number + 1) state' refused'
SoFar-line kind source_old reader reader' source source' sink_old sink sink' number state state' refused bad refused' so next answered refused_is =
    let more = tells_more source_old.left (ahead reader source) (ahead reader' source') so.seen reader'.line reader.ended reader'.ended next.unended so.tells next.line in
    let texts : text_of_all (so.replies ++ answered.given) ≡ text_of_all so.replies ++ text_of_all answered.given = flat_map-append text_of so.replies answered.given in
    let waiting : length state'.waiting ≤ length state.waiting + 1 = waiting_more kind (number + 1) state state' (said_by reader'.line) answered.given answered.replies in
    let bad_is : bad ≡ list_any is_refusal answered.given = answered.says.refused_is in
    record {
      seen = so.seen ++ more.0 ∷ [];
      replies = so.replies ++ answered.given;
      answers = one_more kind so.seen more.0 reader'.line number state state' so.replies answered.given so.answers so.counted more.1 answered.replies;
      counted = omega (arith, length-append so.seen (more.0 ∷ []), so.counted);
      few = omega (arith, waiting, so.few);
      adds = rw texts (WritesText-then sink_old sink sink' (text_of_all so.replies) (text_of_all answered.given) so.adds answered.says.adds);
      refused_is = refused_is ∙ ap (λ b. b || bad) so.refused_is ∙ ap (λ b. list_any is_refusal so.replies || b) bad_is ∙ sym (list_any-append is_refusal so.replies answered.given);
      tells = more.2;
      passed = omega (arith, so.passed, next.progress);
      taken = takes_more source_old reader reader' source source' so.taken next.counts;
      within = next.within;
      unstopped = next.unstopped;
      spent = λ ended. (next.ends.marked next.unended ∙ rw ended (or_true source.ended), next.ends.none_left next.unended ended);
      faults = next.faults ∙ so.faults;
    }

-- the replies so far are the front of all replies
replies_ahead : (kind : Input) (seen more all : List (List ℕ)) (so_far given : List Reply) (state : State) → all ≡ seen ++ more → Answers kind 1 start seen so_far state → AnswersAll kind all given
    → (later : List Reply) × (given ≡ so_far ++ later)
replies_ahead kind seen more all so_far given state parts front whole =
    let answers : Answers kind 1 start (seen ++ more) whole.so_far whole.state = subst (λ ls. Answers kind 1 start ls whole.so_far whole.state) parts whole.answers in
    let split = Answers-split kind 1 start whole.state seen more whole.so_far answers in
    let same : (split.first ≡ so_far) × (split.mid ≡ state) = Answers-only kind 1 start seen split.first so_far split.mid state split.before front in (
      split.second ++ whole.last,
      whole.given_is ∙ ap (λ r. r ++ whole.last) (split.given_is ∙ ap (λ p. p ++ split.second) same.0) ∙ append_assoc so_far split.second whole.last,
    )

-- what was written so far is a front of what the whole input asks for
pub WritesFront-so_far : (kind : Input) (source_old : Supply) (reader : Reading) (source : Supply) (sink_old sink : Receipt) (number : ℕ) (state : State) (refused : Bool)
    → SoFar kind source_old reader source sink_old sink number state refused → IfSome source_old.left (λ input. WritesFront kind input sink_old sink)
WritesFront-so_far kind source_old reader source sink_old sink number state refused so = front source_old.left (ahead reader source) so.tells
  where
    front : (input bytes : Option (List ℕ)) → Tells input bytes so.seen reader.ended → IfSome input (λ all. WritesFront kind all sink_old sink)
    front None bytes tells = tt
    front (Some all) None tells = absurd tells
    front (Some all) (Some rest) tells = λ given whole.
        let later = replies_ahead kind so.seen (lines rest) (lines all) so.replies given state tells.0 so.answers whole in
        (text_of_all so.replies, text_of_all later.0, ap text_of_all later.1 ∙ flat_map-append text_of so.replies later.0, so.adds.bytes)

-- texts, of which one is cut
texts_around : (before middle behind all : List Reply) (front back : List ℕ) → all ≡ (before ++ middle) ++ behind → text_of_all middle ≡ front ++ back
    → text_of_all all ≡ (text_of_all before ++ front) ++ (back ++ text_of_all behind)
texts_around before middle behind all front back parts cut =
    ap text_of_all parts ∙ flat_map-append text_of (before ++ middle) behind
    ∙ ap (λ t. t ++ text_of_all behind) (flat_map-append text_of before middle ∙ ap (λ t. text_of_all before ++ t) cut)
    ∙ simp append_assoc

-- a front of the texts of some more replies was added behind what was written so far
front_of : (so_far given later all : List Reply) (old mid new : Receipt) → WritesText old mid (text_of_all so_far) → FailsIn mid new (text_of_all given) → all ≡ (so_far ++ given) ++ later
    → WritesTextFront old new (text_of_all all)
front_of so_far given later all old mid new adds fails parts =
    let part = fails.bytes in (
      text_of_all so_far ++ part.0,
      part.1 ++ text_of_all later,
      texts_around so_far given later all part.0 part.1 parts part.2,
      Appends-trans old.written mid.written new.written (text_of_all so_far) part.0 adds.bytes part.3,
    )

-- the same where a write failed in the middle of the replies to one more line
pub WritesFront-failed : (kind : Input) (source_old : Supply) (reader reader' : Reading) (source source' : Supply) (sink_old sink sink' : Receipt) (number : ℕ) (state : State) (refused : Bool)
    → SoFar kind source_old reader source sink_old sink number state refused → NextLine reader reader' source source'
    → FailsToAnswer kind (number + 1) state (said_by reader'.line) sink sink' → IfSome source_old.left (λ input. WritesFront kind input sink_old sink')
WritesFront-failed kind source_old reader reader' source source' sink_old sink sink' number state refused so next failed =
    front source_old.left (ahead reader' source') more.2
  where
    more : (content : List ℕ) × (said_by reader'.line ≡ said_by content) × Tells source_old.left (ahead reader' source') (so.seen ++ content ∷ []) reader'.ended
    more = tells_more source_old.left (ahead reader source) (ahead reader' source') so.seen reader'.line reader.ended reader'.ended next.unended so.tells next.line

    upto : Answers kind 1 start (so.seen ++ more.0 ∷ []) (so.replies ++ failed.given) failed.after
    upto = one_more kind so.seen more.0 reader'.line number state failed.after so.replies failed.given so.answers so.counted more.1 failed.replies

    front : (input bytes : Option (List ℕ)) → Tells input bytes (so.seen ++ more.0 ∷ []) reader'.ended → IfSome input (λ all. WritesFront kind all sink_old sink')
    front None bytes tells = tt
    front (Some all) None tells = absurd tells
    front (Some all) (Some rest) tells = λ given whole.
        let later = replies_ahead kind (so.seen ++ more.0 ∷ []) (lines rest) (lines all) (so.replies ++ failed.given) given failed.after tells.0 upto whole in
        front_of so.replies failed.given later.0 given sink_old sink sink' so.adds failed.fails later.1

-- the replies to a whole input whose lines were all seen: those so far, and those of what still waits
answers_all : (kind : Input) (all rest : List ℕ) (seen : List (List ℕ)) (so_far last : List Reply) (state : State) (linker : LinkerState) → lines all ≡ seen ++ lines rest → rest ≡ []
    → Answers kind 1 start seen so_far state → EndsIn kind state last linker → AnswersAll kind (lines all) (so_far ++ last)
answers_all kind all rest seen so_far last state linker tells none answers ending =
    let whole : lines all ≡ seen = tells ∙ ap (λ xs. seen ++ lines xs) none ∙ append-nil seen in
    record {
      so_far = so_far;
      state = state;
      last = last;
      linker = linker;
      answers = subst (λ ls. Answers kind 1 start ls so_far state) (sym whole) answers;
      ending = ending;
      given_is = refl;
    }

-- the same where a write failed in the middle of the replies of what waited at the end
pub WritesFront-unfinished : (kind : Input) (source_old : Supply) (reader : Reading) (source : Supply) (sink_old sink sink' : Receipt) (number : ℕ) (state : State) (refused : Bool)
    → SoFar kind source_old reader source sink_old sink number state refused → IfSome (ahead reader source) (λ bytes. bytes ≡ [])
    → FailsToFinish kind state sink sink' → IfSome source_old.left (λ input. WritesFront kind input sink_old sink')
WritesFront-unfinished kind source_old reader source sink_old sink sink' number state refused so end failed = front source_old.left (ahead reader source) so.tells end
  where
    front : (input bytes : Option (List ℕ)) → Tells input bytes so.seen reader.ended → IfSome bytes (λ xs. xs ≡ []) → IfSome input (λ all. WritesFront kind all sink_old sink')
    front None bytes tells none = tt
    front (Some all) None tells none = absurd tells
    front (Some all) (Some rest) tells none = λ given whole.
        let mine : AnswersAll kind (lines all) (so.replies ++ failed.given) = answers_all kind all rest so.seen so.replies failed.given state failed.linker tells.0 none so.answers failed.ending in
        let same : given ≡ so.replies ++ failed.given = AnswersAll-only kind (lines all) given (so.replies ++ failed.given) whole mine in
        front_of so.replies failed.given [] given sink_old sink sink' so.adds failed.fails (same ∙ sym (append-nil (so.replies ++ failed.given)))

-- at the end all of it is written
pub WritesAll-end : (kind : Input) (source_old : Supply) (reader : Reading) (source : Supply) (sink_old sink sink' : Receipt) (number : ℕ) (state : State) (refused bad : Bool)
    → SoFar kind source_old reader source sink_old sink number state refused → IfSome (ahead reader source) (λ bytes. bytes ≡ [])
    → Finished kind state sink sink' bad → IfSome source_old.left (λ input. WritesAll kind input sink_old sink' (refused || bad))
WritesAll-end kind source_old reader source sink_old sink sink' number state refused bad so end finished = whole source_old.left (ahead reader source) so.tells end
  where
    whole : (input bytes : Option (List ℕ)) → Tells input bytes so.seen reader.ended → IfSome bytes (λ xs. xs ≡ []) → IfSome input (λ all. WritesAll kind all sink_old sink' (refused || bad))
    whole None bytes tells none = tt
    whole (Some all) None tells none = absurd tells
    whole (Some all) (Some rest) tells none =
        let texts : text_of_all (so.replies ++ finished.given) ≡ text_of_all so.replies ++ text_of_all finished.given = flat_map-append text_of so.replies finished.given in
        let bad_is : bad ≡ list_any is_refusal finished.given = finished.says.refused_is in (
          so.replies ++ finished.given,
          answers_all kind all rest so.seen so.replies finished.given state finished.linker tells.0 none so.answers finished.ending,
          rw texts (WritesText-then sink_old sink sink' (text_of_all so.replies) (text_of_all finished.given) so.adds finished.says.adds),
          ap (λ b. b || bad) so.refused_is ∙ ap (λ b. list_any is_refusal so.replies || b) bad_is ∙ sym (list_any-append is_refusal so.replies finished.given),
        )

-- the whole is a front of itself
pub WritesFront-whole : (kind : Input) (left : Option (List ℕ)) (old new : Receipt) (refused : Bool) → IfSome left (λ input. WritesAll kind input old new refused) → IfSome left (λ input. WritesFront kind input old new)
WritesFront-whole kind None old new refused whole = tt
WritesFront-whole kind (Some input) old new refused whole = λ given answers.
    let same : given ≡ whole.0 = AnswersAll-only kind (lines input) given whole.0 answers whole.1 in
    (text_of_all whole.0, [], ap text_of_all same ∙ sym (append-nil (text_of_all whole.0)), whole.2.bytes)

-- the step of a reader that answered a line
pub NextLine-from : (reader reader' : Reading) (source source' : Supply) (result : Result Got ReadStop) → result ≡ Ok Line
    → (result ≡ Ok Line → IfSome (ahead reader source) (λ bytes. IsSomeAnd (ahead reader' source') (λ rest. HandsOut bytes reader'.line rest reader'.ended)))
    → FaultsAfter result source.faults source'.faults → CountsOn reader reader' source source' → ((result ≡ Err TooLong) ↔ (reader'.took ≡ 2 ^ 32))
    → (result ≡ Ok Line → used reader < used reader') → Ends reader reader' source source' → ((reader'.stopped ≡ false) ↔ (result ≡ Ok Line))
    → (reader.ended ≡ true → result ≡ Ok End) → NextLine reader reader' source source'
NextLine-from reader reader' source source' result is line faults counts limit progress ends stopped over =
    let not_long : reader'.took ≡ 2 ^ 32 → ⊥ = λ h. let long : result ≡ Err TooLong = limit.1 h in cc in
    record {
      line = line is;
      counts = counts;
      within = omega (arith, not_long, counts.within);
      progress = progress is;
      ends = ends;
      unended = unended reader.ended over;
      unstopped = stopped.1 is;
      faults = subst (λ (r : Result Got ReadStop). FaultsAfter r source.faults source'.faults) is faults;
    }
  where
    unended : (b : Bool) → (b ≡ true → result ≡ Ok End) → b ≡ false
    unended true h = let ended : result ≡ Ok End = h refl in cc
    unended false h = refl

-- the bytes that were taken, at an end that isn't for too long an input
pub Takes-within : (status : Status) (source_old source source' : Supply) (reader reader' : Reading) → TakesBytes source_old source reader.took
    → CountsOn reader reader' source source' → (status ≡ InputTooLong → ⊥) → (reader'.took ≡ 2 ^ 32 → ⊥) → Takes status source_old source'
Takes-within status source_old source source' reader reader' taken counts other within =
    let more = takes_more source_old reader reader' source source' taken counts in
    record {
      given = more.given;
      bytes = more.bytes;
      counted = subst (λ n. source'.taken ≡ risen source_old.taken n) more.sum more.counted;
      within = omega (arith, more.sum, counts.within);
      too_long = (λ h. absurd (other h), λ h. absurd (within (more.sum ∙ h)));
    }

-- the same, at the end for too long an input
pub Takes-too_long : (source_old source source' : Supply) (reader reader' : Reading) → TakesBytes source_old source reader.took
    → CountsOn reader reader' source source' → reader'.took ≡ 2 ^ 32 → Takes InputTooLong source_old source'
Takes-too_long source_old source source' reader reader' taken counts full =
    let more = takes_more source_old reader reader' source source' taken counts in
    record {
      given = more.given;
      bytes = more.bytes;
      counted = subst (λ n. source'.taken ≡ risen source_old.taken n) more.sum more.counted;
      within = omega (arith, more.sum, counts.within);
      too_long = (λ _. sym more.sum ∙ full, λ _. refl);
    }

-- what was answered are the whole lines of the bytes taken, where reading stops before the end
pub WritesTaken-so_far : (kind : Input) (status : Status) (source_old : Supply) (reader reader' : Reading) (source source' : Supply) (sink_old sink : Receipt) (number : ℕ) (state : State) (refused : Bool)
    (extra : List ℕ) → SoFar kind source_old reader source sink_old sink number state refused → reader.ended ≡ false → SawNoLine reader reader' source source' extra → IsBeyond status extra
    → IfSome source_old.left (λ bytes. WritesTaken kind status source_old source' sink_old sink)
WritesTaken-so_far kind status source_old reader reader' source source' sink_old sink number state refused extra so unended saw beyond =
    taken source_old.left (ahead reader source) source'.left refl refl so.tells saw.bytes
  where
    taken : (input bytes left : Option (List ℕ)) → source_old.left ≡ input → source'.left ≡ left → Tells input bytes so.seen reader.ended → Consumes bytes left (saw.seen ++ extra)
        → IfSome input (λ all. WritesTaken kind status source_old source' sink_old sink)
    taken None bytes left was now tells takes = tt
    taken (Some all) None left was now tells takes = absurd tells
    taken (Some all) (Some rest) None was now tells takes = absurd takes
    taken (Some all) (Some rest) (Some ys) was now tells takes =
        let front : BeginWithLines all so.seen rest = tells.1 unended in
        let lines_of : List ℕ = flat_map with_feed front.raw in
        let parts : all ≡ ((lines_of ++ saw.seen) ++ extra) ++ ys = front.parts ∙ ap (λ xs. lines_of ++ xs) takes ∙ (simp append_assoc) in
        record {
          taken = lines_of ++ saw.seen;
          extra = extra;
          bytes = rw (was, now) parts;
          beyond = beyond;
          ended = record {
            contents = so.seen;
            ended = (saw.seen, saw.none, record { raw = front.raw; each = front.each; parts = refl; contents_are = front.contents_are });
            replies = so.replies;
            state = state;
            answers = so.answers;
            adds = so.adds;
          };
        }
