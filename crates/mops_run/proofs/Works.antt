-- The work of a run between two lines, and how it ends.
use Rattle.std.proofs.Common.{◌≡◌, ℕ, ◌+◌, ◌++◌, ℤ, pos, ◌+ℤ◌, List, [], ◌∷◌, length, length-append, append_assoc, refl, sym, ◌∙◌, ap, subst, inl, inr, arith}
use Rattle.std.specs.Prelude.{Option, Some, None, IfSome}
use Rattle.std.specs.Str.Lines.{lines}
use Rattle.exposure_log.specs.Held.{ExposureData}
use Rattle.miti_text.specs.Observation.{Observation}
use Rattle.outer_io.specs.Reading.{Reading, ahead, fresh}
use Rattle.outer_io.specs.Supply.{Supply}
use Rattle.sky_units.specs.declared.tallies.Tally.{Tally}
use Rattle.track_report.specs.declared.replies.Reply.{Reply}
use Rattle.window_incr.specs.LinkerState.{LinkerData, LinkerState}
use Rattle.window_incr.specs.Results.{KeepsResults}
use Rattle.window_incr.specs.Work.{IsWorkOfHolding}
use Rattle.mops_run.specs.Commands.{Obeys}
use Rattle.mops_run.specs.Inputs.{RepliesIn}
use Rattle.mops_run.specs.Lines.{said_by}
use Rattle.mops_run.specs.Linking.{IsLeastNight}
use Rattle.mops_run.specs.State.{State, start}
use Rattle.mops_run.specs.Work.{IsWorkAtEnd, IsWorkOfInput, IsWorkOfLine, IsWorkOfLines, IsWorkOfNext, IsWorkToDeliver, IsWorkToHold, IsWorkToLink}
use Rattle.mops_run.specs.declared.inputs.Input.{Input}
use Rattle.mops_run.specs.declared.inputs.Input.TheVariants.{Script, Plain}
use Rattle.mops_run.specs.declared.lines.Command.{Command}
use Rattle.mops_run.specs.declared.lines.Command.TheVariants.{Window}
use Rattle.mops_run.specs.declared.lines.Said.{Said}
use Rattle.mops_run.specs.declared.lines.Said.TheVariants.{Nothing, Waits, Refused, Asks, Malformed}
use Rattle.mops_run.proofs.SoFar.{NextLine, Tells, tells_more, tells_none}

-- ---- no work
pub no_work : (input : Input) (state : State) (said : Said) (t : Tally) → IsWorkOfLine input state said t t
no_work Script state Nothing t = refl
no_work Script state (Waits d) t = refl
no_work Script state (Refused error) t = refl
no_work Script state (Asks command) t = inl refl
no_work Script state (Malformed error) t = inl refl
no_work Plain state said t = refl

pub no_work_at_end : (input : Input) (state : State) (t : Tally) → IsWorkAtEnd input state t t
no_work_at_end Script state t = inl refl
no_work_at_end Plain state t = inl refl

no_work_next : (input : Input) (state : State) (left : List (List ℕ)) (t : Tally) → IsWorkOfNext input state left t t
no_work_next input state [] t = no_work_at_end input state t
no_work_next input state (line ∷ rest) t = no_work input state (said_by line) t

-- ---- the work of a linker
pub work_to_hold : (linker : LinkerData) (exposures : List ExposureData) (before after : Tally) → KeepsResults linker → IsWorkOfHolding linker exposures before after → IsWorkToHold linker.state exposures before after
work_to_hold linker exposures before after keeps work = record { linker = linker; of_state = refl; keeps = keeps; work = work }

-- the window was set, at no cost, and then there was a delivery
pub work_to_link : (old between : LinkerState) (detections : List Observation) (night : ℤ) (window : Reply) (before mid after : Tally) → IsLeastNight old.settings.night_shift detections night
    → Obeys (Window night (night +ℤ pos 29)) old window between → mid ≡ before → IsWorkToDeliver between detections mid after → IsWorkToLink old detections before after
work_to_link old between detections night window before mid after least set same work =
    inr (record { night = night; least = least; window = window; between = between; set = set; delivery = subst (λ (t : Tally). IsWorkToDeliver between detections t after) same work })

-- what waits was delivered, and then a command was obeyed at no cost
pub work_of_command : (state : State) (said : Said) (command : Command) (before mid after : Tally) → said ≡ Asks command → IsWorkToDeliver state.linker state.waiting before mid → after ≡ mid → IsWorkOfLine Script state said before after
work_of_command state said command before mid after is work same =
    subst (λ (s : Said). IsWorkOfLine Script state s before after) (sym is) (subst (λ (t : Tally). IsWorkToDeliver state.linker state.waiting before t) (sym same) work)

-- ---- one line more
one_more : (input : Input) (n : ℕ) (old mid new : State) (answered : List (List ℕ)) (line : List ℕ) (given : List Reply) (before between after : Tally) → IsWorkOfLines input n old answered before between mid
    → RepliesIn input (n + length answered) mid (said_by line) given new → IsWorkOfLine input mid (said_by line) between after → IsWorkOfLines input n old (answered ++ line ∷ []) before after new
one_more input n old mid new [] line given before between after w r k =
    let at_n : RepliesIn input n mid (said_by line) given new = subst (λ (m : ℕ). RepliesIn input m mid (said_by line) given new) (omega arith) r in
    let at_mid : IsWorkOfLine input mid (said_by line) before after = subst (λ (t : Tally). IsWorkOfLine input mid (said_by line) t after) w.0 k in
    (given, new, after, subst (λ (s : State). RepliesIn input n s (said_by line) given new) w.1 at_n, subst (λ (s : State). IsWorkOfLine input s (said_by line) before after) w.1 at_mid, (refl, refl))
one_more input n old mid new (first ∷ answered) line given before between after w r k =
    let next : RepliesIn input ((n + 1) + length answered) mid (said_by line) given new = subst (λ (m : ℕ). RepliesIn input m mid (said_by line) given new) (omega arith) r in
    (w.0, w.1, w.2, w.3, w.4, one_more input (n + 1) w.1 mid new answered line given w.2 between after w.5 next k)

-- after some lines: the tally has come to this by their work
pub record WorkedSoFar (kind : Input) (source_old : Supply) (reader : Reading) (source : Supply) (number : ℕ) (state : State) (before after : Tally) : Type 0 where
  pub seen : List (List ℕ)
  pub answering : IsWorkOfLines kind 1 start seen before after state
  pub counted : number ≡ length seen
  pub tells : Tells source_old.left (ahead reader source) seen reader.ended

pub WorkedSoFar-start : (kind : Input) (source : Supply) (t : Tally) → WorkedSoFar kind source fresh source 0 start t t
WorkedSoFar-start kind source t = record { seen = []; answering = (refl, refl); counted = refl; tells = tells_none source.left }

pub WorkedSoFar-line : (kind : Input) (source_old : Supply) (reader reader' : Reading) (source source' : Supply) (number : ℕ) (state state' : State) (given : List Reply) (before mid after : Tally)
    → WorkedSoFar kind source_old reader source number state before mid → NextLine reader reader' source source' → RepliesIn kind (number + 1) state (said_by reader'.line) given state'
    → IsWorkOfLine kind state (said_by reader'.line) mid after → WorkedSoFar kind source_old reader' source' (number + 1) state' before after
WorkedSoFar-line kind source_old reader reader' source source' number state state' given before mid after so next replies work =
    let more = tells_more source_old.left (ahead reader source) (ahead reader' source') so.seen reader'.line reader.ended reader'.ended next.unended so.tells next.line in
    let numbered : RepliesIn kind (1 + length so.seen) state (said_by reader'.line) given state' = subst (λ (k : ℕ). RepliesIn kind k state (said_by reader'.line) given state') (omega (arith, so.counted)) replies in
    record {
      seen = so.seen ++ more.0 ∷ [];
      answering = one_more kind 1 start state state' so.seen more.0 given before mid after so.answering
          (subst (λ (said : Said). RepliesIn kind (1 + length so.seen) state said given state') more.1 numbered) (subst (λ (said : Said). IsWorkOfLine kind state said mid after) more.1 work);
      counted = omega (arith, length-append so.seen (more.0 ∷ []), so.counted);
      tells = more.2;
    }

-- ---- how it ends
abbrev IsWorkOfTold : Input → Option (List ℕ) → Tally → Tally → Type 0
IsWorkOfTold kind told before after = IfSome told (λ bytes. IsWorkOfInput kind (lines bytes) before after)

-- before any line
pub Worked-nothing : (kind : Input) (told : Option (List ℕ)) (t : Tally) → IsWorkOfTold kind told t t
Worked-nothing kind None t = tt
Worked-nothing kind (Some bytes) t = record { answered = []; left = lines bytes; lines_are = refl; state = start; mid = t; answering = (refl, refl); next = no_work_next kind start (lines bytes) t }

-- between two lines
pub Worked-so_far : (kind : Input) (source_old : Supply) (reader : Reading) (source : Supply) (number : ℕ) (state : State) (before after : Tally) → WorkedSoFar kind source_old reader source number state before after
    → IsWorkOfTold kind source_old.left before after
Worked-so_far kind source_old reader source number state before after so = told source_old.left (ahead reader source) so.tells
  where
    told : (input bytes : Option (List ℕ)) → Tells input bytes so.seen reader.ended → IsWorkOfTold kind input before after
    told None bytes tells = tt
    told (Some all) None tells = absurd tells
    told (Some all) (Some rest) tells = record { answered = so.seen; left = lines rest; lines_are = tells.0; state = state; mid = after; answering = so.answering; next = no_work_next kind state (lines rest) after }

-- at a line that wasn't answered to its end
pub Worked-line : (kind : Input) (source_old : Supply) (reader reader' : Reading) (source source' : Supply) (number : ℕ) (state : State) (before mid after : Tally)
    → WorkedSoFar kind source_old reader source number state before mid → NextLine reader reader' source source' → IsWorkOfLine kind state (said_by reader'.line) mid after → IsWorkOfTold kind source_old.left before after
Worked-line kind source_old reader reader' source source' number state before mid after so next work = told source_old.left (ahead reader' source') more.2
  where
    more : (content : List ℕ) × (said_by reader'.line ≡ said_by content) × Tells source_old.left (ahead reader' source') (so.seen ++ content ∷ []) reader'.ended
    more = tells_more source_old.left (ahead reader source) (ahead reader' source') so.seen reader'.line reader.ended reader'.ended next.unended so.tells next.line

    told : (input bytes : Option (List ℕ)) → Tells input bytes (so.seen ++ more.0 ∷ []) reader'.ended → IsWorkOfTold kind input before after
    told None bytes tells = tt
    told (Some all) None tells = absurd tells
    told (Some all) (Some rest) tells = record {
      answered = so.seen;
      left = more.0 ∷ lines rest;
      lines_are = tells.0 ∙ append_assoc so.seen (more.0 ∷ []) (lines rest);
      state = state;
      mid = mid;
      answering = so.answering;
      next = subst (λ (said : Said). IsWorkOfLine kind state said mid after) more.1 work;
    }

-- at the end of the input
pub Worked-end : (kind : Input) (source_old : Supply) (reader : Reading) (source : Supply) (number : ℕ) (state : State) (before mid after : Tally) → WorkedSoFar kind source_old reader source number state before mid
    → IfSome (ahead reader source) (λ bytes. bytes ≡ []) → IsWorkAtEnd kind state mid after → IsWorkOfTold kind source_old.left before after
Worked-end kind source_old reader source number state before mid after so end work = told source_old.left (ahead reader source) so.tells end
  where
    told : (input bytes : Option (List ℕ)) → Tells input bytes so.seen reader.ended → IfSome bytes (λ xs. xs ≡ []) → IsWorkOfTold kind input before after
    told None bytes tells none = tt
    told (Some all) None tells none = absurd tells
    told (Some all) (Some rest) tells none = record {
      answered = so.seen;
      left = [];
      lines_are = tells.0 ∙ ap (λ (xs : List ℕ). so.seen ++ lines xs) none;
      state = state;
      mid = mid;
      answering = so.answering;
      next = work;
    }
