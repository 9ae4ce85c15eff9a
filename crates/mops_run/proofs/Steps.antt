-- How the replies to one line come about.
use Rattle.std.proofs.Common.{◌≡◌, ℕ, ◌++◌, List, [], ◌∷◌, refl, sym, ap, subst, arith, false, inl}
use Rattle.std.proofs.KnownBytes.{Appends-nil}
use Rattle.std.specs.Prelude.{IfOk, Result, Ok, Err}
use Rattle.miti_text.specs.Observation.{Observation}
use Rattle.window_incr.specs.LinkerState.{LinkerState}
use Rattle.track_report.specs.declared.replies.Reply.{Reply}
use Rattle.outer_io.specs.Receipt.{Receipt}
use Rattle.mops_run.specs.declared.inputs.Input.{Input}
use Rattle.mops_run.specs.declared.inputs.Input.TheVariants.{Script, Plain}
use Rattle.mops_run.specs.declared.lines.Said.{Said}
use Rattle.mops_run.specs.declared.lines.Said.TheVariants.{Waits}
use Rattle.mops_run.specs.Answering.{Answered}
use Rattle.mops_run.specs.Inputs.{RepliesIn}
use Rattle.mops_run.specs.Deliveries.{Delivers}
use Rattle.mops_run.specs.Replies.{RepliesLast}
use Rattle.mops_run.specs.Linking.{Links, LinksSome}
use Rattle.mops_run.specs.State.{state_of}

-- what waits is delivered, and then a line has its own reply
pub replies_last : (Own : LinkerState → Reply → LinkerState → Type 0) (old mid new : LinkerState) (waiting : List Observation) (delivered : List Reply) (own : Reply) → Delivers old waiting delivered mid
    → Own mid own new → RepliesLast Own (state_of old waiting) (delivered ++ own ∷ []) (state_of new [])
replies_last Own old mid new waiting delivered own delivery replied = record {
  delivered = delivered;
  own = own;
  between = mid;
  delivery = delivery;
  replied = replied;
  none_waits = refl;
  given_is = refl;
}

-- what holds whatever the linker is
pub at_one : {X E K : Type 0} (P : K → X → Type 0) (k : K) (r : Result X E) → IfOk r (λ x. (other : K) → P other x) → IfOk r (P k)
at_one P k (Ok x) h = h k
at_one P k (Err e) h = tt

-- detections that have a least night are some
pub links_some : (old : LinkerState) (ds : List Observation) (given : List Reply) (new : LinkerState) → LinksSome old ds given new → Links old ds given new
links_some old [] given new some = absurd (omega (arith, some.least.among.1.1))
links_some old (d ∷ ds) given new some = some

-- a detection joins those that wait, and nothing is said
joins : (input : Input) (n : ℕ) (linker : LinkerState) (waiting more : List Observation) (d : Observation) → more ≡ waiting ++ d ∷ [] → RepliesIn input n (state_of linker waiting) (Waits d) [] (state_of linker more)
joins Script n linker waiting more d is = (refl, ap (state_of linker) is)
joins Plain n linker waiting more d is = (refl, ap (state_of linker) is)

pub answered_by_waiting : (input : Input) (n : ℕ) (linker : LinkerState) (waiting more : List Observation) (d : Observation) (said : Said) (sink : Receipt)
    → said ≡ Waits d → more ≡ waiting ++ d ∷ [] → Answered input n (state_of linker waiting) said sink sink false (state_of linker more)
answered_by_waiting input n linker waiting more d said sink waits is = record {
  given = [];
  replies = subst (λ (s : Said). RepliesIn input n (state_of linker waiting) s [] (state_of linker more)) (sym waits) (joins input n linker waiting more d is);
  says = record { adds = record { bytes = Appends-nil sink.written; whole = inl refl; faults = refl }; refused_is = refl };
}
