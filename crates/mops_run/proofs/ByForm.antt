-- How the run of each form ends, by its status.
use Rattle.std.proofs.Common.{◌≡◌, ◌≢◌, ℕ, ◌<◌, ◌≤◌, ◌^◌, ◌++◌, Bool, true, false, List, [], length, refl, ap, arith, length-append}
use Rattle.std.specs.Prelude.{◌⊎◌, Option, Some, None, IfSome}
use Rattle.std.specs.Io.KnownBytes.{Consumes}
use Rattle.std.proofs.KnownBytes.{Consumes-nil}
use Rattle.sky_units.specs.declared.statistics.Stats.{Stats}
use Rattle.made_sky.specs.MadeSky.{made_text}
use Rattle.outer_io.specs.Supply.{Supply, Rises}
use Rattle.outer_io.specs.Receipt.{Receipt, IsFlushed}
use Rattle.mops_run.specs.declared.forms.Form.{Form}
use Rattle.mops_run.specs.declared.forms.Form.TheVariants.{Watch, Link, Generate, Summary}
use Rattle.mops_run.specs.declared.forms.SkyPlan.{SkyPlan}
use Rattle.mops_run.specs.declared.inputs.Input.TheVariants.{Script, Plain}
use Rattle.mops_run.specs.declared.top.Status.{Status}
use Rattle.mops_run.specs.declared.top.Status.TheVariants.{Done, DoneWithRefusals, Usage, ReadFault, WriteFault, NoMemory, InputTooLong}
use Rattle.mops_run.specs.Forms.{sky_of}
use Rattle.mops_run.specs.Promise.{EndsUnread, IsDone, IsShort, IsSpent, NoneFailed, Reads, SinkFaults, Takes, Writes, refused_by}
use Rattle.mops_run.specs.Runs.{IsReadable, ReadsInput, Runs, Summarizes, WritesPart, WritesWhole}

under_condition : (o : Option Bool) (A P : Type 0) → IfSome o (λ _. P) → IfSome o (λ _. A → P)
under_condition None A P h = tt
under_condition (Some b) A P h = λ _. h

-- the lines of an input are answered
pub Runs-watch : (status : Status) (source_old source_new : Supply) (sink_old sink_new : Receipt) → Reads Script status source_old source_new sink_old sink_new → Runs Watch status source_old source_new sink_old sink_new
Runs-watch status source_old source_new sink_old sink_new reads = record {
  whole = reads.whole;
  front = reads.front;
  part = reads.part;
  spent = under_condition (refused_by status) (ReadsInput Watch) (IsSpent source_new) reads.spent;
  flushed = reads.flushed;
  source_faults = reads.source_faults;
  sink_faults = reads.sink_faults;
  taken = reads.taken;
  used = reads.used;
}

pub Runs-link : (status : Status) (source_old source_new : Supply) (sink_old sink_new : Receipt) → Reads Plain status source_old source_new sink_old sink_new → Runs Link status source_old source_new sink_old sink_new
Runs-link status source_old source_new sink_old sink_new reads = record {
  whole = reads.whole;
  front = reads.front;
  part = reads.part;
  spent = under_condition (refused_by status) (ReadsInput Link) (IsSpent source_new) reads.spent;
  flushed = reads.flushed;
  source_faults = reads.source_faults;
  sink_faults = reads.sink_faults;
  taken = reads.taken;
  used = reads.used;
}

-- nothing was taken from a source
nothing_taken : (status : Status) (source : Supply) → (status ≡ InputTooLong → ⊥) → Takes status source source
nothing_taken status source not_long = record {
  given = [];
  bytes = Consumes-nil source.left;
  counted = omega arith;
  within = omega arith;
  too_long = (λ h. absurd (not_long h), λ h. absurd (omega (arith, h)));
}

-- a run that reads nothing
unread_runs : (form : Form) (status : Status) (source : Supply) (old new : Receipt) → EndsUnread status → (ReadsInput form → ⊥) → (status ≡ Done → WritesWhole form source.left old new false)
    → WritesPart form source.left old new → (status ≡ Done → (new ≡ old) ⊎ IsFlushed new) → SinkFaults status old.faults new.faults → Runs form status source source old new
unread_runs form Done source old new ends unread whole front flushed faults = record {
  whole = whole refl;
  front = front;
  part = λ stops. absurd stops.1;
  spent = λ reads. absurd (unread reads);
  flushed = λ _. flushed refl;
  source_faults = refl;
  sink_faults = faults;
  taken = nothing_taken Done source (λ h. cc);
  used = λ h. cc;
}
unread_runs form WriteFault source old new ends unread whole front flushed faults = record {
  whole = tt;
  front = front;
  part = λ stops. absurd stops.1;
  spent = tt;
  flushed = λ no. absurd no;
  source_faults = refl;
  sink_faults = faults;
  taken = nothing_taken WriteFault source (λ h. cc);
  used = λ h. cc;
}
unread_runs form NoMemory source old new ends unread whole front flushed faults = record {
  whole = tt;
  front = front;
  part = λ stops. absurd stops.1;
  spent = tt;
  flushed = λ no. absurd no;
  source_faults = refl;
  sink_faults = faults;
  taken = nothing_taken NoMemory source (λ h. cc);
  used = λ h. cc;
}
unread_runs form DoneWithRefusals source old new ends unread whole front flushed faults = absurd ends
unread_runs form Usage source old new ends unread whole front flushed faults = absurd ends
unread_runs form ReadFault source old new ends unread whole front flushed faults = absurd ends
unread_runs form InputTooLong source old new ends unread whole front flushed faults = absurd ends

-- what holds of a run that is done, at the status Done
at_done : (status : Status) (P : Type 0) → IfSome (refused_by status) (λ _. P) → status ≡ Done → P
at_done Done P h is = h
at_done WriteFault P h is = cc
at_done NoMemory P h is = cc
at_done DoneWithRefusals P h is = cc
at_done Usage P h is = cc
at_done ReadFault P h is = cc
at_done InputTooLong P h is = cc

pub Runs-generate : (plan : SkyPlan) (status : Status) (source : Supply) (old new : Receipt) → Writes status old new (made_text (sky_of plan)) → Runs (Generate plan) status source source old new
Runs-generate plan status source old new writes =
    unread_runs (Generate plan) status source old new writes.ends (λ no. no) (λ is. (refl, at_done status _ writes.whole is)) writes.front (λ is. (at_done status _ writes.whole is).whole) writes.faults

pub Runs-summary : (plan : SkyPlan) (status : Status) (source : Supply) (old new : Receipt) → Summarizes plan status old new → Runs (Summary plan) status source source old new
Runs-summary plan status source old new writes =
    unread_runs (Summary plan) status source old new writes.ends (λ no. no) (λ is. (refl, at_done status _ writes.whole is)) writes.front (λ is. (at_done status _ writes.whole is).2.whole) writes.faults

-- a count that didn't rise, and could have, doesn't rise
no_rise : (old new : ℕ) → Rises old new → NoneFailed old new → ⊥
no_rise old new rises none = omega (arith, none.0, none.1, rises.rose (omega (arith, none.0, none.1)))

-- a short input is not too long
within_short : (left left' : Option (List ℕ)) (given : List ℕ) → Consumes left left' given → IsShort left → length given < 2 ^ 32
within_short None left' given takes short = absurd short
within_short (Some xs) None given takes short = absurd takes
within_short (Some xs) (Some ys) given takes short = omega (arith, short, ap length takes, length-append given ys)

too_long : (old new : Supply) → Takes InputTooLong old new → IsShort old.left → ⊥
too_long old new takes short = omega (arith, takes.too_long.0 refl, within_short old.left new.left takes.given takes.bytes short)

-- a run in which no call failed and memory sufficed is done
pub completed : (form : Form) (status : Status) (source_old source_new : Supply) (sink_old sink_new : Receipt) → Runs form status source_old source_new sink_old sink_new
    → ((ReadsInput form → ⊥) → EndsUnread status) → IsReadable form source_old source_new → NoneFailed sink_old.faults sink_new.faults → status ≢ NoMemory → IsDone status
completed form Done source_old source_new sink_old sink_new runs unread readable none enough = (false, refl)
completed form DoneWithRefusals source_old source_new sink_old sink_new runs unread readable none enough = (true, refl)
completed form Usage source_old source_new sink_old sink_new runs unread readable none enough = absurd (runs.used refl)
completed form NoMemory source_old source_new sink_old sink_new runs unread readable none enough = absurd (enough refl)
completed form WriteFault source_old source_new sink_old sink_new runs unread readable none enough = absurd (no_rise sink_old.faults sink_new.faults runs.sink_faults none)
completed Watch ReadFault source_old source_new sink_old sink_new runs unread readable none enough = absurd (no_rise source_old.faults source_new.faults runs.source_faults (readable.none_failed tt))
completed Link ReadFault source_old source_new sink_old sink_new runs unread readable none enough = absurd (no_rise source_old.faults source_new.faults runs.source_faults (readable.none_failed tt))
completed (Generate plan) ReadFault source_old source_new sink_old sink_new runs unread readable none enough = absurd (unread (λ no. no))
completed (Summary plan) ReadFault source_old source_new sink_old sink_new runs unread readable none enough = absurd (unread (λ no. no))
completed Watch InputTooLong source_old source_new sink_old sink_new runs unread readable none enough = absurd (too_long source_old source_new runs.taken (readable.short tt))
completed Link InputTooLong source_old source_new sink_old sink_new runs unread readable none enough = absurd (too_long source_old source_new runs.taken (readable.short tt))
completed (Generate plan) InputTooLong source_old source_new sink_old sink_new runs unread readable none enough = absurd (unread (λ no. no))
completed (Summary plan) InputTooLong source_old source_new sink_old sink_new runs unread readable none enough = absurd (unread (λ no. no))

-- what holds of the form that words have
pub for_form : (P : Form → Type 0) (o : Option Form) (form : Form) → o ≡ Some form → P form → IfSome o P
for_form P o form is h = rw is h
