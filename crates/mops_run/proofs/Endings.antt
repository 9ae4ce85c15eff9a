-- How a run ends, by its status.
use Rattle.std.proofs.Common.{◌≡◌, ℕ, ◌+◌, ◌^◌, [], ◌∷◌, refl, sym, ◌∙◌, ap, subst, arith, Bool, true, false}
use Rattle.std.specs.Prelude.{IfSome, Some, Result, Ok, Err, ◌↔◌, ◌||◌}
use Rattle.std.specs.Io.KnownBytes.{IsAtEnd}
use Rattle.outer_io.specs.Supply.{Supply, Rises}
use Rattle.outer_io.specs.Receipt.{Receipt}
use Rattle.outer_io.specs.Reading.{Reading, ahead, CountsOn, Ends, FaultsAfter, SawNoLine}
use Rattle.outer_io.specs.declared.line_reader.Got.{Got}
use Rattle.outer_io.specs.declared.line_reader.Got.TheVariants.{End}
use Rattle.outer_io.specs.declared.line_reader.ReadStop.{ReadStop}
use Rattle.outer_io.specs.declared.line_reader.ReadStop.TheVariants.{Failed, TooLong}
use Rattle.mops_run.specs.State.{State}
use Rattle.mops_run.specs.Output.{text_of_all}
use Rattle.mops_run.specs.Answering.{FailsToAnswer, Finished, FailsToFinish}
use Rattle.mops_run.specs.Lines.{said_by}
use Rattle.mops_run.specs.Part.{StopsReading}
use Rattle.mops_run.specs.Promise.{WritesAll, WritesFront, Reads, IsSpent, SourceFaults, SinkFaults, refused_by, done_status}
use Rattle.mops_run.specs.declared.top.Status.{Status}
use Rattle.mops_run.specs.declared.top.Status.TheVariants.{Done, DoneWithRefusals, Usage, ReadFault, WriteFault, NoMemory, InputTooLong}
use Rattle.mops_run.specs.declared.inputs.Input.{Input}
use Rattle.mops_run.proofs.Receipts.{WritesText-then}
use Rattle.mops_run.proofs.SoFar.{SoFar, NextLine, WritesFront-so_far, WritesFront-failed, WritesFront-unfinished, WritesFront-whole, WritesAll-end, WritesTaken-so_far, Takes-within, Takes-too_long, or_true}

-- a write failed in the middle of the replies to a line
pub Reads-write_fault : (kind : Input) (source_old : Supply) (reader reader' : Reading) (source source' : Supply) (sink_old sink sink' : Receipt) (number : ℕ) (state : State) (refused : Bool)
    → SoFar kind source_old reader source sink_old sink number state refused → NextLine reader reader' source source'
    → FailsToAnswer kind (number + 1) state (said_by reader'.line) sink sink' → Reads kind WriteFault source_old source' sink_old sink'
Reads-write_fault kind source_old reader reader' source source' sink_old sink sink' number state refused so next failed =
    let faults : sink.faults ≡ sink_old.faults = so.adds.faults in
    record {
      whole = tt;
      front = WritesFront-failed kind source_old reader reader' source source' sink_old sink sink' number state refused so next failed;
      part = λ stops. absurd stops.1;
      spent = tt;
      flushed = λ no. absurd no;
      source_faults = next.faults ∙ so.faults;
      sink_faults = subst (λ n. Rises n sink'.faults) faults failed.fails.faults;
      taken = Takes-within WriteFault source_old source source' reader reader' so.taken next.counts (λ h. cc) (λ h. omega (arith, h, next.within));
      used = λ h. cc;
    }

-- memory was wanting for the replies to a line
pub Reads-no_memory : (kind : Input) (source_old : Supply) (reader reader' : Reading) (source source' : Supply) (sink_old sink sink' : Receipt) (number : ℕ) (state : State) (refused : Bool)
    → SoFar kind source_old reader source sink_old sink number state refused → NextLine reader reader' source source'
    → sink' ≡ sink → Reads kind NoMemory source_old source' sink_old sink'
Reads-no_memory kind source_old reader reader' source source' sink_old sink sink' number state refused so next same = record {
  whole = tt;
  front = subst (λ (r : Receipt). IfSome source_old.left (λ input. WritesFront kind input sink_old r)) (sym same)
      (WritesFront-so_far kind source_old reader source sink_old sink number state refused so);
  part = λ stops. absurd stops.1;
  spent = tt;
  flushed = λ no. absurd no;
  source_faults = next.faults ∙ so.faults;
  sink_faults = ap (λ (r : Receipt). r.faults) same ∙ so.adds.faults;
  taken = Takes-within NoMemory source_old source source' reader reader' so.taken next.counts (λ h. cc) (λ h. omega (arith, h, next.within));
  used = λ h. cc;
}

-- the end was not answered before
not_ended : (ended : Bool) (result : Result Got ReadStop) → (ended ≡ true → result ≡ Ok End) → (result ≡ Ok End → ⊥) → ended ≡ false
not_ended true result over other = absurd (other (over refl))
not_ended false result over other = refl

-- a run that is done has read to the end
done_reads_on : (status : Status) (refused : Bool) → refused_by status ≡ Some refused → StopsReading status → ⊥
done_reads_on Done refused by stops = stops.1
done_reads_on DoneWithRefusals refused by stops = stops.1
done_reads_on Usage refused by stops = stops.1
done_reads_on WriteFault refused by stops = stops.1
done_reads_on NoMemory refused by stops = stops.1
done_reads_on ReadFault refused by stops = cc
done_reads_on InputTooLong refused by stops = cc

-- a read failed behind the last whole line
pub Reads-read_fault : (kind : Input) (source_old : Supply) (reader reader' : Reading) (source source' : Supply) (sink_old sink : Receipt) (number : ℕ) (state : State) (refused : Bool)
    (result : Result Got ReadStop) → SoFar kind source_old reader source sink_old sink number state refused → result ≡ Err Failed
    → (reader.ended ≡ true → result ≡ Ok End) → (result ≡ Err Failed → SawNoLine reader reader' source source' [])
    → FaultsAfter result source.faults source'.faults → CountsOn reader reader' source source' → ((result ≡ Err TooLong) ↔ (reader'.took ≡ 2 ^ 32))
    → Reads kind ReadFault source_old source' sink_old sink
Reads-read_fault kind source_old reader reader' source source' sink_old sink number state refused result so is over saw faults counts limit =
    let rises : Rises source.faults source'.faults = subst (λ (r : Result Got ReadStop). FaultsAfter r source.faults source'.faults) is faults in
    record {
      whole = tt;
      front = WritesFront-so_far kind source_old reader source sink_old sink number state refused so;
      part = λ _. WritesTaken-so_far kind ReadFault source_old reader reader' source source' sink_old sink number state refused [] so (not_ended reader.ended result over (λ h. cc)) (saw is) refl;
      spent = tt;
      flushed = λ _. so.adds.whole;
      source_faults = subst (λ n. Rises n source'.faults) so.faults rises;
      sink_faults = so.adds.faults;
      taken = Takes-within ReadFault source_old source source' reader reader' so.taken counts (λ h. cc)
          (λ h. let long : result ≡ Err TooLong = limit.1 h in cc);
      used = λ h. cc;
    }

-- a byte came behind as many as an input may have
pub Reads-too_long : (kind : Input) (source_old : Supply) (reader reader' : Reading) (source source' : Supply) (sink_old sink : Receipt) (number : ℕ) (state : State) (refused : Bool)
    (result : Result Got ReadStop) → SoFar kind source_old reader source sink_old sink number state refused → result ≡ Err TooLong
    → (reader.ended ≡ true → result ≡ Ok End) → (result ≡ Err TooLong → (extra : ℕ) × SawNoLine reader reader' source source' (extra ∷ []))
    → FaultsAfter result source.faults source'.faults → CountsOn reader reader' source source' → ((result ≡ Err TooLong) ↔ (reader'.took ≡ 2 ^ 32))
    → Reads kind InputTooLong source_old source' sink_old sink
Reads-too_long kind source_old reader reader' source source' sink_old sink number state refused result so is over saw faults counts limit =
    let same : source'.faults ≡ source.faults = subst (λ (r : Result Got ReadStop). FaultsAfter r source.faults source'.faults) is faults in
    record {
      whole = tt;
      front = WritesFront-so_far kind source_old reader source sink_old sink number state refused so;
      part = λ _. WritesTaken-so_far kind InputTooLong source_old reader reader' source source' sink_old sink number state refused ((saw is).0 ∷ []) so (not_ended reader.ended result over (λ h. cc)) (saw is).1 refl;
      spent = tt;
      flushed = λ _. so.adds.whole;
      source_faults = same ∙ so.faults;
      sink_faults = so.adds.faults;
      taken = Takes-too_long source_old source source' reader reader' so.taken counts (limit.0 is);
      used = λ h. cc;
    }

-- the end was answered in this call or before
spent-at_end : (kind : Input) (source_old : Supply) (reader reader' : Reading) (source source' : Supply) (sink_old sink : Receipt) (number : ℕ) (state : State) (refused : Bool)
    → SoFar kind source_old reader source sink_old sink number state refused → Ends reader reader' source source' → reader'.ended ≡ true
    → (reader.ended ≡ true → source' ≡ source) → IsSpent source'
spent-at_end kind source_old reader reader' source source' sink_old sink number state refused so ends ended over = cases reader.ended refl
  where
    cases : (b : Bool) → reader.ended ≡ b → IsSpent source'
    cases true was = subst (λ (s : Supply). (s.ended ≡ true) × IsAtEnd s.left) (sym (over was)) (so.spent was)
    cases false was = (ends.marked was ∙ rw ended (or_true source.ended), ends.none_left was ended)

-- a step of the reader to the end
pub record AtEnd (source_old : Supply) (reader reader' : Reading) (source source' : Supply) : Type 0 where
  pub none_ahead : IfSome (ahead reader source) (λ bytes. bytes ≡ [])
  pub faults : source'.faults ≡ source_old.faults
  pub counts : CountsOn reader reader' source source'
  pub within : reader'.took ≡ 2 ^ 32 → ⊥
  pub spent : IsSpent source'

pub AtEnd-from : (kind : Input) (source_old : Supply) (reader reader' : Reading) (source source' : Supply) (sink_old sink : Receipt) (number : ℕ) (state : State) (refused : Bool)
    (result : Result Got ReadStop) → SoFar kind source_old reader source sink_old sink number state refused → result ≡ Ok End
    → (result ≡ Ok End → IfSome (ahead reader source) (λ bytes. bytes ≡ [])) → (result ≡ Ok End → reader'.ended ≡ true)
    → FaultsAfter result source.faults source'.faults → CountsOn reader reader' source source' → ((result ≡ Err TooLong) ↔ (reader'.took ≡ 2 ^ 32))
    → Ends reader reader' source source' → (reader.ended ≡ true → source' ≡ source) → AtEnd source_old reader reader' source source'
AtEnd-from kind source_old reader reader' source source' sink_old sink number state refused result so is end answered faults counts limit ends over =
    let same : source'.faults ≡ source.faults = subst (λ (r : Result Got ReadStop). FaultsAfter r source.faults source'.faults) is faults in
    record {
      none_ahead = end is;
      faults = same ∙ so.faults;
      counts = counts;
      within = λ h. let long : result ≡ Err TooLong = limit.1 h in cc;
      spent = spent-at_end kind source_old reader reader' source source' sink_old sink number state refused so ends (answered is) over;
    }

-- all was read and answered, by a status that says whether something was refused
finished_by : (kind : Input) (status : Status) (source_old : Supply) (reader reader' : Reading) (source source' : Supply) (sink_old sink sink' : Receipt) (number : ℕ) (state : State) (refused bad : Bool)
    → refused_by status ≡ Some (refused || bad) → (source'.faults ≡ source_old.faults → SourceFaults status source_old.faults source'.faults)
    → (sink'.faults ≡ sink_old.faults → SinkFaults status sink_old.faults sink'.faults) → (status ≡ InputTooLong → ⊥) → (status ≡ Usage → ⊥)
    → SoFar kind source_old reader source sink_old sink number state refused → AtEnd source_old reader reader' source source' → Finished kind state sink sink' bad
    → Reads kind status source_old source' sink_old sink'
finished_by kind status source_old reader reader' source source' sink_old sink sink' number state refused bad by source_faults sink_faults not_long not_usage so over finished =
    let whole : IfSome source_old.left (λ input. WritesAll kind input sink_old sink' (refused || bad)) =
    WritesAll-end kind source_old reader source sink_old sink sink' number state refused bad so over.none_ahead finished in
    let adds = WritesText-then sink_old sink sink' (text_of_all so.replies) (text_of_all finished.given) so.adds finished.says.adds in
    record {
      whole = rw by whole;
      front = WritesFront-whole kind source_old.left sink_old sink' (refused || bad) whole;
      part = λ stops. absurd (done_reads_on status (refused || bad) by stops);
      spent = rw by over.spent;
      flushed = λ _. adds.whole;
      source_faults = source_faults over.faults;
      sink_faults = sink_faults adds.faults;
      taken = Takes-within status source_old source source' reader reader' so.taken over.counts not_long over.within;
      used = not_usage;
    }

-- all was read and answered
pub Reads-done : (kind : Input) (source_old : Supply) (reader reader' : Reading) (source source' : Supply) (sink_old sink sink' : Receipt) (number : ℕ) (state : State) (refused bad : Bool)
    → SoFar kind source_old reader source sink_old sink number state refused → AtEnd source_old reader reader' source source' → Finished kind state sink sink' bad
    → Reads kind (done_status (refused || bad)) source_old source' sink_old sink'
Reads-done kind source_old reader reader' source source' sink_old sink sink' number state refused bad so over finished = cases (refused || bad) refl
  where
    cases : (b : Bool) → (refused || bad) ≡ b → Reads kind (done_status b) source_old source' sink_old sink'
    cases true is = finished_by kind DoneWithRefusals source_old reader reader' source source' sink_old sink sink' number state refused bad (ap Some (sym is)) (λ e. e) (λ e. e) (λ h. cc) (λ h. cc) so over finished
    cases false is = finished_by kind Done source_old reader reader' source source' sink_old sink sink' number state refused bad (ap Some (sym is)) (λ e. e) (λ e. e) (λ h. cc) (λ h. cc) so over finished

-- a write failed in the middle of the replies of what waited at the end
pub Reads-unfinished : (kind : Input) (source_old : Supply) (reader reader' : Reading) (source source' : Supply) (sink_old sink sink' : Receipt) (number : ℕ) (state : State) (refused : Bool)
    → SoFar kind source_old reader source sink_old sink number state refused → AtEnd source_old reader reader' source source' → FailsToFinish kind state sink sink'
    → Reads kind WriteFault source_old source' sink_old sink'
Reads-unfinished kind source_old reader reader' source source' sink_old sink sink' number state refused so over failed =
    let faults : sink.faults ≡ sink_old.faults = so.adds.faults in
    record {
      whole = tt;
      front = WritesFront-unfinished kind source_old reader source sink_old sink sink' number state refused so over.none_ahead failed;
      part = λ stops. absurd stops.1;
      spent = tt;
      flushed = λ no. absurd no;
      source_faults = over.faults;
      sink_faults = subst (λ n. Rises n sink'.faults) faults failed.fails.faults;
      taken = Takes-within WriteFault source_old source source' reader reader' so.taken over.counts (λ h. cc) over.within;
      used = λ h. cc;
    }

-- memory was wanting for these
pub Reads-no_memory_left : (kind : Input) (source_old : Supply) (reader reader' : Reading) (source source' : Supply) (sink_old sink sink' : Receipt) (number : ℕ) (state : State) (refused : Bool)
    → SoFar kind source_old reader source sink_old sink number state refused → AtEnd source_old reader reader' source source' → sink' ≡ sink
    → Reads kind NoMemory source_old source' sink_old sink'
Reads-no_memory_left kind source_old reader reader' source source' sink_old sink sink' number state refused so over same = record {
  whole = tt;
  front = subst (λ (r : Receipt). IfSome source_old.left (λ input. WritesFront kind input sink_old r)) (sym same)
      (WritesFront-so_far kind source_old reader source sink_old sink number state refused so);
  part = λ stops. absurd stops.1;
  spent = tt;
  flushed = λ no. absurd no;
  source_faults = over.faults;
  sink_faults = ap (λ (r : Receipt). r.faults) same ∙ so.adds.faults;
  taken = Takes-within NoMemory source_old source source' reader reader' so.taken over.counts (λ h. cc) over.within;
  used = λ h. cc;
}
