-- Each list of lines has a list of replies, since nights have a report list.
use Rattle.std.proofs.Common.{◌≡◌, ℕ, ℤ, pos, ◌+ℤ◌, ◌+◌, ◌++◌, List, [], ◌∷◌, length, refl, ap, ◌∙◌, if◌then◌else◌, rules}
use Rattle.std.specs.Prelude.{Option, Some, None, is_some, IfOk, IsTrue, MatchOption, MatchResult, Result, Ok, Err}
use Rattle.std.specs.List.{All, flat_map}
use Rattle.std.proofs.lemmas.List.Elements.{All-nil, All-cons, All-head, All-tail, All-append}
use Rattle.std.proofs.lemmas.List.Sorted.{All-permutation}
use Rattle.miti_text.specs.Observation.{Observation, is_id}
use Rattle.script_text.specs.declared.errors.ScriptError.{ScriptError}
use Rattle.sky_units.specs.SettingsData.{AreSettings, SettingsData, standard_settings}
use Rattle.sky_units.specs.SettingNames.{set_named}
use Rattle.sky_units.specs.declared.setting_names.SetError.{SetError}
use Rattle.sky_units.specs.declared.setting_names.SetError.TheVariants.{Late}
use Rattle.exposure_log.specs.Deliveries.{IsOneExposure}
use Rattle.exposure_log.specs.Held.{LogData, ExposureData, refusal, window_refusal, moved}
use Rattle.exposure_log.specs.declared.errors.AddError.{AddError}
use Rattle.exposure_log.specs.declared.errors.WindowError.{WindowError}
use Rattle.exposure_log.proofs.Delivering.{exposures_exist}
use Rattle.exposure_log.proofs.LeastNumbers.{add_exists}
use Rattle.window_incr.specs.Answers.{tracklet_ids}
use Rattle.window_incr.specs.LinkerState.{LinkerState, under, under_changed}
use Rattle.window_incr.specs.Laws.{AskedExists, ReportExists, StatsExist}
use Rattle.window_incr.specs.Soundness.{IsSoundState}
use Rattle.exposure_log.proofs.Keeping.{nothing_held, shifting_keeps_order, taking_keeps_order, moving_keeps_order}
use Rattle.track_report.specs.declared.replies.Reply.{Reply}
use Rattle.track_report.specs.declared.replies.Reply.TheVariants as replies
use Rattle.mops_run.specs.State.{state_of, start}
use Rattle.mops_run.specs.Deliveries.{named_id, IsAccepted, IsRefused, DeliversOne, DeliversAll, Delivers}
use Rattle.mops_run.specs.declared.lines.Said.{Said}
use Rattle.mops_run.specs.declared.lines.Said.TheVariants.{Nothing, Waits, Refused, Asks, Malformed}
use Rattle.mops_run.specs.declared.lines.Command.{Command}
use Rattle.mops_run.specs.declared.lines.Command.TheVariants.{Set, Window, Tracklets, Report as report_command, Ask, Stats as stats_command}
use Rattle.mops_run.specs.Commands.{Obeys, Refuses, asked_reply}
use Rattle.mops_run.specs.Lines.{said_by}
use Rattle.mops_run.specs.Replies.{RepliesLast}
use Rattle.script_text.specs.declared.errors.ScriptError.TheVariants as causes
use Rattle.mops_run.specs.declared.inputs.Input.{Input}
use Rattle.mops_run.specs.declared.inputs.Input.TheVariants.{Script, Plain}
use Rattle.mops_run.specs.Linking.{Links, LinksSome}
use Rattle.mops_run.specs.Inputs.{RepliesIn, EndsIn}
use Rattle.mops_run.proofs.LeastNights.{least_night_exists}
use Rattle.mops_run.specs.Watch.{Answers, AnswersAll}
use Rattle.mops_run.proofs.Numbers.{HasIdRule, line_ids}
use Rattle.mops_run.proofs.SettingsKept.{set_in_range}
use Rattle.mops_run.proofs.Steps.{replies_last}

-- the id of a detection keeps its rule
abbrev HasId : Observation → Type 0
HasId d = IsTrue (is_id d.id)

all_front : (xs ys : List Observation) → All HasId (xs ++ ys) → All HasId xs
all_front [] ys h = All-nil HasId
all_front (x ∷ xs) ys h = All-cons HasId x xs (All-head HasId x (xs ++ ys) h) (all_front xs ys (All-tail HasId x (xs ++ ys) h))

all_back : (xs ys : List Observation) → All HasId (xs ++ ys) → All HasId ys
all_back [] ys h = h
all_back (x ∷ xs) ys h = all_back xs ys (All-tail HasId x (xs ++ ys) h)

abbrev HasIdsOf : ExposureData → Type 0
HasIdsOf x = All HasId x.detections

ids_of_each : (xs : List ExposureData) → All HasId (flat_map (λ x. x.detections) xs) → All HasIdsOf xs
ids_of_each [] h = All-nil HasIdsOf
ids_of_each (x ∷ xs) h =
    let rest : List Observation = flat_map (λ x. x.detections) xs in
    All-cons HasIdsOf x xs (all_front x.detections rest h) (ids_of_each xs (all_back x.detections rest h))

-- ---- what each state keeps to

-- it is sound, and its settings lie in their ranges
record IsProper (s : LinkerState) : Type 0 where
  state : IsSoundState s
  settings : AreSettings s.settings

-- something is given, and such a linker follows
record Leads (Given : Type 0) (relation : Given → LinkerState → Type 0) : Type 0 where
  given : Given
  new : LinkerState
  leads : relation given new
  proper : IsProper new

-- ---- a delivery

added : (old : LinkerState) (x : ExposureData) → IsOneExposure x → HasIdsOf x → IsProper old → (cause : Option AddError) → refusal old.log x ≡ cause
    → Leads Reply (λ reply new. MatchOption cause (IsAccepted old x reply new) (λ error. IsRefused old x error reply new))
added old x one ids s None passed =
    let taken = add_exists old.log x in
    record {
      given = replies.Added x.epoch x.site (length x.detections);
      new = record { settings = old.settings; log = taken.0 };
      leads = record { settings = refl; log = taken.1; reply_is = refl };
      proper = record {
        state = record {
          shift = ap (λ (l : LogData). l.night_shift) taken.1.is ∙ s.state.shift;
          orderly = taking_keeps_order old.log taken.0 x one ids s.state.orderly passed taken.1;
        };
        settings = s.settings;
      };
    }
added old x one ids s (Some error) refused = record {
  given = replies.Refused x.epoch x.site error (named_id error x);
  new = old;
  leads = record { same = refl; reply_is = refl };
  proper = s;
}

all_added : (old : LinkerState) (xs : List ExposureData) → All IsOneExposure xs → All HasIdsOf xs → IsProper old → Leads (List Reply) (DeliversAll old xs)
all_added old [] each ids s = record { given = []; new = old; leads = (refl, refl); proper = s }
all_added old (x ∷ xs) each ids s =
    let first : Leads Reply (DeliversOne old x) = added old x (All-head IsOneExposure x xs each) (All-head HasIdsOf x xs ids) s (refusal old.log x) refl in
    let rest : Leads (List Reply) (DeliversAll first.new xs) = all_added first.new xs (All-tail IsOneExposure x xs each) (All-tail HasIdsOf x xs ids) first.proper in
    record { given = first.given ∷ rest.given; new = rest.new; leads = (first.given, rest.given, first.new, first.leads, rest.leads, refl); proper = rest.proper }

delivered : (old : LinkerState) (waiting : List Observation) → All HasId waiting → IsProper old → Leads (List Reply) (Delivers old waiting)
delivered old waiting ids s =
    let found = exposures_exist waiting in
    let all : Leads (List Reply) (DeliversAll old found.0) = all_added old found.0 found.1.each (ids_of_each found.0 (All-permutation HasId waiting _ found.1.gathered.parts ids)) s in
    record { given = all.given; new = all.new; leads = (found.0, found.1, all.leads); proper = all.proper }

-- ---- a command

set_without : (old : LinkerState) (name : List ℕ) (value : ℤ) (settings : SettingsData) → IsProper old → AreSettings settings → (window : Option (ℤ × ℤ)) → old.log.window ≡ window
    → Leads Reply (λ reply new.
    MatchResult (if is_some window then Err Late else Ok (under old settings)) (λ changed. (new ≡ changed) × (reply ≡ replies.Set name value)) (λ error. (new ≡ old) × (reply ≡ replies.SetRefused error)))
set_without old name value settings s are None none = record {
  given = replies.Set name value;
  new = under old settings;
  leads = (refl, refl);
  proper = record { state = record { shift = refl; orderly = shifting_keeps_order old.log settings.night_shift none s.state.orderly }; settings = are };
}
set_without old name value settings s are (Some window) some = record { given = replies.SetRefused Late; new = old; leads = (refl, refl); proper = s }

set_to : (old : LinkerState) (name : List ℕ) (value : ℤ) → IsProper old → (found : Result SettingsData SetError) → IfOk found AreSettings
    → Leads Reply (λ reply new.
    MatchResult (under_changed old found) (λ changed. (new ≡ changed) × (reply ≡ replies.Set name value)) (λ error. (new ≡ old) × (reply ≡ replies.SetRefused error)))
set_to old name value s (Ok settings) are = set_without old name value settings s are old.log.window refl
set_to old name value s (Err error) are = record { given = replies.SetRefused error; new = old; leads = (refl, refl); proper = s }

moved_to : (old : LinkerState) (lo hi : ℤ) → IsProper old → (cause : Option WindowError) → window_refusal old.log.window lo hi ≡ cause
    → Leads Reply (λ reply new.
    MatchOption cause ((new ≡ record old { log = moved old.log lo hi }) × (reply ≡ replies.Window lo hi)) (λ error. (new ≡ old) × (reply ≡ replies.WindowRefused error)))
moved_to old lo hi s None passed = record {
  given = replies.Window lo hi;
  new = record old { log = moved old.log lo hi };
  leads = (refl, refl);
  proper = record { state = record { shift = s.state.shift; orderly = moving_keeps_order old.log lo hi s.state.orderly passed }; settings = s.settings };
}
moved_to old lo hi s (Some error) refused = record { given = replies.WindowRefused error; new = old; leads = (refl, refl); proper = s }

-- what each sound state has
pub record HaveAnswers : Type 0 where
  pub report : ReportExists
  pub stats : StatsExist
  pub asked : AskedExists

obeyed : HaveAnswers → (command : Command) (old : LinkerState) → IsProper old → Leads Reply (Obeys command old)
obeyed have (Set name value) old s = set_to old name value s (set_named name value old.settings) (set_in_range name value old.settings s.settings)
obeyed have (Window lo hi) old s = moved_to old lo hi s (window_refusal old.log.window lo hi) refl
obeyed have (Tracklets night) old s = record { given = replies.Tracklets night (tracklet_ids old night); new = old; leads = (refl, refl); proper = s }
obeyed have report_command old s =
    let found = have.report old s.state s.settings in
    record { given = replies.Report found.0; new = old; leads = (refl, found.0, found.1, refl); proper = s }
obeyed have (Ask ids) old s =
    let found = have.asked old ids s.state s.settings in
    record { given = asked_reply ids found.0; new = old; leads = (refl, found.0, found.1, refl); proper = s }
obeyed have stats_command old s =
    let found = have.stats old s.state in
    record { given = replies.Stats found.0; new = old; leads = (refl, found.0, found.1, refl); proper = s }

refused : (n : ℕ) (error : ScriptError) (old : LinkerState) → IsProper old → Leads Reply (Refuses n error old)
refused n error old s = record { given = replies.Script n error; new = old; leads = (refl, refl); proper = s }

-- ---- a line, and some lines

-- the replies to a line, and what they lead to
record Turns (kind : Input) (n : ℕ) (old : LinkerState) (waiting : List Observation) (said : Said) : Type 0 where
  given : List Reply
  new : LinkerState
  still : List Observation
  turns : RepliesIn kind n (state_of old waiting) said given (state_of new still)
  ids : All HasId still
  proper : IsProper new

-- what waits is delivered, and then an own reply is given
record TurnsLast (Own : LinkerState → Reply → LinkerState → Type 0) (old : LinkerState) (waiting : List Observation) : Type 0 where
  given : List Reply
  new : LinkerState
  turns : RepliesLast Own (state_of old waiting) given (state_of new [])
  proper : IsProper new

turns_last : (Own : LinkerState → Reply → LinkerState → Type 0) → ((l : LinkerState) → IsProper l → Leads Reply (Own l)) → (old : LinkerState) (waiting : List Observation) → All HasId waiting → IsProper old → TurnsLast Own old waiting
turns_last Own owned old waiting ids s =
    let first : Leads (List Reply) (Delivers old waiting) = delivered old waiting ids s in
    let own : Leads Reply (Own first.new) = owned first.new first.proper in
    record {
      given = first.given ++ own.given ∷ [];
      new = own.new;
      turns = replies_last Own old first.new own.new waiting first.given own.given first.leads own.leads;
      proper = own.proper;
    }

script_turns : HaveAnswers → (n : ℕ) (old : LinkerState) (waiting : List Observation) (said : Said) → HasIdRule said → All HasId waiting → IsProper old → Turns Script n old waiting said
script_turns have n old waiting Nothing rule ids s = record { given = []; new = old; still = waiting; ids = ids; turns = (refl, refl); proper = s }
script_turns have n old waiting (Waits d) rule ids s = record { given = []; new = old; still = waiting ++ d ∷ []; ids = All-append HasId waiting (d ∷ []) ids (All-cons HasId d [] rule (All-nil HasId)); turns = (refl, refl); proper = s }
script_turns have n old waiting (Refused error) rule ids s = record { given = replies.Line n error ∷ []; new = old; still = waiting; ids = ids; turns = (refl, refl); proper = s }
script_turns have n old waiting (Asks command) rule ids s =
    let last : TurnsLast (Obeys command) old waiting = turns_last (Obeys command) (obeyed have command) old waiting ids s in
    record { given = last.given; new = last.new; still = []; ids = All-nil HasId; turns = last.turns; proper = last.proper }
script_turns have n old waiting (Malformed error) rule ids s =
    let last : TurnsLast (Refuses n error) old waiting = turns_last (Refuses n error) (refused n error) old waiting ids s in
    record { given = last.given; new = last.new; still = []; ids = All-nil HasId; turns = last.turns; proper = last.proper }

-- a line of either kind of input
plain_turns : (n : ℕ) (old : LinkerState) (waiting : List Observation) (said : Said) → HasIdRule said → All HasId waiting → IsProper old → Turns Plain n old waiting said
plain_turns n old waiting Nothing rule ids s = record { given = []; new = old; still = waiting; ids = ids; turns = (refl, refl); proper = s }
plain_turns n old waiting (Waits d) rule ids s = record { given = []; new = old; still = waiting ++ d ∷ []; ids = All-append HasId waiting (d ∷ []) ids (All-cons HasId d [] rule (All-nil HasId)); turns = (refl, refl); proper = s }
plain_turns n old waiting (Refused error) rule ids s = record { given = replies.Line n error ∷ []; new = old; still = waiting; ids = ids; turns = (refl, refl); proper = s }
plain_turns n old waiting (Asks command) rule ids s = record { given = replies.Script n causes.Command ∷ []; new = old; still = waiting; ids = ids; turns = (refl, refl); proper = s }
plain_turns n old waiting (Malformed error) rule ids s = record { given = replies.Script n causes.Command ∷ []; new = old; still = waiting; ids = ids; turns = (refl, refl); proper = s }

line_turns : HaveAnswers → (kind : Input) (n : ℕ) (old : LinkerState) (waiting : List Observation) (said : Said) → HasIdRule said → All HasId waiting → IsProper old → Turns kind n old waiting said
line_turns have Script n old waiting said rule ids s = script_turns have n old waiting said rule ids s
line_turns have Plain n old waiting said rule ids s = plain_turns n old waiting said rule ids s

-- the replies to some lines, and what they lead to
record Runs (kind : Input) (n : ℕ) (old : LinkerState) (waiting : List Observation) (input : List (List ℕ)) : Type 0 where
  given : List Reply
  new : LinkerState
  still : List Observation
  runs : Answers kind n (state_of old waiting) input given (state_of new still)
  ids : All HasId still
  proper : IsProper new

lines_run : HaveAnswers → (kind : Input) (n : ℕ) (old : LinkerState) (waiting : List Observation) (input : List (List ℕ)) → All HasId waiting → IsProper old → Runs kind n old waiting input
lines_run have kind n old waiting [] ids s = record { given = []; new = old; still = waiting; ids = ids; runs = (refl, refl); proper = s }
lines_run have kind n old waiting (line ∷ more) ids s =
    let now : Turns kind n old waiting (said_by line) = line_turns have kind n old waiting (said_by line) (line_ids line) ids s in
    let later : Runs kind (n + 1) now.new now.still more = lines_run have kind (n + 1) now.new now.still more now.ids now.proper in
    record {
      given = now.given ++ later.given;
      new = later.new;
      still = later.still;
      ids = later.ids;
      runs = (now.given, later.given, state_of now.new now.still, now.turns, later.runs, refl);
      proper = later.proper;
    }

-- ---- the end of an input

linked_some : (old : LinkerState) (d : Observation) (ds : List Observation) → All HasId (d ∷ ds) → IsProper old → Leads (List Reply) (LinksSome old (d ∷ ds))
linked_some old d ds ids s =
    let least = least_night_exists old.settings.night_shift d ds in
    let first : Leads Reply (Obeys (Window least.0 (least.0 +ℤ pos 29)) old) = moved_to old least.0 (least.0 +ℤ pos 29) s (window_refusal old.log.window least.0 (least.0 +ℤ pos 29)) refl in
    let rest : Leads (List Reply) (Delivers first.new (d ∷ ds)) = delivered first.new (d ∷ ds) ids first.proper in
    record {
      given = first.given ∷ rest.given;
      new = rest.new;
      leads = record {
        night = least.0;
        least = least.1;
        window = first.given;
        between = first.new;
        set = first.leads;
        delivered = rest.given;
        delivery = rest.leads;
        given_is = refl;
      };
      proper = rest.proper;
    }

linked : (old : LinkerState) (ds : List Observation) → All HasId ds → IsProper old → Leads (List Reply) (Links old ds)
linked old [] ids s = record { given = []; new = old; leads = (refl, refl); proper = s }
linked old (d ∷ ds) ids s =
    let some : Leads (List Reply) (LinksSome old (d ∷ ds)) = linked_some old d ds ids s in
    record { given = some.given; new = some.new; leads = some.leads; proper = some.proper }

input_ends : HaveAnswers → (kind : Input) (old : LinkerState) (waiting : List Observation) → All HasId waiting → IsProper old → Leads (List Reply) (EndsIn kind (state_of old waiting))
input_ends have Script old waiting ids s =
    let last : Leads (List Reply) (Delivers old waiting) = delivered old waiting ids s in
    record { given = last.given; new = last.new; leads = last.leads; proper = last.proper }
input_ends have Plain old waiting ids s =
    let links : Leads (List Reply) (Links old waiting) = linked old waiting ids s in
    let own : Leads Reply (Obeys report_command links.new) = obeyed have report_command links.new links.proper in
    record {
      given = links.given ++ own.given ∷ [];
      new = own.new;
      leads = record { linked = links.given; between = links.new; links = links.leads; report = own.given; reported = own.leads; given_is = refl };
      proper = own.proper;
    }

at_the_start : IsProper start.linker
at_the_start = record { state = record { shift = refl; orderly = nothing_held standard_settings.night_shift }; settings = search rules }

pub all_answers : HaveAnswers → (kind : Input) (input : List (List ℕ)) → (given : List Reply) × AnswersAll kind input given
all_answers have kind input =
    let so_far : Runs kind 1 start.linker [] input = lines_run have kind 1 start.linker [] input (All-nil HasId) at_the_start in
    let last : Leads (List Reply) (EndsIn kind (state_of so_far.new so_far.still)) = input_ends have kind so_far.new so_far.still so_far.ids so_far.proper in (
      so_far.given ++ last.given,
      record {
        so_far = so_far.given;
        state = state_of so_far.new so_far.still;
        last = last.given;
        linker = last.new;
        answers = so_far.runs;
        ending = last.leads;
        given_is = refl;
      },
    )
