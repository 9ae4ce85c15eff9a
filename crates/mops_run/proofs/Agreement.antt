-- Each step has only one result: what is delivered, what a command does, and the replies to some lines.
use Rattle.std.proofs.Common.{◌≡◌, ℕ, ℤ, pos, ◌+ℤ◌, ◌+◌, ◌++◌, List, [], ◌∷◌, sym, ◌∙◌, ap, subst}
use Rattle.std.specs.Prelude.{Option, Some, None, MatchOption, MatchResult, Result, Ok, Err}
use Rattle.miti_text.specs.Observation.{Observation}
use Rattle.script_text.specs.declared.errors.ScriptError.{ScriptError}
use Rattle.exposure_log.specs.Held.{LogData, ExposureData, refusal, window_refusal, moved}
use Rattle.exposure_log.specs.declared.errors.AddError.{AddError}
use Rattle.exposure_log.specs.declared.errors.WindowError.{WindowError}
use Rattle.sky_units.specs.SettingsData.{SettingsData}
use Rattle.sky_units.specs.declared.setting_names.SetError.{SetError}
use Rattle.window_incr.specs.LinkerState.{LinkerState, after_setting}
use Rattle.track_report.specs.declared.replies.Reply.{Reply}
use Rattle.track_report.specs.declared.replies.Reply.TheVariants as replies
use Rattle.mops_run.specs.State.{State, start}
use Rattle.mops_run.specs.Deliveries.{IsAccepted, IsRefused, DeliversOne, DeliversAll, Delivers}
use Rattle.mops_run.specs.declared.lines.Said.{Said}
use Rattle.mops_run.specs.declared.lines.Said.TheVariants.{Nothing, Waits, Refused, Asks, Malformed}
use Rattle.mops_run.specs.declared.lines.Command.{Command}
use Rattle.mops_run.specs.declared.lines.Command.TheVariants.{Set, Window, Tracklets, Report as report_command, Ask, Stats as stats_command}
use Rattle.mops_run.specs.Commands.{Obeys, Refuses, asked_reply}
use Rattle.mops_run.specs.Lines.{said_by}
use Rattle.mops_run.specs.Replies.{Replies, RepliesLast}
use Rattle.mops_run.specs.Watch.{Answers, AnswersAll}
use Rattle.mops_run.specs.declared.inputs.Input.{Input}
use Rattle.mops_run.specs.declared.inputs.Input.TheVariants.{Script, Plain}
use Rattle.mops_run.specs.Linking.{Links, LinksSome}
use Rattle.mops_run.specs.Inputs.{RefusesAtOnce, RepliesIn, EndsIn}
use Rattle.mops_run.specs.Summing.{IsSummary}
use Rattle.made_sky.specs.MadeSky.{MadeSky, made_detections}
use Rattle.sky_units.specs.declared.statistics.Stats.{Stats}
use Rattle.window_incr.specs.Answers.{AreStats}
use Rattle.mops_run.proofs.LeastNights.{least_night_is_unique}
use Rattle.exposure_log.proofs.Delivering.{exposures_are_unique}
use Rattle.exposure_log.proofs.LeastNumbers.{add_is_unique}
use Rattle.window_incr.proofs.Agreement.{report_is_unique, stats_are_unique}
use Rattle.window_incr.proofs.AskedOnce.{asked_once}

-- two linkers of the same settings and log are the same
same_linker : (one other : LinkerState) → one.settings ≡ other.settings → one.log ≡ other.log → one ≡ other
same_linker one other e f =
    let first : one ≡ record { settings = other.settings; log = one.log } = ap (λ (s : SettingsData). record { settings = s; log = one.log }) e in
    let second : record { settings = other.settings; log = one.log } ≡ other = ap (λ (l : LogData). record { settings = other.settings; log = l }) f in
    first ∙ second

-- one reply, and one linker after it
abbrev Same : Reply → Reply → LinkerState → LinkerState → Type 0
Same p q s t = (p ≡ q) × (s ≡ t)

DeliversOne-only : (old : LinkerState) (x : ExposureData) (p q : Reply) (s t : LinkerState) → DeliversOne old x p s → DeliversOne old x q t → Same p q s t
DeliversOne-only old x p q s t a b = by_cause (refusal old.log x) a b
  where
    by_cause : (cause : Option AddError) → MatchOption cause (IsAccepted old x p s) (λ e. IsRefused old x e p s)
        → MatchOption cause (IsAccepted old x q t) (λ e. IsRefused old x e q t) → Same p q s t
    by_cause None a b = (a.reply_is ∙ sym b.reply_is, same_linker s t (a.settings ∙ sym b.settings) (add_is_unique old.log s.log t.log x a.log b.log))
    by_cause (Some e) a b = (a.reply_is ∙ sym b.reply_is, a.same ∙ sym b.same)

DeliversAll-only : (old : LinkerState) (xs : List ExposureData) (p q : List Reply) (s t : LinkerState) → DeliversAll old xs p s → DeliversAll old xs q t → (p ≡ q) × (s ≡ t)
DeliversAll-only old [] p q s t a b = (a.0 ∙ sym b.0, a.1 ∙ sym b.1)
DeliversAll-only old (x ∷ xs) p q s t a b =
    let first : Same a.0 b.0 a.2 b.2 = DeliversOne-only old x a.0 b.0 a.2 b.2 a.3 b.3 in
    let other : DeliversAll a.2 xs b.1 t = subst (λ (l : LinkerState). DeliversAll l xs b.1 t) (sym first.1) b.4 in
    let rest : (a.1 ≡ b.1) × (s ≡ t) = DeliversAll-only a.2 xs a.1 b.1 s t a.4 other in
    (a.5 ∙ ap (λ r. r ∷ a.1) first.0 ∙ ap (λ rs. b.0 ∷ rs) rest.0 ∙ sym b.5, rest.1)

pub Delivers-only : (old : LinkerState) (waiting : List Observation) (p q : List Reply) (s t : LinkerState) → Delivers old waiting p s → Delivers old waiting q t → (p ≡ q) × (s ≡ t)
Delivers-only old waiting p q s t a b =
    let exposures : a.0 ≡ b.0 = exposures_are_unique waiting a.0 b.0 a.1 b.1 in
    DeliversAll-only old a.0 p q s t a.2 (subst (λ xs. DeliversAll old xs q t) (sym exposures) b.2)

set_only : (old : LinkerState) (name : List ℕ) (value : ℤ) (outcome : Result LinkerState SetError) (p q : Reply) (s t : LinkerState)
    → MatchResult outcome (λ changed. (s ≡ changed) × (p ≡ replies.Set name value)) (λ error. (s ≡ old) × (p ≡ replies.SetRefused error))
    → MatchResult outcome (λ changed. (t ≡ changed) × (q ≡ replies.Set name value)) (λ error. (t ≡ old) × (q ≡ replies.SetRefused error)) → Same p q s t
set_only old name value (Ok changed) p q s t a b = (a.1 ∙ sym b.1, a.0 ∙ sym b.0)
set_only old name value (Err error) p q s t a b = (a.1 ∙ sym b.1, a.0 ∙ sym b.0)

window_only : (old : LinkerState) (lo hi : ℤ) (cause : Option WindowError) (p q : Reply) (s t : LinkerState)
    → MatchOption cause ((s ≡ record old { log = moved old.log lo hi }) × (p ≡ replies.Window lo hi)) (λ error. (s ≡ old) × (p ≡ replies.WindowRefused error))
    → MatchOption cause ((t ≡ record old { log = moved old.log lo hi }) × (q ≡ replies.Window lo hi)) (λ error. (t ≡ old) × (q ≡ replies.WindowRefused error)) → Same p q s t
window_only old lo hi None p q s t a b = (a.1 ∙ sym b.1, a.0 ∙ sym b.0)
window_only old lo hi (Some error) p q s t a b = (a.1 ∙ sym b.1, a.0 ∙ sym b.0)

-- the same of what a command does
abbrev IsOnly : (LinkerState → Reply → LinkerState → Type 0) → Type 0
IsOnly Own = (old : LinkerState) (p q : Reply) (s t : LinkerState) → Own old p s → Own old q t → Same p q s t

Obeys-only : (command : Command) → IsOnly (Obeys command)
Obeys-only (Set name value) = λ old p q s t a b. set_only old name value (after_setting name value old) p q s t a b
Obeys-only (Window lo hi) = λ old p q s t a b. window_only old lo hi (window_refusal old.log.window lo hi) p q s t a b
Obeys-only (Tracklets night) = λ old p q s t a b. (a.1 ∙ sym b.1, a.0 ∙ sym b.0)
Obeys-only report_command = λ old p q s t a b. (a.3 ∙ ap (λ r. replies.Report r) (report_is_unique old a.1 b.1 a.2 b.2) ∙ sym b.3, a.0 ∙ sym b.0)
Obeys-only (Ask ids) = λ old p q s t a b. (a.3 ∙ ap (asked_reply ids) (asked_once old ids a.1 b.1 a.2 b.2) ∙ sym b.3, a.0 ∙ sym b.0)
Obeys-only stats_command = λ old p q s t a b. (a.3 ∙ ap (λ r. replies.Stats r) (stats_are_unique old a.1 b.1 a.2 b.2) ∙ sym b.3, a.0 ∙ sym b.0)

Refuses-only : (n : ℕ) (error : ScriptError) → IsOnly (Refuses n error)
Refuses-only n error = λ old p q s t a b. (a.1 ∙ sym b.1, a.0 ∙ sym b.0)

-- two states of the same linker, where nothing waits
same_state : (one other : State) → one.linker ≡ other.linker → one.waiting ≡ [] → other.waiting ≡ [] → one ≡ other
same_state one other e f g =
    let first : one ≡ record { linker = other.linker; waiting = one.waiting } = ap (λ (l : LinkerState). record { linker = l; waiting = one.waiting }) e in
    let second : record { linker = other.linker; waiting = one.waiting } ≡ other = ap (λ (w : List Observation). record { linker = other.linker; waiting = w }) (f ∙ sym g) in
    first ∙ second

RepliesLast-only : (Own : LinkerState → Reply → LinkerState → Type 0) → IsOnly Own → (old : State) (p q : List Reply) (s t : State) → RepliesLast Own old p s → RepliesLast Own old q t → (p ≡ q) × (s ≡ t)
RepliesLast-only Own only old p q s t a b =
    let delivered : (a.delivered ≡ b.delivered) × (a.between ≡ b.between) = Delivers-only old.linker old.waiting a.delivered b.delivered a.between b.between a.delivery b.delivery in
    let other : Own a.between b.own t.linker = subst (λ (l : LinkerState). Own l b.own t.linker) (sym delivered.1) b.replied in
    let own : Same a.own b.own s.linker t.linker = only a.between a.own b.own s.linker t.linker a.replied other in
    (a.given_is ∙ ap (λ r. a.delivered ++ r ∷ []) own.0 ∙ ap (λ rs. rs ++ b.own ∷ []) delivered.0 ∙ sym b.given_is, same_state s t own.1 a.none_waits b.none_waits)

-- a line has only one list of replies, and leads to one state
pub Replies-only : (n : ℕ) (old : State) (said : Said) (p q : List Reply) (s t : State) → Replies n old said p s → Replies n old said q t → (p ≡ q) × (s ≡ t)
Replies-only n old Nothing p q s t a b = (a.0 ∙ sym b.0, a.1 ∙ sym b.1)
Replies-only n old (Waits d) p q s t a b = (a.0 ∙ sym b.0, a.1 ∙ sym b.1)
Replies-only n old (Refused error) p q s t a b = (a.0 ∙ sym b.0, a.1 ∙ sym b.1)
Replies-only n old (Asks command) p q s t a b = RepliesLast-only (Obeys command) (Obeys-only command) old p q s t a b
Replies-only n old (Malformed error) p q s t a b = RepliesLast-only (Refuses n error) (Refuses-only n error) old p q s t a b

-- and a line of either kind of input
RefusesAtOnce-only : (n : ℕ) (old : State) (p q : List Reply) (s t : State) → RefusesAtOnce n old p s → RefusesAtOnce n old q t → (p ≡ q) × (s ≡ t)
RefusesAtOnce-only n old p q s t a b = (a.0 ∙ sym b.0, a.1 ∙ sym b.1)

RepliesIn-only : (kind : Input) (n : ℕ) (old : State) (said : Said) (p q : List Reply) (s t : State) → RepliesIn kind n old said p s → RepliesIn kind n old said q t → (p ≡ q) × (s ≡ t)
RepliesIn-only Script n old said p q s t a b = Replies-only n old said p q s t a b
RepliesIn-only Plain n old Nothing p q s t a b = Replies-only n old Nothing p q s t a b
RepliesIn-only Plain n old (Waits d) p q s t a b = Replies-only n old (Waits d) p q s t a b
RepliesIn-only Plain n old (Refused error) p q s t a b = Replies-only n old (Refused error) p q s t a b
RepliesIn-only Plain n old (Asks command) p q s t a b = RefusesAtOnce-only n old p q s t a b
RepliesIn-only Plain n old (Malformed error) p q s t a b = RefusesAtOnce-only n old p q s t a b

-- so do some lines
pub Answers-only : (kind : Input) (n : ℕ) (old : State) (lines : List (List ℕ)) (p q : List Reply) (s t : State) → Answers kind n old lines p s → Answers kind n old lines q t → (p ≡ q) × (s ≡ t)
Answers-only kind n old [] p q s t a b = (a.0 ∙ sym b.0, a.1 ∙ sym b.1)
Answers-only kind n old (line ∷ lines) p q s t a b =
    let now : (a.0 ≡ b.0) × (a.2 ≡ b.2) = RepliesIn-only kind n old (said_by line) a.0 b.0 a.2 b.2 a.3 b.3 in
    let other : Answers kind (n + 1) a.2 lines b.1 t = subst (λ (u : State). Answers kind (n + 1) u lines b.1 t) (sym now.1) b.4 in
    let later : (a.1 ≡ b.1) × (s ≡ t) = Answers-only kind (n + 1) a.2 lines a.1 b.1 s t a.4 other in
    (a.5 ∙ ap (λ r. r ++ a.1) now.0 ∙ ap (λ r. b.0 ++ r) later.0 ∙ sym b.5, later.1)

-- detections are linked in only one way
LinksSome-only : (old : LinkerState) (ds : List Observation) (p q : List Reply) (s t : LinkerState) → LinksSome old ds p s → LinksSome old ds q t → (p ≡ q) × (s ≡ t)
LinksSome-only old ds p q s t a b =
    let night : b.night ≡ a.night = least_night_is_unique old.settings.night_shift ds b.night a.night b.least a.least in
    let set : Obeys (Window a.night (a.night +ℤ pos 29)) old b.window b.between = subst (λ (n : ℤ). Obeys (Window n (n +ℤ pos 29)) old b.window b.between) night b.set in
    let first : Same a.window b.window a.between b.between = Obeys-only (Window a.night (a.night +ℤ pos 29)) old a.window b.window a.between b.between a.set set in
    let other : Delivers a.between ds b.delivered t = subst (λ (l : LinkerState). Delivers l ds b.delivered t) (sym first.1) b.delivery in
    let rest : (a.delivered ≡ b.delivered) × (s ≡ t) = Delivers-only a.between ds a.delivered b.delivered s t a.delivery other in
    (a.given_is ∙ ap (λ r. r ∷ a.delivered) first.0 ∙ ap (λ rs. b.window ∷ rs) rest.0 ∙ sym b.given_is, rest.1)

pub Links-only : (old : LinkerState) (ds : List Observation) (p q : List Reply) (s t : LinkerState) → Links old ds p s → Links old ds q t → (p ≡ q) × (s ≡ t)
Links-only old [] p q s t a b = (a.0 ∙ sym b.0, a.1 ∙ sym b.1)
Links-only old (d ∷ ds) p q s t a b = LinksSome-only old (d ∷ ds) p q s t a b

-- and so are the replies at the end
pub EndsIn-only : (kind : Input) (old : State) (p q : List Reply) (s t : LinkerState) → EndsIn kind old p s → EndsIn kind old q t → (p ≡ q) × (s ≡ t)
EndsIn-only Script old p q s t a b = Delivers-only old.linker old.waiting p q s t a b
EndsIn-only Plain old p q s t a b =
    let links : (a.linked ≡ b.linked) × (a.between ≡ b.between) = Links-only old.linker old.waiting a.linked b.linked a.between b.between a.links b.links in
    let other : Obeys report_command a.between b.report t = subst (λ (l : LinkerState). Obeys report_command l b.report t) (sym links.1) b.reported in
    let own : Same a.report b.report s t = Obeys-only report_command a.between a.report b.report s t a.reported other in
    (a.given_is ∙ ap (λ r. a.linked ++ r ∷ []) own.0 ∙ ap (λ rs. rs ++ b.report ∷ []) links.0 ∙ sym b.given_is, own.1)

-- and a whole input
pub AnswersAll-only : (kind : Input) (lines : List (List ℕ)) (p q : List Reply) → AnswersAll kind lines p → AnswersAll kind lines q → p ≡ q
AnswersAll-only kind lines p q a b =
    let front : (a.so_far ≡ b.so_far) × (a.state ≡ b.state) = Answers-only kind 1 start lines a.so_far b.so_far a.state b.state a.answers b.answers in
    let other : EndsIn kind a.state b.last b.linker = subst (λ (u : State). EndsIn kind u b.last b.linker) (sym front.1) b.ending in
    let last : (a.last ≡ b.last) × (a.linker ≡ b.linker) = EndsIn-only kind a.state a.last b.last a.linker b.linker a.ending other in
    a.given_is ∙ ap (λ r. r ++ a.last) front.0 ∙ ap (λ r. b.so_far ++ r) last.0 ∙ sym b.given_is

-- and the summary of a sky
pub IsSummary-only : (sky : MadeSky) (one other : Stats) → IsSummary sky one → IsSummary sky other → one ≡ other
IsSummary-only sky one other a b =
    let links : (a.given ≡ b.given) × (a.linker ≡ b.linker) = Links-only start.linker (made_detections sky) a.given b.given a.linker b.linker a.links b.links in
    stats_are_unique a.linker one other a.stats_are (subst (λ (l : LinkerState). AreStats l other) (sym links.1) b.stats_are)
