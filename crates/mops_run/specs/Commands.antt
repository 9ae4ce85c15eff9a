-- What the linker does at a command, and its reply.
use Rattle.std.specs.Prelude.{◌≡◌, ℕ, List, MatchOption, MatchResult, Result, Ok, Err}
use Rattle.exposure_log.specs.Held.{window_refusal, moved}
use Rattle.script_text.specs.declared.errors.ScriptError.{ScriptError}
use Rattle.sky_units.specs.declared.ask_errors.AskError.{AskError}
use Rattle.sky_units.specs.declared.asked.Asked.{Asked}
use Rattle.sky_units.specs.declared.reports.Report.{Report}
use Rattle.sky_units.specs.declared.statistics.Stats.{Stats}
use Rattle.window_incr.specs.LinkerState.{LinkerState, after_setting}
use Rattle.window_incr.specs.Answers.{tracklet_ids, IsReport, AreStats}
use Rattle.window_incr.specs.Asked.{IsAsked}
use Rattle.track_report.specs.declared.replies.Reply.{Reply}
use Rattle.track_report.specs.declared.replies.Reply.TheVariants as replies
use Rattle.mops_run.specs.declared.lines.Command.{Command}
use Rattle.mops_run.specs.declared.lines.Command.TheVariants.{Set, Window, Tracklets, Report as report_command, Ask, Stats as stats_command}

-- the reply to asked ids: what their detections are, or why they have no answer
abbrev pub asked_reply : List (List ℕ) → Result Asked AskError → Reply
asked_reply ids (Ok asked) = replies.Asked ids asked
asked_reply ids (Err error) = replies.AskRefused ids error

-- the reply to a command, and the linker's state after it; a report has the reported quadratics of each of its tracks, and
-- a misfit of asked detections the certificate of each axis that doesn't admit them
abbrev pub Obeys : Command → LinkerState → Reply → LinkerState → Type 0
Obeys (Set name value) old reply new =
    MatchResult (after_setting name value old) (λ changed. (new ≡ changed) × (reply ≡ replies.Set name value)) (λ error. (new ≡ old) × (reply ≡ replies.SetRefused error))
Obeys (Window lo hi) old reply new =
    MatchOption (window_refusal old.log.window lo hi)
    ((new ≡ record old { log = moved old.log lo hi }) × (reply ≡ replies.Window lo hi))
    (λ error. (new ≡ old) × (reply ≡ replies.WindowRefused error))
Obeys (Tracklets night) old reply new = (new ≡ old) × (reply ≡ replies.Tracklets night (tracklet_ids old night))
Obeys report_command old reply new = (new ≡ old) × (report : Report) × IsReport old report × (reply ≡ replies.Report report)
Obeys (Ask ids) old reply new = (new ≡ old) × (answer : Result Asked AskError) × IsAsked old ids answer × (reply ≡ asked_reply ids answer)
Obeys stats_command old reply new = (new ≡ old) × (stats : Stats) × AreStats old stats × (reply ≡ replies.Stats stats)

-- the malformed command of a line's number is refused, and nothing changes
abbrev pub Refuses : ℕ → ScriptError → LinkerState → Reply → LinkerState → Type 0
Refuses number error old reply new = (new ≡ old) × (reply ≡ replies.Script number error)
