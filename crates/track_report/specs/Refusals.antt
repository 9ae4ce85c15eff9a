-- The replies that are refusals.
use Rattle.std.specs.Prelude.{Bool, true, false}
use Rattle.track_report.specs.declared.replies.Reply.{Reply}
use Rattle.track_report.specs.declared.replies.Reply.TheVariants as replies

abbrev pub is_refusal : Reply → Bool
is_refusal (replies.Line number error) = true
is_refusal (replies.Script number error) = true
is_refusal (replies.Added epoch site count) = false
is_refusal (replies.Refused epoch site error id) = true
is_refusal (replies.Set name value) = false
is_refusal (replies.SetRefused error) = true
is_refusal (replies.Window lo hi) = false
is_refusal (replies.WindowRefused error) = true
is_refusal (replies.Tracklets night tracklets) = false
is_refusal (replies.Report report) = false
is_refusal (replies.Asked ids asked) = false
is_refusal (replies.AskRefused ids error) = true
is_refusal (replies.Stats stats) = false
is_refusal (replies.Summary number nights objects stats) = false
