use Rattle.std.proofs.Common.{◌≡◌, subst, sym}
use Rattle.script_text.specs.Script.{script_line_of}
use Rattle.mops_run.specs.Lines.{said_by, IsNearLine}
use Rattle.mops_run.proofs.Numbers.{line_near}
use Rattle.mops_run.proofs.Steps.{answered_by_waiting}
use Rattle.mops_run.proofs.reading.answer.Goals as goal

pub returns-in-None-clause-ok : goal.returns-in-None-clause-ok
returns-in-None-clause-ok g c =
    let left = rw c.in-None.is at (c.in_ok-left.ensures (script_line_of c.args.text.now) c.read_script_line-read.ensures.answer) in
    answered_by_waiting c.args.input c.args.number c.args.linker.now.state c.args.waiting.now.items c.left_of.new.waiting.items left.0 (said_by c.args.text.now) (g.O.Sink.receipt c.args.sink.now) left.1 left.2

pub answer_said-requires-clause-near : goal.answer_said-requires-clause-near
answer_said-requires-clause-near g c =
    let left = rw c.in-Some.is at (c.in_ok-left.ensures (script_line_of c.args.text.now) c.read_script_line-read.ensures.answer) in
    subst IsNearLine (sym left.0) (line_near c.args.text.now)

pub answer_said-requires-clause-few : goal.answer_said-requires-clause-few
answer_said-requires-clause-few g c =
    let left = rw c.in-Some.is at (c.in_ok-left.ensures (script_line_of c.args.text.now) c.read_script_line-read.ensures.answer) in
    rw left.1 c.requires.few

pub returns-in-Some-clause-ok : goal.returns-in-Some-clause-ok
returns-in-Some-clause-ok g c =
    let left = rw c.in-Some.is at (c.in_ok-left.ensures (script_line_of c.args.text.now) c.read_script_line-read.ensures.answer) in
    rw (left.0, left.1) at c.answer_said.ensures.ok

pub returns-in-Some-clause-fault : goal.returns-in-Some-clause-fault
returns-in-Some-clause-fault g c =
    let left = rw c.in-Some.is at (c.in_ok-left.ensures (script_line_of c.args.text.now) c.read_script_line-read.ensures.answer) in
    rw (left.0, left.1) at c.answer_said.ensures.fault

pub returns-in-Some-clause-work : goal.returns-in-Some-clause-work
returns-in-Some-clause-work g c =
    let left = rw c.in-Some.is at (c.in_ok-left.ensures (script_line_of c.args.text.now) c.read_script_line-read.ensures.answer) in
    rw (left.0, left.1) at c.answer_said.ensures.work
