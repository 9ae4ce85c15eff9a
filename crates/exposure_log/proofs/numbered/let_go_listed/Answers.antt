use Rattle.std.proofs.Common.{◌≡◌, ℕ, ◌<◌, ◌==◌, ap, ◌∙◌, arith, length, get_or, take, cond, None, IsSome, Option, true, false, List}
use Rattle.std.specs.List.{list_any, slice_index}
use Rattle.std.specs.Option.{is_some}
use Rattle.std.proofs.lemmas.Bool.{cond-false}
use Rattle.miti_text.specs.Observation.{Observation}
use Rattle.exposure_log.specs.declared.numbered.NumberedExposure.{NumberedExposure}
use Rattle.number_register.specs.Numbering.{slot}
use Rattle.exposure_log.specs.Numbered.{IsNumbered}
use Rattle.exposure_log.proofs.HeldList.{each_is_held}
use Rattle.exposure_log.proofs.Searching.{distinct_numbers}
use Rattle.exposure_log.proofs.Leaving.{among_at}
use Rattle.exposure_log.proofs.Forgetting.{in_some, in_none_before, gone_more, sum_more}
use Rattle.exposure_log.proofs.numbered.let_go_listed.Goals as goal

is_numbered : (slots : List (Option Observation)) (listed : List NumberedExposure) (i : ℕ) (g : NumberedExposure) → IsNumbered slots (get_or listed i g) → g ≡ get_or listed i g → IsNumbered slots g
is_numbered slots listed i g a is = rw is a

still_held : (slots now : List (Option Observation)) (g : NumberedExposure) (before : List NumberedExposure) → IsNumbered slots g → ((n : ℕ) → slot now n ≡ cond (in_some before n) None (slot slots n))
    → ((n : ℕ) → list_any (λ k. k == n) g.numbers.items ≡ true → in_some before n ≡ false) → (k : ℕ) → k < length g.numbers.items → IsSome (slot now (slice_index g.numbers.items k))
still_held slots now g before is says free k h =
    let no = free (slice_index g.numbers.items k) (among_at g.numbers.items k h) in
    let same = says (slice_index g.numbers.items k) ∙ cond-false (in_some before (slice_index g.numbers.items k)) None (slot slots (slice_index g.numbers.items k)) no in
    ap is_some same ∙ each_is_held slots g is k h

pub let_go_all-requires-clause-held : goal.let_go_all-requires-clause-held
let_go_all-requires-clause-held c =
    let l : c.loop-numbered.numbered-index < length c.args.listed.now = omega arith in
    let is = is_numbered c.args.register.now c.args.listed.now c.loop-numbered.numbered-index c.numbered-item.result (c.requires.each c.loop-numbered.numbered-index c.numbered-item.result l) c.numbered-item.is in
    rw c.as_slice.ensures.value (still_held c.args.register.now c.loop-numbered.register c.numbered-item.result (take c.loop-numbered.numbered-index c.args.listed.now) is c.loop-numbered.invariant.at
    (in_none_before c.args.register.now c.args.listed.now c.requires.order c.requires.each c.loop-numbered.numbered-index c.numbered-item.result l c.numbered-item.is))

pub let_go_all-requires-clause-apart : goal.let_go_all-requires-clause-apart
let_go_all-requires-clause-apart c =
    let l : c.loop-numbered.numbered-index < length c.args.listed.now = omega arith in
    let is = is_numbered c.args.register.now c.args.listed.now c.loop-numbered.numbered-index c.numbered-item.result (c.requires.each c.loop-numbered.numbered-index c.numbered-item.result l) c.numbered-item.is in
    rw c.as_slice.ensures.value (distinct_numbers c.args.register.now c.numbered-item.result is)

pub loop-numbered-preserved : goal.loop-numbered-preserved
loop-numbered-preserved c =
    let l : c.loop-numbered.numbered-index < length c.args.listed.now = omega arith in
    let gone = rw c.as_slice.ensures.value at c.let_go_all.ensures.at in
    let count = rw c.as_slice.ensures.value at c.let_go_all.ensures.count in
    record {
      at = λ n. ap (λ (f : ℕ → Option Observation). f n) gone ∙ gone_more (slot c.loop-numbered.register) (slot c.args.register.now) c.args.listed.now c.loop-numbered.numbered-index c.numbered-item.result l c.numbered-item.is c.loop-numbered.invariant.at n;
      count = omega (arith, count, c.loop-numbered.invariant.count, sum_more c.args.listed.now c.loop-numbered.numbered-index c.numbered-item.result l c.numbered-item.is);
    }
