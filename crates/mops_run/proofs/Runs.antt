-- How the replies to an input are made of the replies to its lines.
use Rattle.std.proofs.Common.{◌≡◌, ℕ, ◌+◌, ◌++◌, List, [], ◌∷◌, length, refl, sym, ◌∙◌, ap, subst, append_assoc, arith}
use Rattle.mops_run.specs.State.{State}
use Rattle.mops_run.specs.declared.inputs.Input.{Input}
use Rattle.mops_run.specs.Watch.{Answers}
use Rattle.track_report.specs.declared.replies.Reply.{Reply}

-- the replies to two lists of lines, one behind the other
pub Answers-append : (input : Input) (n : ℕ) (old mid new : State) (lines more : List (List ℕ)) (p q : List Reply) → Answers input n old lines p mid
    → Answers input (n + length lines) mid more q new → Answers input n old (lines ++ more) (p ++ q) new
Answers-append input n old mid new [] more p q a b = rw a.0 (subst (λ (u : State). Answers input n u more q new) a.1 (subst (λ k. Answers input k mid more q new) (omega arith) b))
Answers-append input n old mid new (line ∷ lines) more p q a b =
    let next : Answers input ((n + 1) + length lines) mid more q new = subst (λ k. Answers input k mid more q new) (omega arith) b in
    (a.0, a.1 ++ q, a.2, a.3, Answers-append input (n + 1) a.2 mid new lines more a.1 q a.4 next, ap (λ r. r ++ q) a.5 ∙ append_assoc a.0 a.1 q)

-- the replies to two lists of lines are those to the first, and then those to the second
pub record Split (input : Input) (n : ℕ) (old new : State) (lines more : List (List ℕ)) (given : List Reply) : Type 0 where
  pub first : List Reply
  pub second : List Reply
  pub mid : State
  pub before : Answers input n old lines first mid
  pub behind : Answers input (n + length lines) mid more second new
  pub given_is : given ≡ first ++ second

pub Answers-split : (input : Input) (n : ℕ) (old new : State) (lines more : List (List ℕ)) (r : List Reply) → Answers input n old (lines ++ more) r new → Split input n old new lines more r
Answers-split input n old new [] more r a = record {
  first = [];
  second = r;
  mid = old;
  before = (refl, refl);
  behind = subst (λ k. Answers input k old more r new) (omega arith) a;
  given_is = refl;
}
Answers-split input n old new (line ∷ lines) more r a =
    let rest = Answers-split input (n + 1) a.2 new lines more a.1 a.4 in
    record {
      first = a.0 ++ rest.first;
      second = rest.second;
      mid = rest.mid;
      before = (a.0, rest.first, a.2, a.3, rest.before, refl);
      behind = subst (λ k. Answers input k rest.mid more rest.second new) (omega arith) rest.behind;
      given_is = a.5 ∙ ap (λ x. a.0 ++ x) rest.given_is ∙ sym (append_assoc a.0 rest.first rest.second);
    }
