use Rattle.std.proofs.Common.{◌≡◌, ℕ, List, ◌++◌, subst, sym, inl, inr, rules}
use Rattle.std.proofs.lemmas.List.Elements.{Contains-append_cases, Contains-append_left, Contains-append_right}
use Rattle.std.specs.List.{Contains}
use Rattle.closed_sets.proofs.sets.united.Goals as goal

pub returns : goal.returns
returns c =
    let items : c.extend_from_slice-2.new.self.items ≡ c.args.one.now ++ c.args.other.now = search rules in
    record {
      is_set = c.set_of.ensures.is_set;
      exactly = λ x. (
        λ d. Contains-append_cases c.args.one.now c.args.other.now x (subst (λ (l : List ℕ). Contains l x) items ((c.set_of.ensures.exactly x).0 d)),
        λ d. (c.set_of.ensures.exactly x).1 (subst (λ (l : List ℕ). Contains l x) (sym items) (elim d [
          | inl k ↦ Contains-append_left c.args.one.now c.args.other.now x k
          | inr k ↦ Contains-append_right c.args.one.now c.args.other.now x k
        ])),
      );
    }
