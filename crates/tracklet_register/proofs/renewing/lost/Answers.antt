use Rattle.std.proofs.Common.{◌≡◌, ℕ, List, not, sym, subst}
use Rattle.std.specs.List.{Contains, filter}
use Rattle.kept_sets.proofs.Basics.{in_filter, not_false, not_true, of_filter, one_of}
use Rattle.kept_sets.specs.Lists.{is_one}
use Rattle.tracklet_register.proofs.renewing.lost.Goals as goal

pub returns-clause-exactly : goal.returns-clause-exactly
returns-clause-exactly c = λ number.
    let others : c.in_ok-from_slice.field-0.items ≡ c.args.others.now = c.in_ok-from_slice.ensures.items in
    let kept : c.as_slice.result.now ≡ c.in_order-kept.result.items = c.as_slice.ensures.value in
    let isnt = λ (x : ℕ). not (is_one c.as_slice.result.now x) in (
      λ d.
          let in_lost : Contains (filter isnt c.args.numbers.now) number = subst (λ (list : List ℕ). Contains list number) c.in_ok-lost.ensures ((c.in_order.ensures.exactly number).0 d) in
          let w = of_filter isnt c.args.numbers.now number in_lost in (
            w.0,
            λ e.
                let in_kept : Contains c.as_slice.result.now number = subst (λ (list : List ℕ). Contains list number) (sym kept) ((c.in_order-kept.ensures.exactly number).1 (subst (λ (list : List ℕ). Contains list number) (sym others) e)) in
                not_true (is_one c.as_slice.result.now number) w.1 ((one_of c.as_slice.result.now number).1 in_kept),
          ),
      λ w.
          let never : Contains c.as_slice.result.now number → ⊥ = λ k. w.1 (subst (λ (list : List ℕ). Contains list number) others ((c.in_order-kept.ensures.exactly number).0 (subst (λ (list : List ℕ). Contains list number) kept k))) in
          let in_lost : Contains (filter isnt c.args.numbers.now) number = in_filter isnt c.args.numbers.now number w.0 (not_false (is_one c.as_slice.result.now number) (λ t. never ((one_of c.as_slice.result.now number).0 t))) in
          (c.in_order.ensures.exactly number).1 (subst (λ (list : List ℕ). Contains list number) (sym c.in_ok-lost.ensures) in_lost),
    )
