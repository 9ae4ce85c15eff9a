use Rattle.std.proofs.Common.{◌↔◌, ℕ, List, Ok, Err, IfOk, subst}
use Rattle.std.specs.List.{Contains}
use Rattle.std.specs.declared.result.Result.{Result}
use Rattle.kept_tracks.specs.SeveralNights.{all_gone, all_new}
use Rattle.kept_tracks.specs.declared.exchanging.Change.{Change}
use Rattle.kept_tracks.specs.declared.exchanging.Replacement.{Replacement}
use Rattle.kept_tracks.proofs.SeveralNights.{same_lists}
use Rattle.kept_tracks.proofs.exchanging.exchange_noted.Goals as goal

both_ok : {X E : Type 0} (P Q R : X → Type 0) (r : Result X E) → ((x : X) → P x → Q x → R x) → IfOk r P → IfOk r Q → IfOk r R
both_ok P Q R (Ok x) all p q = all x p q
both_ok P Q R (Err e) all p q = tt

pub returns-clause-ok : goal.returns-clause-ok
returns-clause-ok c =
    both_ok (λ (change : Change). (number : ℕ) → Contains change.went.items number ↔ Contains (all_gone c.as_slice.result.now) number) (λ (change : Change). (number : ℕ) → Contains change.came.items number ↔ Contains (all_new c.as_slice.result.now) number) _ c.change_of.result
    (λ change went came. same_lists _ _ _ _ _ _ change.went.items change.came.items c.in_ok-replace_all.ensures.ok
    (subst (λ (done : List Replacement). (number : ℕ) → Contains change.went.items number ↔ Contains (all_gone done) number) c.as_slice.ensures.value went)
    (subst (λ (done : List Replacement). (number : ℕ) → Contains change.came.items number ↔ Contains (all_new done) number) c.as_slice.ensures.value came))
    c.change_of.ensures.went c.change_of.ensures.came
