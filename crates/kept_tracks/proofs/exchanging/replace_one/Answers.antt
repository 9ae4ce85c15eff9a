use Rattle.std.proofs.Common.{◌≡◌, ◌++◌, List, [], ◌∷◌, IsOk, reverse, refl, sym, subst, ap, ◌∙◌, to_z, of_z, w64, arith}
use Rattle.std.proofs.lemmas.Int.{to_z-of_z}
use Rattle.kept_tracks.specs.Undoing.{CanBeUndone}
use Rattle.kept_tracks.specs.declared.exchanging.Replacement.{Replacement}
use Rattle.kept_tracks.proofs.SeveralNights.{is_replacement}
use Rattle.kept_tracks.proofs.Undone.{noted, still_undone}
use Rattle.kept_tracks.proofs.exchanging.replace_one.Goals as goal

pub returns-in_err-exchange-clause-undone : goal.returns-in_err-exchange-clause-undone
returns-in_err-exchange-clause-undone c = λ first undone.
    subst (λ (list : List Replacement). CanBeUndone first (reverse list) c.replace.new.self) (sym c.reserve.ensures.items)
    (still_undone first c.args.register.now c.replace.new.self (reverse c.args.done.now.items) c.in_err-exchange.ensures.same c.replace.ensures.entered undone)

-- what is noted
abbrev one_of : goal.Joined-push → Replacement
one_of c = record { night = to_z w64 (of_z w64 c.number-number.result); exchange = c.in_ok-exchange.exchange }

pushed : (c : goal.Joined-push) → c.push.new.self.items ≡ c.args.done.now.items ++ one_of c ∷ []
pushed c =
    let ok : IsOk c.push.result = c.push.ensures.succeeds (omega (arith, c.in_ok-reserve.ensures.ok, c.reserve.ensures.len, c.reserve.new.self.ok.0)) in
    (rw ok at c.push.ensures.items) ∙ ap (λ (list : List Replacement). list ++ one_of c ∷ []) c.reserve.ensures.items

pub returns-clause-undone : goal.returns-clause-undone
returns-clause-undone c = λ first undone.
    noted first c.args.register.now c.replace.new.self (one_of c) c.args.done.now.items c.push.new.self.items _ c.tracklets_of_night-before.result.now c.tracklets.result.now (pushed c) refl
    c.in_ok-exchange.ensures.replaced c.in_ok-exchange.ensures.before c.in_ok-exchange.ensures.back c.replace.ensures.entered undone

pub returns-clause-ok : goal.returns-clause-ok
returns-clause-ok c =
    let number : to_z w64 (of_z w64 c.number-number.result) ≡ c.args.night.now.number = to_z-of_z w64 c.number-number.result (record { sfits = c.number-number.type_inv }) ∙ c.number-number.ensures in (
      one_of c,
      pushed c,
      is_replacement c.args.nights.now c.args.night.now c.args.register.now c.replace.new.self (one_of c) _ c.tracklets_of_night-before.result.now c.tracklets.result.now number c.tracklets_of_night-before.ensures c.tracklets.ensures c.requires.size
          c.in_ok-exchange.ensures.replaced c.in_ok-exchange.ensures.before c.in_ok-exchange.ensures.back c.in_ok-exchange.ensures.exchanged,
    )
