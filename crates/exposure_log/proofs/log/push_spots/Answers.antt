use Rattle.std.proofs.Common.{◌≡◌, ◌<◌, ◌∙◌, sym, ap, arith, length, Some, None, append_assoc, ◌++◌, ◌∷◌, [], refl}
use Rattle.std.proofs.lemmas.List.{append-nil}
use Rattle.exposure_log.proofs.Spots.{one_number}
use Rattle.exposure_log.proofs.log.push_spots.Goals as goal
use Rattle.exposure_log.proofs.log.push_spots.Goals.{in-Some+in_ok-push, in_default}

pub loop-number-preserved : goal.loop-number-preserved
loop-number-preserved c =
    let l : c.loop-number.number-index < length c.args.numbers.now = omega arith in
    elim c.match-get.branch [
      | in-Some+in_ok-push w ↦
          let more = one_number c.args.register.now c.args.numbers.now c.loop-number.number-index (Some w.in-Some.detection.now) l (sym w.in-Some.ensures) in
          let pushed : c.match-get.spots.items ≡ c.loop-number.spots.items ++ w.labelled.result ∷ [] = ap (λ v. v.items) w.spots-is ∙ w.in_ok-push.ensures.items in
          rw (pushed, w.labelled.ensures, c.loop-number.invariant, more) (append_assoc c.args.spots.now.items _ _)
      | in_default w ↦
          let more = one_number c.args.register.now c.args.numbers.now c.loop-number.number-index None l (sym w.in_default.ensures) in
          let same : c.match-get.spots.items ≡ c.loop-number.spots.items = ap (λ v. v.items) w.spots-is in
          rw (same, c.loop-number.invariant, more, append-nil) refl
    ]
