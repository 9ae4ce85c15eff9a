use Rattle.std.proofs.Common.{◌≡◌, false, pos, negsuc, ℤ, ◌+ℤ◌, ◌≤ℤ◌, SFits, get_or, rules, to_z, of_z, w64, arith}
use Rattle.std.specs.Int.{saturate_signed}
use Rattle.std.specs.Int.Signed.{lt_z}
use Rattle.std.proofs.lemmas.Int.{ints, to_z-of_z}
use Rattle.box_tree.specs.Boxes.{end_on}
use Rattle.bound_prune.specs.Meets.{LeadBothWays}
use Rattle.bound_prune.proofs.Cuts.{tells}
use Rattle.bound_prune.proofs.meeting.lead_both_ways.Goals as goal

not_below : (s : ℤ) → lt_z s (pos 0) ≡ false → pos 0 ≤ℤ s
not_below s h = grind (arith, ints)

-- a cut number lies on the same side of 0
no_less : (x s : ℤ) → s ≡ saturate_signed w64 x → pos 0 ≤ℤ s → pos 0 ≤ℤ x
no_less (pos n) s e h = omega (arith, ints)
no_less (negsuc n) s e h = absurd (omega (arith, ints, e, h))

no_more : (x s : ℤ) → s ≡ saturate_signed w64 x → s ≤ℤ pos 0 → x ≤ℤ pos 0
no_more (pos n) s e h = omega (arith, ints, e, h)
no_more (negsuc n) s e h = omega (arith, ints)

cut_no_more : (x s : ℤ) → s ≡ saturate_signed w64 x → x ≤ℤ pos 0 → s ≤ℤ pos 0
cut_no_more (pos n) s e h = omega (arith, ints, e, h)
cut_no_more (negsuc n) s e h = omega (arith, ints, e)

pub returns : goal.returns
returns c =
    let axis = c.args.axis in
    let a = c.args.a.now in
    let b = c.args.b.now in
    let a_low : SFits w64 (get_or c.args.a.now.low c.args.axis (pos 0)) = search rules in
    let a_high : SFits w64 (get_or c.args.a.now.high c.args.axis (pos 0)) = search rules in
    let b_low : SFits w64 (get_or c.args.b.now.low c.args.axis (pos 0)) = search rules in
    let b_high : SFits w64 (get_or c.args.b.now.high c.args.axis (pos 0)) = search rules in
    let ahead_kept : to_z w64 (of_z w64 c.saturating_add.result) ≡ c.saturating_add.result = omega (arith, ints) in
    let back_kept : to_z w64 (of_z w64 c.saturating_add-2.result) ≡ c.saturating_add-2.result = omega (arith, ints) in
    let ahead : c.saturating_add.result ≡ saturate_signed w64 (end_on a.high axis +ℤ end_on b.high axis) = simp to_z-of_z at c.saturating_add.ensures in
    let back : c.saturating_add-2.result ≡ saturate_signed w64 (end_on a.low axis +ℤ end_on b.low axis) = simp to_z-of_z at c.saturating_add-2.ensures in
    let leads_ahead : pos 0 ≤ℤ (end_on a.high axis +ℤ end_on b.high axis) = no_less (end_on a.high axis +ℤ end_on b.high axis) c.saturating_add.result ahead (not_below c.saturating_add.result (rw ahead_kept at c.if-saturating_add-lt0.false)) in
    rw back_kept (tells c.saturating_add-2.result (pos 0) (LeadBothWays axis a b)
    (λ h. record { ahead = leads_ahead; back = no_more (end_on a.low axis +ℤ end_on b.low axis) c.saturating_add-2.result back h })
    (λ w. cut_no_more (end_on a.low axis +ℤ end_on b.low axis) c.saturating_add-2.result back w.back))
