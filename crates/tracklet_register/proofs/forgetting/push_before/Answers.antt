use Rattle.std.proofs.Common.{ℕ, ◌<ℤ◌, ◌++◌, List, ap, ◌∙◌, w64, arith}
use Rattle.std.proofs.lemmas.Int.{ints, to_z-of_z}
use Rattle.tracklet_register.proofs.Entries.{extended}
use Rattle.tracklet_register.specs.Registers.{numbers_of}
use Rattle.tracklet_register.proofs.forgetting.push_before.Goals as goal

pub returns-in_ok-extend_from_slice : goal.returns-in_ok-extend_from_slice
returns-in_ok-extend_from_slice c =
    let less : c.args.night <ℤ c.args.first = omega (arith, ints, c.if-night-first.true) in
    let lent = c.numbers_of.ensures ∙ ap (numbers_of c.args.nights.now) (to_z-of_z w64 c.args.night c.ranges.night) in
    extended c.args.numbers.now.items (numbers_of c.args.nights.now c.args.night) c.extend_from_slice.new.self.items c.args.night c.args.first (c.in_ok-extend_from_slice.ensures.items ∙ ap (λ (list : List ℕ). c.args.numbers.now.items ++ list) lent) less
