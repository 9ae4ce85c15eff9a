use Rattle.std.proofs.Common.{◌-ℤ◌, ◌≤ℤ◌, pos, sym, ◌∙◌, arith}
use Rattle.line_fit.proofs.Steps.{read_two}
use Rattle.collapse.proofs.Distances.{no_reach_no_join}
use Rattle.collapse.proofs.reaching.may_reach.Goals as goal

pub are_in_reach-requires : goal.are_in_reach-requires
are_in_reach-requires c =
    let l = c.requires.pair.0 in
    let m = c.requires.pair.1 in
    read_two (λ x y. (y.epoch -ℤ x.epoch) ≤ℤ pos 1000000) c.args.spots.now c.args.place c.args.pair.0 c.index-spots-place.result c.index-spots-pair.result c.if-place-pair.false (omega arith) c.index-spots-place.is c.index-spots-pair.is c.requires.day

pub returns : goal.returns
returns c = λ far group places among.
    no_reach_no_join c.args.settings.now c.args.spots.now group c.args.pair c.args.place c.index-spots-place.result c.index-spots-pair.result c.requires.pair places among c.if-place-pair.false c.index-spots-place.is c.index-spots-pair.is (sym c.are_in_reach.ensures ∙ far)
