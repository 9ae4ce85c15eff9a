use Rattle.std.proofs.Common.{◌≡◌, ◌↔◌, ◌∙◌, IsTrue, sym, to_z, of_z, w64, arith}
use Rattle.std.specs.Int.{w128}
use Rattle.std.proofs.lemmas.Bool.{false≢true}
use Rattle.std.proofs.lemmas.Int.{ints}
use mathlib.Core.Logic.{inl, inr}
use Rattle.bound_prune.specs.Bounds.{Reaches}
use Rattle.bound_prune.proofs.travel.is_either_reached.Goals as goal

pub returns : goal.returns
returns c =
    let t = c.requires.tol in
    let a = c.requires.ahead in
    let b = c.requires.back in
    let tol : to_z w64 (of_z w64 c.args.tol) ≡ c.args.tol = omega (arith, ints) in
    let ahead : to_z w64 (of_z w64 c.args.ahead) ≡ c.args.ahead = omega (arith, ints) in
    let back : to_z w64 (of_z w64 c.args.back) ≡ c.args.back = omega (arith, ints) in
    let way_ahead : to_z w128 (of_z w128 c.args.ways.now.ahead) ≡ c.args.ways.now.ahead = omega (arith, ints) in
    let way_back : to_z w128 (of_z w128 c.args.ways.now.back) ≡ c.args.ways.now.back = omega (arith, ints) in
    let first : IsTrue c.is_reached.result ↔ Reaches c.args.tol c.args.ahead c.args.ways.now.ahead = rw (tol, ahead, way_ahead) at c.is_reached.ensures in
    let second : IsTrue c.is_reached-2.result ↔ Reaches c.args.tol c.args.back c.args.ways.now.back = rw (tol, back, way_back) at c.is_reached-2.ensures in
    (λ t. inr (second.0 t), λ w. elim w [ inl p ↦ absurd (false≢true (sym c.if-is_reached.false ∙ first.1 p)) | inr q ↦ second.1 q ])
