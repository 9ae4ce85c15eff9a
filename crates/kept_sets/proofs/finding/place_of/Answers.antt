use Rattle.std.proofs.Common.{◌≡◌, ℕ, Vec, Global, map, take, sym, subst, ◌∙◌}
use Rattle.std.proofs.lemmas.List.{take_all}
use Rattle.std.proofs.lemmas.List.Elements.{All-contains, All-more}
use Rattle.std.proofs.lemmas.Bool.{false≢true}
use lib.Pointwise.{bytes_decides}
use Rattle.std.specs.List.{All, Contains}
use Rattle.kept_sets.specs.Stored.{at}
use Rattle.kept_sets.proofs.finding.place_of.Goals as goal

pub loop-place-preserved : goal.loop-place-preserved
loop-place-preserved c =
    let places = c.fewest_places-place-items.result.now in
    All-more (λ (place : ℕ). at (map (λ (set : Vec ℕ Global). set.items) c.args.sets.now) place ≡ c.args.set.now → ⊥) places c.loop-place.place-index 0 c.loop-place-test.true c.loop-place.invariant
    (λ e. false≢true (sym c.if-eq.false ∙ c.eq.ensures ∙ (bytes_decides c.set_at.result.now c.args.set.now).1 (c.set_at.ensures ∙ e)))

pub returns : goal.returns
returns c =
    let P = λ (place : ℕ). at (map (λ (set : Vec ℕ Global). set.items) c.args.sets.now) place ≡ c.args.set.now → ⊥ in
    let all : take c.loop-place.place-index c.fewest_places-place-items.result.now ≡ c.fewest_places-place-items.result.now = take_all c.loop-place.place-index c.fewest_places-place-items.result.now c.loop-place-test.false in
    let each : All P c.fewest_places-place-items.result.now = rw all at c.loop-place.invariant in
    let w = c.fewest_places-place-items.ensures in
    λ place e. absurd (All-contains P c.fewest_places-place-items.result.now place each (subst (λ l. Contains l place) (sym w.2) (c.requires.places place w.0 (subst (λ s. Contains s w.0) (sym e) w.1))) e)
