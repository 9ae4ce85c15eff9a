use Rattle.std.proofs.Common.{ℕ, Vec, Global, List, map, get_or, refl}
use Rattle.std.proofs.lemmas.Bool.{false≢true}
use Rattle.std.proofs.lemmas.List.{take_all}
use Rattle.std.proofs.lemmas.List.Elements.{All-more}
use Rattle.std.specs.List.{All}
use Rattle.kept_sets.specs.declared.finding.Holders.{Holders}
use Rattle.kept_sets.specs.Stored.{Allows}
use Rattle.kept_sets.proofs.Remaining.{allowed_everywhere}
use Rattle.kept_sets.proofs.rests.is_allowed.Goals as goal

abbrev items_of : Vec ℕ Global → List ℕ
items_of set = set.items

abbrev places_of : Holders → List ℕ
places_of holders = holders.places.items

pub returns-then-not-allows : goal.returns-then-not-allows
returns-then-not-allows c = (
  λ h. absurd (false≢true h),
  λ all. absurd (false≢true (c.if-not-allows.ensures.1 (all (get_or c.fewest_places-place-items.result.now c.loop-place.place-index 0)))),
)

pub loop-place-preserved : goal.loop-place-preserved
loop-place-preserved c =
    All-more (Allows (map items_of c.args.sets.now) (map items_of c.args.added.now) c.args.went.now c.args.rest.now) c.fewest_places-place-items.result.now c.loop-place.place-index 0 c.loop-place-test.true c.loop-place.invariant (c.if-not-allows.ensures.0 refl)

pub returns : goal.returns
returns c =
    let places = c.fewest_places-place-items.result.now in
    let all = take_all c.loop-place.place-index places c.loop-place-test.false in
    let each : All (Allows (map items_of c.args.sets.now) (map items_of c.args.added.now) c.args.went.now c.args.rest.now) c.fewest_places-place-items.result.now = rw all at c.loop-place.invariant in (
      λ h. allowed_everywhere (map items_of c.args.sets.now) (map items_of c.args.added.now) (map places_of c.args.index.now) c.args.went.now c.args.rest.now places c.requires.found c.fewest_places-place-items.ensures each,
      λ h. refl,
    )
