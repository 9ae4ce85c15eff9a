use Rattle.std.proofs.Common.{◌≡◌, ◌<◌, ◌≤◌, true, false, length, rules, ap, ◌∙◌, arith}
use Rattle.std.specs.Vec.{vec_len}
use Rattle.line_fit.proofs.OneDay.{rising_dont_fall}
use Rattle.line_fit.specs.Lines.{lies_on_line}
use Rattle.sky_units.specs.AtPlaces.{spots_at}
use Rattle.purge.specs.Purging.{purge_of, worst}
use Rattle.purge.proofs.Left.{left_dropped, left_few, left_on_line, left_start, worst_within}
use Rattle.purge.proofs.dropping.purge_places.Goals as goal

pub loop-settings-init : goal.loop-settings-init
loop-settings-init c =
    let together : c.in_ok-together.together.items ≡ spots_at c.args.spots.now c.args.group = c.in_ok-together.ensures ∙ ap (spots_at c.args.spots.now) c.items.ensures in
    rw c.into_items-left.ensures (left_start c.args.settings.now c.args.spots.now c.args.group c.in_ok-together.together.items together c.requires.within c.requires.arc c.requires.day)

pub fits_line-requires-clause-order : goal.fits_line-requires-clause-order
fits_line-requires-clause-order c = rw c.as_slice.ensures.value (rising_dont_fall c.loop-settings.together.items c.loop-settings.invariant.arc.rising)

pub returns-then-fits_line : goal.returns-then-fits_line
returns-then-fits_line c =
    let two : 2 ≤ length c.loop-settings.left.items = search rules in
    let lies : lies_on_line c.args.settings.now.purge_tol c.args.settings.now.rate_ra c.args.settings.now.rate_dec c.loop-settings.together.items ≡ true = search rules in
    rw c.of.ensures (left_on_line c.args.settings.now c.args.spots.now (purge_of c.args.settings.now c.args.spots.now c.args.group) c.loop-settings.left.items c.loop-settings.together.items c.loop-settings.invariant two lies)

pub worst-dropped-requires-clause-day : goal.worst-dropped-requires-clause-day
worst-dropped-requires-clause-day c = rw c.as_slice-in-loop-settings.ensures.value c.loop-settings.invariant.day

pub remove-requires : goal.remove-requires
remove-requires c =
    let two : 2 ≤ length c.loop-settings.left.items = search rules in
    let n = c.loop-settings.invariant.count in
    let w = worst_within c.loop-settings.together.items (omega arith) in
    let is : c.worst-dropped.result ≡ worst c.loop-settings.together.items = search rules in
    let all : length c.loop-settings.together.items ≡ vec_len c.loop-settings.together = search rules in
    rw is (omega (arith, w, all))

pub remove-requires-in-loop-settings : goal.remove-requires-in-loop-settings
remove-requires-in-loop-settings c =
    let two : 2 ≤ length c.loop-settings.left.items = search rules in
    let n = c.loop-settings.invariant.count in
    let w = worst_within c.loop-settings.together.items (omega arith) in
    let is : c.worst-dropped.result ≡ worst c.loop-settings.together.items = search rules in
    let all : length c.loop-settings.left.items ≡ vec_len c.loop-settings.left = search rules in
    rw is (omega (arith, w, all, n))

pub loop-settings-preserved : goal.loop-settings-preserved
loop-settings-preserved c =
    let two : 2 ≤ length c.loop-settings.left.items = search rules in
    let lies : lies_on_line c.args.settings.now.purge_tol c.args.settings.now.rate_ra c.args.settings.now.rate_dec c.loop-settings.together.items ≡ false = search rules in
    let is : c.worst-dropped.result ≡ worst c.loop-settings.together.items = search rules in
    left_dropped c.args.settings.now c.args.spots.now (purge_of c.args.settings.now c.args.spots.now c.args.group) c.loop-settings.left.items c.remove-in-loop-settings.new.self.items c.loop-settings.together.items c.remove.new.self.items c.worst-dropped.result
    c.loop-settings.invariant two lies is c.remove-in-loop-settings.ensures.items c.remove.ensures.items

pub returns : goal.returns
returns c =
    let few : length c.loop-settings.left.items < 2 = search rules in
    left_few c.args.settings.now c.args.spots.now (purge_of c.args.settings.now c.args.spots.now c.args.group) c.loop-settings.left.items c.loop-settings.together.items c.loop-settings.invariant few
