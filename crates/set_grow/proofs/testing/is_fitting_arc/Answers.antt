use Rattle.std.proofs.Common.{◌++◌, [], ◌↔◌, ◌∙◌, IsTrue, List, subst}
use Rattle.std.proofs.lemmas.List.{append-nil}
use Rattle.sky_units.specs.Arcs.{IsArc}
use Rattle.sky_units.specs.Motion.{Fits}
use Rattle.sky_units.specs.SpotData.{SpotData}
use Rattle.set_grow.proofs.testing.is_fitting_arc.Goals as goal

pub returns-clause-fits : goal.returns-clause-fits
returns-clause-fits c = subst (λ (spots : List SpotData). IsTrue c.are_fitting_arc.result ↔ (IsArc spots × Fits c.args.settings.now spots)) (append-nil (c.args.spots.now ++ []) ∙ append-nil c.args.spots.now) c.are_fitting_arc.ensures.fits
