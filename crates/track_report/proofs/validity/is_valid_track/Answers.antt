use Rattle.std.proofs.Common.{◌≡◌, true, ◌∙◌, ap}
use Rattle.std.specs.List.{list_all}
use Rattle.std.proofs.lemmas.List.Sums.{list_all-from_AllPass}
use Rattle.miti_text.specs.Observation.{is_id}
use Rattle.track_report.proofs.validity.is_valid_track.Goals as goal

pub returns-then-not-are_ids : goal.returns-then-not-are_ids
returns-then-not-are_ids c valid =
    let all : list_all is_id c.args.track.now.ids ≡ true = list_all-from_AllPass is_id c.args.track.now.ids valid.ids in
    let told : c.are_ids.result ≡ true = c.are_ids.ensures ∙ ap (list_all is_id) c.items-2.ensures ∙ all in
    let test = c.if-not-are_ids.true in
    cc
