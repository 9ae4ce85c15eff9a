use Rattle.std.proofs.Common.{◌≡◌, ℕ, Vec, Global, List, map, ap, ◌∙◌, rules}
use Rattle.std.proofs.lemmas.Fn.{filter_same}
use Rattle.std.specs.List.{filter}
use Rattle.kept_sets.specs.Stored.{is_filled}
use Rattle.kept_sets.proofs.Compacted.{filter_map_test}
use Rattle.kept_sets.proofs.compacting.drop_empty.Goals as goal

abbrev items_of : Vec ℕ Global → List ℕ
items_of set = set.items

pub returns : goal.returns
returns c =
    let test = λ (set : Vec ℕ Global). is_filled (items_of set) in
    let kept : c.retain.new.self.items ≡ filter test c.args.sets.now.items = filter_same _ test _ (λ x b f' k. search rules) _ _ c.retain.ensures.filtered in
    ap (map items_of) kept ∙ filter_map_test items_of is_filled c.args.sets.now.items
