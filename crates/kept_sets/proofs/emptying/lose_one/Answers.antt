use Rattle.std.proofs.Common.{◌≡◌, ℕ, Vec, Global, List, map, filter, sym, subst, rules}
use Rattle.std.proofs.lemmas.Fn.{filter_same}
use Rattle.std.specs.List.{Contains}
use Rattle.kept_sets.specs.Stored.{at, is_filled}
use Rattle.kept_sets.proofs.Basics.{in_filter}
use Rattle.kept_sets.proofs.Emptied.{long_filled}
use Rattle.kept_sets.proofs.emptying.lose_one.Goals as goal

abbrev items_of : Vec ℕ Global → List ℕ
items_of set = set.items

pub returns : goal.returns
returns c =
    let sets = map items_of c.args.sets.now in
    let test = λ (place : ℕ). is_filled (at (map items_of c.args.sets.now) place) in
    let kept : c.retain.new.self.items ≡ filter test c.args.holders.now.places.items = filter_same _ test _ (λ x b f' k. search rules) _ _ c.retain.ensures.filtered in
    λ place d l. subst (λ xs. Contains xs place) (sym kept) (in_filter test c.args.holders.now.places.items place d (long_filled (at sets place) l))
