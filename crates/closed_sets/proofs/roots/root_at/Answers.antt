use Rattle.std.proofs.Common.{◌≡◌, ℕ, ◌+◌, ◌-◌, ◌++◌, List, [], ◌∷◌, length, take, drop, get_or, subst, ap, ap₂, ◌∙◌, rules}
use Rattle.std.specs.List.{filter}
use Rattle.closed_sets.specs.Search.{IsUnion, is_one}
use Rattle.closed_sets.proofs.Nodes.{to_the_end}
use Rattle.closed_sets.proofs.roots.root_at.Goals as goal

pub returns : goal.returns
returns c =
    let others : List ℕ = c.args.others.now in
    let place : ℕ = c.args.place in
    let leader : ℕ = get_or others place 0 in
    let set : List ℕ = c.in_ok-set.set.items in
    let partners : List ℕ = c.in_ok-partners.partners.items in
    let before : c.in_ok-numbers.numbers.items ≡ filter (is_one partners) (take place others) = search rules in
    let after : c.in_ok-candidates.candidates.items ≡ filter (is_one partners) (take (length others - (place + 1)) (drop (place + 1) others)) = search rules in
    let one : c.as_slice.result.now ≡ c.args.item ∷ [] = search rules in
    let other : c.as_slice-2.result.now ≡ leader ∷ [] = search rules in
    let numbers : c.extend_from_slice.new.self.items ≡ c.in_ok-numbers.numbers.items ++ c.in_ok-candidates.candidates.items = search rules in
    let first : c.len-first.result ≡ length c.in_ok-numbers.numbers.items = search rules in
    record {
      union = subst (λ (xs : List ℕ). IsUnion xs (leader ∷ []) set) one (subst (λ (xs : List ℕ). IsUnion c.as_slice.result.now xs set) other c.in_ok-set.ensures);
      partners = partners;
      exactly = c.in_ok-partners.ensures.exactly;
      is = numbers ∙ ap₂ (λ (xs ys : List ℕ). xs ++ ys) before (after ∙ ap (λ (xs : List ℕ). filter (is_one partners) xs) (to_the_end others (place + 1)));
      at = first ∙ ap length before;
    }
