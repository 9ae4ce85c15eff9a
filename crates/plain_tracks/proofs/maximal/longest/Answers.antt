use Rattle.std.proofs.Common.{◌≡◌, ◌+◌, ◌<◌, ◌≤◌, ℕ, Vec, Global, List, length, get_or, take, subst, arith, rules}
use Rattle.std.proofs.lemmas.List.{take_all}
use Rattle.std.proofs.lemmas.List.Elements.{All-more, All-weaker}
use Rattle.std.specs.List.{All}
use Rattle.plain_tracks.proofs.maximal.longest.Goals as goal
use Rattle.plain_tracks.proofs.maximal.longest.Goals.{then-len-longest, else-len-longest}

-- one more list, where the greatest length may have grown
one_more : (lists : List (Vec ℕ Global)) (i before now : ℕ) (list : Vec ℕ Global) → i < length lists → list ≡ get_or lists i list → before ≤ now → length list.items ≤ now → All (λ list. length list.items ≤ before) (take i lists) → All (λ list. length list.items ≤ now) (take (i + 1) lists)
one_more lists i before now list l e grown one all =
    All-more (λ list. length list.items ≤ now) lists i list l
    (All-weaker (λ list. length list.items ≤ before) (λ list. length list.items ≤ now) (λ x p. omega arith) (take i lists) all)
    (subst (λ x. length x.items ≤ now) e one)

pub loop-list-preserved : goal.loop-list-preserved
loop-list-preserved c =
    let len : c.len.result ≡ length c.list-item.result.items = search rules in
    elim c.if-len-longest.branch [
      | then-len-longest w ↦ rw w.longest-is (one_more c.args.lists.now c.loop-list.list-index c.loop-list.longest _ c.list-item.result c.loop-list-test.true c.list-item.is (omega arith) (omega arith) c.loop-list.invariant)
      | else-len-longest w ↦ rw w.longest-is (one_more c.args.lists.now c.loop-list.list-index c.loop-list.longest _ c.list-item.result c.loop-list-test.true c.list-item.is (omega arith) (omega arith) c.loop-list.invariant)
    ]

pub returns : goal.returns
returns c =
    let all : take c.loop-list.list-index c.args.lists.now ≡ c.args.lists.now = take_all c.loop-list.list-index c.args.lists.now c.loop-list-test.false in
    rw (← all) c.loop-list.invariant
