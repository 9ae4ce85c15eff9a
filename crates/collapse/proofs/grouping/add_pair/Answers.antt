use Rattle.std.proofs.Common.{◌≡◌, ◌<◌, ◌≤◌, length, map, get_or, rules, subst, ◌∙◌, arith}
use Rattle.collapse.specs.First.{IsFirstToJoin}
use Rattle.collapse.specs.Groups.{with_pair}
use Rattle.collapse.proofs.Filing.{filed_joined, filed_pushed}
use Rattle.collapse.proofs.Firsts.{joined_at, joined_new}
use Rattle.collapse.proofs.grouping.add_pair.Goals as goal

pub returns-in_ok-union-clause-groups : goal.returns-in_ok-union-clause-groups
returns-in_ok-union-clause-groups c =
    let within : c.in_ok-at.at < length c.args.groups.now.items = search rules in
    let union : c.of.result ≡ with_pair c.items.result.now c.args.pair = c.of.ensures ∙ c.in_ok-union.ensures in
    let items : c.items.result.now ≡ c.index.result.now = c.items.ensures in
    let group : c.items.result.now ≡ get_or c.args.groups.now.items c.in_ok-at.at c.items.result.now = rw items c.index.ensures in
    joined_at c.args.settings.now c.args.spots.now c.args.pair c.args.groups.now.items c.as_slice.result.now c.in_ok-at.at c.items.result.now c.of.result c.as_slice.ensures.value c.in_ok-at.ensures within group union

pub returns-in_ok-union-clause-filed : goal.returns-in_ok-union-clause-filed
returns-in_ok-union-clause-filed c =
    let within : c.in_ok-at.at < length c.args.groups.now.items = search rules in
    let union : c.of.result ≡ with_pair c.items.result.now c.args.pair = c.of.ensures ∙ c.in_ok-union.ensures in
    let items : c.items.result.now ≡ c.index.result.now = c.items.ensures in
    let group : c.items.result.now ≡ get_or c.args.groups.now.items c.in_ok-at.at c.items.result.now = rw items c.index.ensures in
    filed_joined c.args.spots.now c.args.grid.width c.args.pair.0 (map (λ list. list.items) c.args.strips.now.items) c.args.groups.now.items c.in_ok-at.at c.args.pair c.items.result.now c.of.result within group union c.requires.filed

pub returns-in_ok-push-clause-groups : goal.returns-in_ok-push-clause-groups
returns-in_ok-push-clause-groups c =
    let past : length c.args.groups.now.items ≤ c.in_ok-at.at = search rules in
    joined_new c.args.settings.now c.args.spots.now c.args.pair c.args.groups.now.items c.as_slice.result.now c.push.new.self.items c.in_ok-at.at c.of-else-at-len.result c.as_slice.ensures.value c.in_ok-at.ensures past (c.of-else-at-len.ensures ∙ c.in_ok-vec.ensures.items) c.in_ok-push.ensures.items

pub returns-in_ok-push-clause-filed : goal.returns-in_ok-push-clause-filed
returns-in_ok-push-clause-filed c =
    let past : length c.args.groups.now.items ≤ c.in_ok-at.at = search rules in
    let told : IsFirstToJoin c.args.settings.now c.args.spots.now c.args.pair c.args.groups.now.items c.in_ok-at.at = subst (λ groups. IsFirstToJoin c.args.settings.now c.args.spots.now c.args.pair groups c.in_ok-at.at) c.as_slice.ensures.value c.in_ok-at.ensures in
    let most = told.most in
    let at : c.in_ok-at.at ≡ length c.args.groups.now.items = omega (arith, past, most) in
    filed_pushed c.args.spots.now c.args.grid.width (map (λ list. list.items) c.args.strips.now.items) (map (λ list. list.items) c.file.new.strips.items) c.args.groups.now.items c.push.new.self.items c.strip_of-strip.result c.in_ok-at.at c.of-else-at-len.result c.args.pair c.index-spots-pair.result
    c.requires.pair c.index-spots-pair.is c.strip_of-strip.ensures.value c.strip_of-strip.ensures.size (c.of-else-at-len.ensures ∙ c.in_ok-vec.ensures.items) c.requires.filed c.in_ok-file.ensures at c.in_ok-push.ensures.items
