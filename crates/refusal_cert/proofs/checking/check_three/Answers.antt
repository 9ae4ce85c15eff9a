use Rattle.std.proofs.Common.{ℕ, ◌+◌, ◌<◌, List, [], ◌∷◌, get_or, length, sym, subst, ap, ◌∙◌, arith}
use Rattle.sky_units.specs.Arcs.{IsArc}
use Rattle.sky_units.specs.Motion.{AxisAdmits}
use Rattle.refusal_cert.proofs.Named.{go_on, named_of, named_three, no_more, none_shown, not_named, nowhere, three_numbers, told_at}
use Rattle.refusal_cert.proofs.Places.{arc_at, three_at}
use Rattle.refusal_cert.proofs.Suffices.{three_places}
use Rattle.refusal_cert.proofs.checking.check_three.Goals as goal

pub returns-in_default : goal.returns-in_default
returns-in_default c =
    let same = three_numbers c.args.numbers.now c.told-numbers in
    none_shown _ (λ s.
    not_named c.args.spots.now 0 (get_or c.args.numbers.now 0 0) (get_or c.args.numbers.now 1 0 ∷ get_or c.args.numbers.now 2 0 ∷ []) s.places c.in_default.ensures (named_of c.args.axis c.args.settings.now c.args.spots.now c.args.numbers.now _ same s))

pub returns-in_default-place_of : goal.returns-in_default-place_of
returns-in_default-place_of c =
    let same = three_numbers c.args.numbers.now c.told-numbers in
    none_shown _ (λ s.
    let g0 = go_on c.args.spots.now 0 (get_or c.args.numbers.now 0 0) c.in-Some.i (get_or c.args.numbers.now 1 0 ∷ get_or c.args.numbers.now 2 0 ∷ []) s.places c.requires.different c.in-Some.ensures (named_of c.args.axis c.args.settings.now c.args.spots.now c.args.numbers.now _ same s) in
    not_named c.args.spots.now (c.in-Some.i + 1) (get_or c.args.numbers.now 1 0) (get_or c.args.numbers.now 2 0 ∷ []) g0.others c.in_default-place_of.ensures g0.behind)

pub returns-in_default-place_of-2 : goal.returns-in_default-place_of-2
returns-in_default-place_of-2 c =
    let same = three_numbers c.args.numbers.now c.told-numbers in
    none_shown _ (λ s.
    let g0 = go_on c.args.spots.now 0 (get_or c.args.numbers.now 0 0) c.in-Some.i (get_or c.args.numbers.now 1 0 ∷ get_or c.args.numbers.now 2 0 ∷ []) s.places c.requires.different c.in-Some.ensures (named_of c.args.axis c.args.settings.now c.args.spots.now c.args.numbers.now _ same s) in
    let g1 = go_on c.args.spots.now (c.in-Some.i + 1) (get_or c.args.numbers.now 1 0) c.in-Some-place_of.j (get_or c.args.numbers.now 2 0 ∷ []) g0.others c.requires.different c.in-Some-place_of.ensures g0.behind in
    not_named c.args.spots.now (c.in-Some-place_of.j + 1) (get_or c.args.numbers.now 2 0) [] g1.others c.in_default-place_of-2.ensures g1.behind)

pub axis_admits-requires : goal.axis_admits-requires
axis_admits-requires c =
    let ij : c.in-Some.i < c.in-Some-place_of.j = omega (arith, c.in-Some-place_of.ensures.0) in
    let jk : c.in-Some-place_of.j < c.in-Some-place_of-2.k = omega (arith, c.in-Some-place_of-2.ensures.0) in
    let at = three_at c.args.spots.now c.in-Some.i c.in-Some-place_of.j c.in-Some-place_of-2.k c.index-spots-i.result c.index-spots-j.result c.index-spots-k.result c.in-Some.ensures.1 c.in-Some-place_of.ensures.1 c.in-Some-place_of-2.ensures.1 c.index-spots-i.is c.index-spots-j.is c.index-spots-k.is in
    subst IsArc at (arc_at c.args.spots.now 0 (c.in-Some.i ∷ c.in-Some-place_of.j ∷ c.in-Some-place_of-2.k ∷ []) c.index-spots-i.result c.requires.arc (three_places (length c.args.spots.now) c.in-Some.i c.in-Some-place_of.j c.in-Some-place_of-2.k ij jk c.in-Some-place_of-2.ensures.1).0)

pub returns : goal.returns
returns c =
    let ij : c.in-Some.i < c.in-Some-place_of.j = omega (arith, c.in-Some-place_of.ensures.0) in
    let jk : c.in-Some-place_of.j < c.in-Some-place_of-2.k = omega (arith, c.in-Some-place_of-2.ensures.0) in
    let at = three_at c.args.spots.now c.in-Some.i c.in-Some-place_of.j c.in-Some-place_of-2.k c.index-spots-i.result c.index-spots-j.result c.index-spots-k.result c.in-Some.ensures.1 c.in-Some-place_of.ensures.1 c.in-Some-place_of-2.ensures.1 c.index-spots-i.is c.index-spots-j.is c.index-spots-k.is in
    let same = three_numbers c.args.numbers.now c.told-numbers in
    told_at c.args.axis c.args.settings.now c.args.spots.now c.args.numbers.now (c.in-Some.i ∷ c.in-Some-place_of.j ∷ c.in-Some-place_of-2.k ∷ []) c.axis_admits.result (three_places (length c.args.spots.now) c.in-Some.i c.in-Some-place_of.j c.in-Some-place_of-2.k ij jk c.in-Some-place_of-2.ensures.1).0
    (same ∙ named_three c.args.spots.now c.in-Some.i c.in-Some-place_of.j c.in-Some-place_of-2.k (get_or c.args.numbers.now 0 0) (get_or c.args.numbers.now 1 0) (get_or c.args.numbers.now 2 0) c.in-Some.ensures.1 c.in-Some-place_of.ensures.1 c.in-Some-place_of-2.ensures.1 (sym (c.in-Some.ensures.2 nowhere)) (sym (c.in-Some-place_of.ensures.2 nowhere)) (sym (c.in-Some-place_of-2.ensures.2 nowhere)))
    (λ h. subst (AxisAdmits c.args.axis c.args.settings.now) (sym at) (c.axis_admits.ensures.0 h), λ w. c.axis_admits.ensures.1 (subst (AxisAdmits c.args.axis c.args.settings.now) at w))
    (λ s.
    let g0 = go_on c.args.spots.now 0 (get_or c.args.numbers.now 0 0) c.in-Some.i (get_or c.args.numbers.now 1 0 ∷ get_or c.args.numbers.now 2 0 ∷ []) s.places c.requires.different c.in-Some.ensures (named_of c.args.axis c.args.settings.now c.args.spots.now c.args.numbers.now _ same s) in
    let g1 = go_on c.args.spots.now (c.in-Some.i + 1) (get_or c.args.numbers.now 1 0) c.in-Some-place_of.j (get_or c.args.numbers.now 2 0 ∷ []) g0.others c.requires.different c.in-Some-place_of.ensures g0.behind in
    let g2 = go_on c.args.spots.now (c.in-Some-place_of.j + 1) (get_or c.args.numbers.now 2 0) c.in-Some-place_of-2.k [] g1.others c.requires.different c.in-Some-place_of-2.ensures g1.behind in
    g0.is ∙ ap (λ (ps : List ℕ). c.in-Some.i ∷ ps) (g1.is ∙ ap (λ (ps : List ℕ). c.in-Some-place_of.j ∷ ps) (g2.is ∙ ap (λ (ps : List ℕ). c.in-Some-place_of-2.k ∷ ps) (no_more c.args.spots.now (c.in-Some-place_of-2.k + 1) g2.others g2.behind))))
