use Rattle.std.proofs.Common.{ℕ, ◌+◌, ◌<◌, List, [], ◌∷◌, get_or, length, sym, subst, ap, ◌∙◌, arith}
use Rattle.sky_units.specs.Motion.{AxisAdmits}
use Rattle.refusal_cert.proofs.Named.{go_on, named_of, named_four, no_more, none_shown, not_named, nowhere, four_numbers, told_at}
use Rattle.refusal_cert.proofs.FoursAt.{AreFour, arc_of_four, spots_of_four}
use Rattle.refusal_cert.proofs.Suffices.{four_places}
use Rattle.refusal_cert.proofs.checking.check_four.Goals as goal

pub returns-in_default : goal.returns-in_default
returns-in_default c =
    let same = four_numbers c.args.numbers.now c.told-numbers in
    none_shown _ (λ s.
    not_named c.args.spots.now 0 (get_or c.args.numbers.now 0 0) (get_or c.args.numbers.now 1 0 ∷ get_or c.args.numbers.now 2 0 ∷ get_or c.args.numbers.now 3 0 ∷ []) s.places c.in_default.ensures (named_of c.args.axis c.args.settings.now c.args.spots.now c.args.numbers.now _ same s))

pub returns-in_default-place_of : goal.returns-in_default-place_of
returns-in_default-place_of c =
    let same = four_numbers c.args.numbers.now c.told-numbers in
    none_shown _ (λ s.
    let g0 = go_on c.args.spots.now 0 (get_or c.args.numbers.now 0 0) c.in-Some.i (get_or c.args.numbers.now 1 0 ∷ get_or c.args.numbers.now 2 0 ∷ get_or c.args.numbers.now 3 0 ∷ []) s.places c.requires.different c.in-Some.ensures (named_of c.args.axis c.args.settings.now c.args.spots.now c.args.numbers.now _ same s) in
    not_named c.args.spots.now (c.in-Some.i + 1) (get_or c.args.numbers.now 1 0) (get_or c.args.numbers.now 2 0 ∷ get_or c.args.numbers.now 3 0 ∷ []) g0.others c.in_default-place_of.ensures g0.behind)

pub returns-in_default-place_of-2 : goal.returns-in_default-place_of-2
returns-in_default-place_of-2 c =
    let same = four_numbers c.args.numbers.now c.told-numbers in
    none_shown _ (λ s.
    let g0 = go_on c.args.spots.now 0 (get_or c.args.numbers.now 0 0) c.in-Some.i (get_or c.args.numbers.now 1 0 ∷ get_or c.args.numbers.now 2 0 ∷ get_or c.args.numbers.now 3 0 ∷ []) s.places c.requires.different c.in-Some.ensures (named_of c.args.axis c.args.settings.now c.args.spots.now c.args.numbers.now _ same s) in
    let g1 = go_on c.args.spots.now (c.in-Some.i + 1) (get_or c.args.numbers.now 1 0) c.in-Some-place_of.j (get_or c.args.numbers.now 2 0 ∷ get_or c.args.numbers.now 3 0 ∷ []) g0.others c.requires.different c.in-Some-place_of.ensures g0.behind in
    not_named c.args.spots.now (c.in-Some-place_of.j + 1) (get_or c.args.numbers.now 2 0) (get_or c.args.numbers.now 3 0 ∷ []) g1.others c.in_default-place_of-2.ensures g1.behind)

pub returns-in_default-place_of-3 : goal.returns-in_default-place_of-3
returns-in_default-place_of-3 c =
    let same = four_numbers c.args.numbers.now c.told-numbers in
    none_shown _ (λ s.
    let g0 = go_on c.args.spots.now 0 (get_or c.args.numbers.now 0 0) c.in-Some.i (get_or c.args.numbers.now 1 0 ∷ get_or c.args.numbers.now 2 0 ∷ get_or c.args.numbers.now 3 0 ∷ []) s.places c.requires.different c.in-Some.ensures (named_of c.args.axis c.args.settings.now c.args.spots.now c.args.numbers.now _ same s) in
    let g1 = go_on c.args.spots.now (c.in-Some.i + 1) (get_or c.args.numbers.now 1 0) c.in-Some-place_of.j (get_or c.args.numbers.now 2 0 ∷ get_or c.args.numbers.now 3 0 ∷ []) g0.others c.requires.different c.in-Some-place_of.ensures g0.behind in
    let g2 = go_on c.args.spots.now (c.in-Some-place_of.j + 1) (get_or c.args.numbers.now 2 0) c.in-Some-place_of-2.k (get_or c.args.numbers.now 3 0 ∷ []) g1.others c.requires.different c.in-Some-place_of-2.ensures g1.behind in
    not_named c.args.spots.now (c.in-Some-place_of-2.k + 1) (get_or c.args.numbers.now 3 0) [] g2.others c.in_default-place_of-3.ensures g2.behind)

pub axis_admits-requires : goal.axis_admits-requires
axis_admits-requires c =
    let ij : c.in-Some.i < c.in-Some-place_of.j = omega (arith, c.in-Some-place_of.ensures.0) in
    let jk : c.in-Some-place_of.j < c.in-Some-place_of-2.k = omega (arith, c.in-Some-place_of-2.ensures.0) in
    let kl : c.in-Some-place_of-2.k < c.in-Some-place_of-3.l = omega (arith, c.in-Some-place_of-3.ensures.0) in
    let four : AreFour c.args.spots.now c.in-Some.i c.in-Some-place_of.j c.in-Some-place_of-2.k c.in-Some-place_of-3.l c.index-spots-i.result c.index-spots-j.result c.index-spots-k.result c.index-spots-l.result = record {
      first_step = ij;
      second_step = jk;
      third_step = kl;
      within = c.in-Some-place_of-3.ensures.1;
      first = c.index-spots-i.is;
      second = c.index-spots-j.is;
      third = c.index-spots-k.is;
      fourth = c.index-spots-l.is;
    } in
    arc_of_four c.args.spots.now c.in-Some.i c.in-Some-place_of.j c.in-Some-place_of-2.k c.in-Some-place_of-3.l c.index-spots-i.result c.index-spots-j.result c.index-spots-k.result c.index-spots-l.result c.requires.arc four

pub returns : goal.returns
returns c =
    let ij : c.in-Some.i < c.in-Some-place_of.j = omega (arith, c.in-Some-place_of.ensures.0) in
    let jk : c.in-Some-place_of.j < c.in-Some-place_of-2.k = omega (arith, c.in-Some-place_of-2.ensures.0) in
    let kl : c.in-Some-place_of-2.k < c.in-Some-place_of-3.l = omega (arith, c.in-Some-place_of-3.ensures.0) in
    let four : AreFour c.args.spots.now c.in-Some.i c.in-Some-place_of.j c.in-Some-place_of-2.k c.in-Some-place_of-3.l c.index-spots-i.result c.index-spots-j.result c.index-spots-k.result c.index-spots-l.result = record {
      first_step = ij;
      second_step = jk;
      third_step = kl;
      within = c.in-Some-place_of-3.ensures.1;
      first = c.index-spots-i.is;
      second = c.index-spots-j.is;
      third = c.index-spots-k.is;
      fourth = c.index-spots-l.is;
    } in
    let at = spots_of_four c.args.spots.now c.in-Some.i c.in-Some-place_of.j c.in-Some-place_of-2.k c.in-Some-place_of-3.l c.index-spots-i.result c.index-spots-j.result c.index-spots-k.result c.index-spots-l.result four in
    let same = four_numbers c.args.numbers.now c.told-numbers in
    told_at c.args.axis c.args.settings.now c.args.spots.now c.args.numbers.now (c.in-Some.i ∷ c.in-Some-place_of.j ∷ c.in-Some-place_of-2.k ∷ c.in-Some-place_of-3.l ∷ []) c.axis_admits.result (four_places (length c.args.spots.now) c.in-Some.i c.in-Some-place_of.j c.in-Some-place_of-2.k c.in-Some-place_of-3.l ij jk kl c.in-Some-place_of-3.ensures.1).0
    (same ∙ named_four c.args.spots.now c.in-Some.i c.in-Some-place_of.j c.in-Some-place_of-2.k c.in-Some-place_of-3.l (get_or c.args.numbers.now 0 0) (get_or c.args.numbers.now 1 0) (get_or c.args.numbers.now 2 0) (get_or c.args.numbers.now 3 0) c.in-Some.ensures.1 c.in-Some-place_of.ensures.1 c.in-Some-place_of-2.ensures.1 c.in-Some-place_of-3.ensures.1 (sym (c.in-Some.ensures.2 nowhere)) (sym (c.in-Some-place_of.ensures.2 nowhere)) (sym (c.in-Some-place_of-2.ensures.2 nowhere)) (sym (c.in-Some-place_of-3.ensures.2 nowhere)))
    (λ h. subst (AxisAdmits c.args.axis c.args.settings.now) (sym at) (c.axis_admits.ensures.0 h), λ w. c.axis_admits.ensures.1 (subst (AxisAdmits c.args.axis c.args.settings.now) at w))
    (λ s.
    let g0 = go_on c.args.spots.now 0 (get_or c.args.numbers.now 0 0) c.in-Some.i (get_or c.args.numbers.now 1 0 ∷ get_or c.args.numbers.now 2 0 ∷ get_or c.args.numbers.now 3 0 ∷ []) s.places c.requires.different c.in-Some.ensures (named_of c.args.axis c.args.settings.now c.args.spots.now c.args.numbers.now _ same s) in
    let g1 = go_on c.args.spots.now (c.in-Some.i + 1) (get_or c.args.numbers.now 1 0) c.in-Some-place_of.j (get_or c.args.numbers.now 2 0 ∷ get_or c.args.numbers.now 3 0 ∷ []) g0.others c.requires.different c.in-Some-place_of.ensures g0.behind in
    let g2 = go_on c.args.spots.now (c.in-Some-place_of.j + 1) (get_or c.args.numbers.now 2 0) c.in-Some-place_of-2.k (get_or c.args.numbers.now 3 0 ∷ []) g1.others c.requires.different c.in-Some-place_of-2.ensures g1.behind in
    let g3 = go_on c.args.spots.now (c.in-Some-place_of-2.k + 1) (get_or c.args.numbers.now 3 0) c.in-Some-place_of-3.l [] g2.others c.requires.different c.in-Some-place_of-3.ensures g2.behind in
    g0.is ∙ ap (λ (ps : List ℕ). c.in-Some.i ∷ ps) (g1.is ∙ ap (λ (ps : List ℕ). c.in-Some-place_of.j ∷ ps) (g2.is ∙ ap (λ (ps : List ℕ). c.in-Some-place_of-2.k ∷ ps) (g3.is ∙ ap (λ (ps : List ℕ). c.in-Some-place_of-3.l ∷ ps) (no_more c.args.spots.now (c.in-Some-place_of-3.l + 1) g3.others g3.behind)))))
