use Rattle.std.proofs.Common.{◌≡◌, ◌≢◌, ℕ, ◌+◌, ◌-◌, ◌<◌, ◌≤◌, length, get_or, arith, ap, ◌∙◌, sym, Some, List, true, false, inl, inr, refl, Option, None, take, subst, IsTrue}
use Rattle.std.specs.Option.{is_some}
use Rattle.std.proofs.lemmas.Option.{slice_get_read, get_or_from_slice_get}
use Rattle.std.specs.declared.cmp.Ordering.{Ordering}
use Rattle.std.specs.declared.cmp.Ordering.TheVariants.{Less, Equal, Greater}
use Rattle.std.specs.Ordering.{nat_cmp, is_gt, ordering_reverse}
use Rattle.std.specs.Cmp.Lexicographic.{slice_cmp, bytes_decides}
use Rattle.std.proofs.lemmas.Cmp.{nat_list_cmp_total}
use Rattle.std.proofs.lemmas.Map.Lookups.{exact_bytes}
use Rattle.std.proofs.lemmas.Bool.{cases_eq, true≢false}
use Rattle.std.proofs.lemmas.List.Elements.{All-more}
use Rattle.std.specs.List.{All}
use Rattle.miti_text.specs.Observation.{Observation, is_id}
use Rattle.number_register.specs.Numbering.{slot}
use Rattle.exposure_log.proofs.Refusing.{none_more, no_taken, taken_first}
use Rattle.exposure_log.specs.Exposures.{IdsDontFall}
use Rattle.exposure_log.proofs.log.first_taken.Goals as goal
use Rattle.exposure_log.proofs.log.first_taken.Goals.{then-place-gt0+else-eq, else-place-gt0}

abbrev Ds : Type 0
Ds = List Observation

read_at : (ds : Ds) (i : ℕ) (item d : Observation) → i < length ds → item ≡ get_or ds i item → get_or ds i d ≡ item
read_at ds i item d h is = get_or_from_slice_get ds i item d (slice_get_read ds (length ds) i item refl h is)

id_at : (ds : Ds) (i : ℕ) (item d : Observation) → i < length ds → item ≡ get_or ds i item → (get_or ds i d).id ≡ item.id
id_at ds i item d h is = ap (λ (x : Observation). x.id) (read_at ds i item d h is)

less_back : (s : Ordering) → Less ≡ ordering_reverse s → is_gt s ≡ false → ⊥
less_back Less e h = cc
less_back Equal e h = cc
less_back Greater e h = cc

tied : (r s : Ordering) → r ≡ ordering_reverse s → is_gt r ≡ false → is_gt s ≡ false → r ≡ Equal
tied Less s e g h = absurd (less_back s e h)
tied Equal s e g h = refl
tied Greater s e g h = cc

squeezed : (x y : List ℕ) → is_gt (slice_cmp nat_cmp x y) ≡ false → is_gt (slice_cmp nat_cmp y x) ≡ false → x ≡ y
squeezed x y g h = exact_bytes x y (tied (slice_cmp nat_cmp x y) (slice_cmp nat_cmp y x) (nat_list_cmp_total.antisymm x y) g h)

apart_from_last : (ds : Ds) (i : ℕ) → IdsDontFall ds → 0 < i → i < length ds → ((e : Observation) → (get_or ds (i - 1) e).id ≢ (get_or ds i e).id) → (j : ℕ) (e : Observation) → j < i → (get_or ds j e).id ≢ (get_or ds i e).id
apart_from_last ds i order low high last j e lt same = elim (cases_eq j (i - 1)) [
  | inl eq ↦ last e (rw (← eq) same)
  | inr ne ↦
      let a = order j (i - 1) e (omega (arith, lt, ne)) (omega (arith, high)) in
      let a' : is_gt (slice_cmp nat_cmp (get_or ds i e).id (get_or ds (i - 1) e).id) ≡ false = rw (← same) a in
      let b = order (i - 1) i e (omega (arith, low)) high in
      last e (squeezed (get_or ds (i - 1) e).id (get_or ds i e).id b a')
]

is_none : (o : Option ℕ) → false ≡ is_some o → o ≡ None
is_none None h = refl
is_none (Some n) h = cc

some_number : (o : Option ℕ) → true ≡ is_some o → (n : ℕ) × (o ≡ Some n)
some_number None h = cc
some_number (Some n) h = (n, refl)

-- the id of one place more
ids_more : (ds : Ds) (i : ℕ) (item : Observation) (id : List ℕ) → i < length ds → item ≡ get_or ds i item → id ≡ item.id → IsTrue (is_id id)
    → All (λ d. IsTrue (is_id d.id)) (take i ds) → All (λ d. IsTrue (is_id d.id)) (take (i + 1) ds)
ids_more ds i item id h is same rule ids =
    All-more (λ (d : Observation). IsTrue (is_id d.id)) ds i item h ids (subst (λ w. IsTrue (is_id w)) (same ∙ sym (id_at ds i item item h is)) rule)

no_earlier : (ds : Ds) (i : ℕ) → i ≤ 0 → (j : ℕ) (e : Observation) → j < i → (get_or ds j e).id ≢ (get_or ds i e).id
no_earlier ds i h j e lt = absurd (omega (arith, h, lt))

pub returns-then-is_some-clause-first : goal.returns-then-is_some-clause-first
returns-then-is_some-clause-first c =
    let l : c.loop-place.place < length c.args.detections.now = omega arith in
    let number = some_number c.find.result c.if-is_some.ensures in
    let there = c.find.ensures.some number.0 number.1 in
    let second : c.detection.inside.id ≡ c.index-detections-place.result.id = ap (λ (x : Observation). x.id) c.detection.view_is in
    taken_first c.args.register.now c.args.detections.now c.loop-place.place c.loop-place.invariant.untaken l
    (inl (number.0, there.0, there.1, there.2 ∙ (c.bytes.ensures ∙ (second ∙ sym (id_at c.args.detections.now c.loop-place.place c.index-detections-place.result there.0 l c.index-detections-place.is)))))

pub returns-then-eq-clause-first : goal.returns-then-eq-clause-first
returns-then-eq-clause-first c =
    let l : c.loop-place.place < length c.args.detections.now = omega arith in
    let before : c.loop-place.place - 1 < length c.args.detections.now = omega arith in
    let same : c.earlier.inside.id ≡ c.detection.inside.id = (bytes_decides c.earlier.inside.id c.detection.inside.id).0 (sym c.if-eq.ensures) in
    let first : c.earlier.inside.id ≡ c.index-detections-place-then-place-gt0.result.id = ap (λ (x : Observation). x.id) c.earlier.view_is in
    let second : c.detection.inside.id ≡ c.index-detections-place.result.id = ap (λ (x : Observation). x.id) c.detection.view_is in
    taken_first c.args.register.now c.args.detections.now c.loop-place.place c.loop-place.invariant.untaken l (inr (
      c.loop-place.place - 1,
      omega (arith, c.if-place-gt0.true),
      λ d. id_at c.args.detections.now (c.loop-place.place - 1) c.index-detections-place-then-place-gt0.result d before c.index-detections-place-then-place-gt0.is
          ∙ (sym first ∙ (same ∙ (second ∙ sym (id_at c.args.detections.now c.loop-place.place c.index-detections-place.result d l c.index-detections-place.is)))),
    ))

pub returns-clause-first : goal.returns-clause-first
returns-clause-first c = no_taken c.args.register.now c.args.detections.now c.loop-place.place c.loop-place-test.false c.loop-place.invariant.untaken

pub loop-place-preserved : goal.loop-place-preserved
loop-place-preserved c =
    let l : c.loop-place.place < length c.args.detections.now = omega arith in
    let second : c.detection.inside.id ≡ c.index-detections-place.result.id = ap (λ (x : Observation). x.id) c.detection.view_is in
    let none = is_none c.find.result c.if-is_some.ensures in
    let fresh : (n : ℕ) (d e : Observation) → slot c.args.register.now n ≡ Some d → d.id ≢ (get_or c.args.detections.now c.loop-place.place e).id = λ n d e held same. c.find.ensures.none none n d held (same ∙ (id_at c.args.detections.now c.loop-place.place c.index-detections-place.result e l c.index-detections-place.is ∙ (sym second ∙ sym c.bytes.ensures))) in
    let untaken = none_more c.args.register.now c.args.detections.now c.loop-place.place c.loop-place.invariant.untaken fresh
    (elim c.if-place-gt0.branch [
      | then-place-gt0+else-eq w ↦
          let before : c.loop-place.place - 1 < length c.args.detections.now = omega arith in
          let first : w.earlier.inside.id ≡ w.index-detections-place-then-place-gt0.result.id = ap (λ (x : Observation). x.id) w.earlier.view_is in
          apart_from_last c.args.detections.now c.loop-place.place c.requires.order (omega (arith, w.if-place-gt0.true)) l
          (λ e same.
          let ids : w.earlier.inside.id ≡ c.detection.inside.id = first ∙ (sym (id_at c.args.detections.now (c.loop-place.place - 1) w.index-detections-place-then-place-gt0.result e before w.index-detections-place-then-place-gt0.is)
          ∙ (same ∙ (id_at c.args.detections.now c.loop-place.place c.index-detections-place.result e l c.index-detections-place.is ∙ sym second))) in
          true≢false (sym ((bytes_decides w.earlier.inside.id c.detection.inside.id).1 ids) ∙ sym w.if-eq.ensures))
      | else-place-gt0 w ↦ no_earlier c.args.detections.now c.loop-place.place w.if-place-gt0.false
    ]) in
    record {
      untaken = untaken;
      ids = ids_more c.args.detections.now c.loop-place.place c.index-detections-place.result c.detection.inside.id l c.index-detections-place.is second c.detection.invariant.id c.loop-place.invariant.ids;
    }
