-- The middle epoch of spots is that between the first and the last of them.
use Rattle.std.proofs.Common.{◌≡◌, ◌∙◌, ◌-◌, ◌<◌, ◌≤◌, ℤ, pos, negsuc, ◌+ℤ◌, ◌-ℤ◌, ◌≤ℤ◌, ◌<ℤ◌, List, [], ◌∷◌, length, get_or, w64, FitsSigned, refl, sym, ap, arith}
use Rattle.std.specs.Int.{int_div_euclid}
use Rattle.std.specs.Int.RustNames.{unsigned_abs}
use Rattle.std.specs.List.{Contains}
use Rattle.std.proofs.lemmas.List.{get_or_default}
use Rattle.sky_units.specs.Arcs.{IsArc}
use Rattle.sky_units.specs.Limits.{arc_ticks}
use Rattle.quad_fit.proofs.MarkLists.{within_time}
use Rattle.std.proofs.lemmas.Int.{ints}
use Rattle.sky_units.specs.Ranges.{IsEpoch}
use Rattle.sky_units.specs.Reported.{last_epoch, middle_epoch}
use Rattle.sky_units.specs.SpotData.{SpotData}
use Rattle.quad_fit.proofs.Sizes.{held}

last_is : (epoch : ℤ) (first : SpotData) (rest : List SpotData) (d : SpotData) → last_epoch epoch (first ∷ rest) ≡ (get_or (first ∷ rest) (length rest) d).epoch
last_is epoch first [] d = refl
last_is epoch first (second ∷ rest) d = last_is first.epoch second rest d

pub middle_is : (spots : List SpotData) (first last : SpotData) → 0 < length spots → first ≡ get_or spots 0 first → last ≡ get_or spots (length spots - 1) last →
    middle_epoch spots ≡ int_div_euclid (first.epoch +ℤ last.epoch) (pos 2)
middle_is [] first last some ef el = absurd (omega arith)
middle_is (x ∷ rest) first last some ef el =
    let n : length (x ∷ rest) - 1 ≡ length rest = omega arith in
    let there : last ≡ get_or (x ∷ rest) (length rest) last = rw n at el in
    let e : last_epoch x.epoch rest ≡ last.epoch = tail x rest last there in
    let f : x.epoch ≡ first.epoch = ap (λ (s : SpotData). s.epoch) (sym ef) in
    rw (e, f) refl
  where
    tail : (x : SpotData) (rest : List SpotData) (last : SpotData) → last ≡ get_or (x ∷ rest) (length rest) last → last_epoch x.epoch rest ≡ last.epoch
    tail x rest last e = last_is x.epoch x rest last ∙ ap (λ (s : SpotData). s.epoch) (sym e)

-- half of a sum, rounded down
half : (z : ℤ) → ((int_div_euclid z (pos 2) +ℤ int_div_euclid z (pos 2)) ≤ℤ z) × (z <ℤ ((int_div_euclid z (pos 2) +ℤ int_div_euclid z (pos 2)) +ℤ pos 2))
half (pos a) = (omega (arith, ints), omega (arith, ints))
half (negsuc a) = (omega (arith, ints), omega (arith, ints))

near_both : (a b m base : ℤ) → (m +ℤ m) ≤ℤ (a +ℤ b) → (a +ℤ b) <ℤ ((m +ℤ m) +ℤ pos 2) → (a -ℤ base) <ℤ arc_ticks → (base -ℤ a) <ℤ arc_ticks → (b -ℤ base) <ℤ arc_ticks → (base -ℤ b) <ℤ arc_ticks →
    unsigned_abs (m -ℤ base) ≤ 30000000
near_both a b m base low high p q r s = omega (arith, ints, low, high, p, q, r, s)

-- the middle epoch lies near each spot of an arc
pub middle_near : (spots : List SpotData) (base : SpotData) → IsArc spots → Contains spots base → unsigned_abs (middle_epoch spots -ℤ base.epoch) ≤ 30000000
middle_near spots base arc has =
    let some : 0 < length spots = omega (arith, has.1) in
    let n : length spots - 1 < length spots = omega arith in
    let first : SpotData = get_or spots 0 base in
    let last : SpotData = get_or spots (length spots - 1) base in
    let ef : get_or spots 0 first ≡ first = get_or_default spots 0 first base some in
    let el : get_or spots (length spots - 1) last ≡ last = get_or_default spots (length spots - 1) last base n in
    let cf : Contains spots first = (0, some, ef) in
    let cl : Contains spots last = (length spots - 1, n, el) in
    let h = half (first.epoch +ℤ last.epoch) in
    rw (middle_is spots first last some (sym ef) (sym el))
    (near_both first.epoch last.epoch (int_div_euclid (first.epoch +ℤ last.epoch) (pos 2)) base.epoch h.0 h.1
    (within_time spots base first arc has cf) (within_time spots first base arc cf has) (within_time spots base last arc has cl) (within_time spots last base arc cl has))

-- the middle of two epochs as code keeps it
pub record MiddleTerms (a b : ℤ) : Type 0 where
  pub sum_is : held (held a +ℤ held b) ≡ a +ℤ b
  pub is : held (int_div_euclid (a +ℤ b) (pos 2)) ≡ int_div_euclid (a +ℤ b) (pos 2)
  pub range : IsEpoch (int_div_euclid (a +ℤ b) (pos 2))

pub middle_terms : (a b : ℤ) → IsEpoch a → IsEpoch b → MiddleTerms a b
middle_terms a b h k =
    let m : ℤ = int_div_euclid (a +ℤ b) (pos 2) in
    let r : IsEpoch m = ranged a b m (half (a +ℤ b)).0 (half (a +ℤ b)).1 h k in
    record { sum_is = omega (arith, ints, h.from, h.to, k.from, k.to); is = read m r; range = r }
  where
    ranged : (a b m : ℤ) → (m +ℤ m) ≤ℤ (a +ℤ b) → (a +ℤ b) <ℤ ((m +ℤ m) +ℤ pos 2) → IsEpoch a → IsEpoch b → IsEpoch m
    ranged a b m low high h k = record { from = omega (arith, ints, low, high, h.from, k.from); to = omega (arith, ints, low, high, h.to, k.to) }

    read : (m : ℤ) → IsEpoch m → held m ≡ m
    read m r = omega (arith, ints, r.from, r.to)

pub time_read : (m b : ℤ) → IsEpoch m → IsEpoch b → held (held m -ℤ held b) ≡ m -ℤ b
time_read m b h k = omega (arith, ints, h.from, h.to, k.from, k.to)

pub time_fits : (m b : ℤ) → IsEpoch m → IsEpoch b → FitsSigned w64 (held m -ℤ held b)
time_fits m b h k = omega (arith, ints, h.from, h.to, k.from, k.to)
