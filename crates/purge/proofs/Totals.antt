-- Sums over points, one point after the other, and their sizes.
use Rattle.std.proofs.Common.{◌≡◌, ℕ, ◌+◌, ◌*◌, ◌<◌, ◌≤◌, ◌^◌, ℤ, pos, neg_ℤ, ◌+ℤ◌, ◌-ℤ◌, ◌*ℤ◌, ◌≤ℤ◌, ◌<ℤ◌, List, [], ◌∷◌, ◌++◌, length, take, get_or, refl, sym, subst, ap, ◌∙◌, length-append, arith}
use Rattle.std.specs.Prelude.{min}
use Rattle.std.specs.Int.RustNames.{unsigned_abs}
use Rattle.std.specs.List.{All}
use Rattle.std.proofs.lemmas.Int.{ints}
use Rattle.std.proofs.lemmas.List.{get_or-map, length-map, length-take, take_more}
use Rattle.std.proofs.lemmas.List.Elements.{All-head, All-map, All-tail, All-take}
use Prim.Native.Nat.{zero, suc}
use Rattle.sky_math.proofs.Order.{product_most}
use Rattle.sky_math.specs.Quadratics.{Point}
use Rattle.sky_units.proofs.Between.{offset_same}
use Rattle.sky_units.specs.Arcs.{HaveRisingEpochs, IsArc}
use Rattle.sky_units.specs.Motion.{offset, point_from, points}
use Rattle.sky_units.specs.SpotData.{SpotData}
use Rattle.sky_units.specs.declared.axis.Axis.{Axis}
use Rattle.sky_units.specs.declared.axis.Axis.TheVariants.{Ra, Dec}
use Rattle.line_fit.specs.Slopes.{AreOfOneDay}
use Rattle.purge.specs.LeastSquares.{total, count, times, squares, positions, products}
use Rattle.purge.specs.Sizes.{AreSmallSums, IsSmallPoint}

pub record AreSumsOf (n t tt y ty : ℤ) (xs : List Point) : Type 0 where
  pub count_is : n ≡ count xs
  pub times_is : t ≡ times xs
  pub squares_is : tt ≡ squares xs
  pub positions_is : y ≡ positions xs
  pub products_is : ty ≡ products xs

total_more : (f : Point → ℤ) (xs : List Point) (x : Point) → total f (xs ++ x ∷ []) ≡ total f xs +ℤ f x
total_more f [] x = omega (arith, ints)
total_more f (y ∷ rest) x = let e = total_more f rest x in omega (arith, ints, e)

pub one_more_point : (xs : List Point) (i : ℕ) (x : Point) (n t tt y ty n' t' tt' y' ty' : ℤ) → i < length xs → get_or xs i x ≡ x → AreSumsOf n t tt y ty (take i xs) →
    n' ≡ n +ℤ pos 1 → t' ≡ t +ℤ x.time → tt' ≡ tt +ℤ (x.time *ℤ x.time) → y' ≡ y +ℤ x.position → ty' ≡ ty +ℤ (x.time *ℤ x.position) → AreSumsOf n' t' tt' y' ty' (take (i + 1) xs)
one_more_point xs i x n t tt y ty n' t' tt' y' ty' h e so en et ett ey ety =
    let more : take (i + 1) xs ≡ take i xs ++ x ∷ [] = take_more xs i x h ∙ ap (λ (u : Point). take i xs ++ u ∷ []) e in
    rw more (record {
      count_is = let c = so.count_is in let l = length-append (take i xs) (x ∷ []) in counted (length (take i xs)) (length (take i xs ++ x ∷ [])) n n' c en l;
      times_is = let s = so.times_is in let a = total_more (λ u. u.time) (take i xs) x in omega (arith, ints, s, a, et);
      squares_is = let s = so.squares_is in let a = total_more (λ u. u.time *ℤ u.time) (take i xs) x in omega (arith, ints, s, a, ett);
      positions_is = let s = so.positions_is in let a = total_more (λ u. u.position) (take i xs) x in omega (arith, ints, s, a, ey);
      products_is = let s = so.products_is in let a = total_more (λ u. u.time *ℤ u.position) (take i xs) x in omega (arith, ints, s, a, ety);
    })
  where
    counted : (k l : ℕ) (n n' : ℤ) → n ≡ pos k → n' ≡ n +ℤ pos 1 → l ≡ k + 1 → n' ≡ pos l
    counted k l n n' a b c = omega (arith, ints)

-- ---- sizes
total_size : (f : Point → ℤ) (b : ℕ) (xs : List Point) → All (λ x. unsigned_abs (f x) ≤ b) xs → unsigned_abs (total f xs) ≤ length xs * b
total_size f b [] h = omega arith
total_size f b (x ∷ rest) h =
    let one : unsigned_abs (f x) ≤ b = All-head (λ x. unsigned_abs (f x) ≤ b) x rest h in
    let others = total_size f b rest (All-tail (λ x. unsigned_abs (f x) ≤ b) x rest h) in
    sized (f x) (total f rest) (length rest) b one others
  where
    added : (u v : ℤ) (b m : ℕ) → unsigned_abs u ≤ b → unsigned_abs v ≤ m → unsigned_abs (u +ℤ v) ≤ b + m
    added u v b m p q = omega (arith, ints)

    sized : (u v : ℤ) (n b : ℕ) → unsigned_abs u ≤ b → unsigned_abs v ≤ n * b → unsigned_abs (u +ℤ v) ≤ suc n * b
    sized u v n b p q =
        let e : suc n * b ≡ b + n * b = omega arith in
        rw e (added u v b (n * b) p q)

-- at most 2^20 points that are small have small sums
pub small_sums : (xs : List Point) (n t tt y ty : ℤ) → length xs ≤ 1048576 → All (λ x. IsSmallPoint x.time x.position) xs → AreSumsOf n t tt y ty xs → AreSmallSums n t tt y ty
small_sums xs n t tt y ty few each so =
    let a = total_size (λ x. x.time) 1048576 xs (λ k d l. (each k d l).time_size) in
    let b = total_size (λ x. x.time *ℤ x.time) 1099511627776 xs (λ k d l. product_most (get_or xs k d).time (get_or xs k d).time 1048576 1048576 (each k d l).time_size (each k d l).time_size) in
    let c = total_size (λ x. x.position) 268435456 xs (λ k d l. (each k d l).position_size) in
    let e = total_size (λ x. x.time *ℤ x.position) 281474976710656 xs (λ k d l. product_most (get_or xs k d).time (get_or xs k d).position 1048576 268435456 (each k d l).time_size (each k d l).position_size) in
    record {
      count_size = let s = so.count_is in sized_count (length xs) n few s;
      times_size = let s = so.times_is in rw s (omega arith);
      squares_size = let s = so.squares_is in rw s (omega arith);
      positions_size = let s = so.positions_is in rw s (omega arith);
      products_size = let s = so.products_is in rw s (omega arith);
    }
  where
    sized_count : (k : ℕ) (n : ℤ) → k ≤ 1048576 → n ≡ pos k → unsigned_abs n ≤ 2 ^ 20
    sized_count k n h e = omega (arith, ints)

-- ---- the points of an arc of one day are small
small_between : (x y o : ℤ) → y <ℤ x → (x -ℤ y) ≤ℤ pos 1000000 → neg_ℤ (pos 90000000) <ℤ o → o <ℤ pos 90000000 → IsSmallPoint (x -ℤ y) o
small_between x y o r s a b = record { time_size = omega (arith, ints); position_size = omega (arith, ints) }

first_small : (axis : Axis) (a : SpotData) → IsSmallPoint (a.epoch -ℤ a.epoch) (offset axis a a)
first_small axis a =
    let o : offset axis a a ≡ pos 0 = offset_same axis a in
    record { time_size = omega (arith, ints); position_size = rw o (omega (arith, ints)) }

near_small : (axis : Axis) (first : SpotData) (rest : List SpotData) → IsArc (first ∷ rest) → AreOfOneDay (first ∷ rest) → (k : ℕ) (d : SpotData) → k < length rest → IsSmallPoint ((get_or rest k d).epoch -ℤ first.epoch) (offset axis first (get_or rest k d))
near_small Ra first rest arc day k d h =
    let r = arc.rising zero (suc k) d (omega arith) (omega arith) in
    let s = day zero (suc k) d (omega arith) (omega arith) in
    let n = arc.spread zero (suc k) d (omega arith) (omega arith) in
    small_between (get_or rest k d).epoch first.epoch (offset Ra first (get_or rest k d)) r s n.0.0 n.0.1
near_small Dec first rest arc day k d h =
    let r = arc.rising zero (suc k) d (omega arith) (omega arith) in
    let s = day zero (suc k) d (omega arith) (omega arith) in
    let n = arc.spread zero (suc k) d (omega arith) (omega arith) in
    small_between (get_or rest k d).epoch first.epoch (offset Dec first (get_or rest k d)) r s n.1.0 n.1.1

pub each_small : (axis : Axis) (first : SpotData) (rest : List SpotData) → IsArc (first ∷ rest) → AreOfOneDay (first ∷ rest) → (k : ℕ) (d : SpotData) → k < length (first ∷ rest) → IsSmallPoint ((get_or (first ∷ rest) k d).epoch -ℤ first.epoch) (offset axis first (get_or (first ∷ rest) k d))
each_small axis first rest arc day zero d h = first_small axis first
each_small axis first rest arc day (suc k) d h = near_small axis first rest arc day k d (omega arith)

-- a spot as read is small as seen from the first spot
pub small_read : (axis : Axis) (spots : List SpotData) (first spot : SpotData) (k : ℕ) → IsArc spots → AreOfOneDay spots → first ≡ get_or spots 0 first → k < length spots → spot ≡ get_or spots k spot → IsSmallPoint (spot.epoch -ℤ first.epoch) (offset axis first spot)
small_read axis [] first spot k arc day ef h e = absurd (omega arith)
small_read axis (a ∷ rest) first spot k arc day ef h e =
    subst (λ (f : SpotData). IsSmallPoint (spot.epoch -ℤ f.epoch) (offset axis f spot)) (sym ef)
    (subst (λ (s : SpotData). IsSmallPoint (s.epoch -ℤ a.epoch) (offset axis a s)) (sym e) (each_small axis a rest arc day k spot h))

pub points_small : (axis : Axis) (spots : List SpotData) → IsArc spots → AreOfOneDay spots → All (λ x. IsSmallPoint x.time x.position) (points axis spots)
points_small axis [] arc day = λ k d h. absurd (omega arith)
points_small axis (a ∷ rest) arc day = All-map (λ x. IsSmallPoint x.time x.position) (point_from axis a) (a ∷ rest) (each_small axis a rest arc day)

pub points_length : (axis : Axis) (spots : List SpotData) → length (points axis spots) ≡ length spots
points_length axis [] = refl
points_length axis (first ∷ rest) = length-map (first ∷ rest) (point_from axis first)

-- the point of a spot as read
pub point_read : (axis : Axis) (spots : List SpotData) (first spot : SpotData) (k : ℕ) (d : Point) → first ≡ get_or spots 0 first → k < length spots → spot ≡ get_or spots k spot → get_or (points axis spots) k d ≡ point_from axis first spot
point_read axis [] first spot k d ef h e = absurd (omega arith)
point_read axis (a ∷ rest) first spot k d ef h e =
    let f : first ≡ a = ef in
    subst (λ (u : SpotData). get_or (points axis (a ∷ rest)) k d ≡ point_from axis u spot) (sym f)
    (get_or-map (point_from axis a) (a ∷ rest) k spot d h ∙ ap (point_from axis a) (sym e))

-- rising epochs rise by one tick at least from each spot to the next
climb : (spots : List SpotData) (d : SpotData) (k : ℕ) → HaveRisingEpochs spots → k < length spots → (pos k +ℤ (get_or spots 0 d).epoch) ≤ℤ (get_or spots k d).epoch
climb spots d zero rise h = omega (arith, ints)
climb spots d (suc k) rise h =
    let before = climb spots d k rise (omega arith) in
    let step = rise k (suc k) d (omega arith) h in
    omega (arith, ints, before, step)

-- so there are few within one day
pub few_of_day : (spots : List SpotData) → HaveRisingEpochs spots → AreOfOneDay spots → length spots ≤ 1048576
few_of_day [] rise day = omega arith
few_of_day (a ∷ []) rise day = omega arith
few_of_day (a ∷ b ∷ rest) rise day =
    let spots : List SpotData = a ∷ b ∷ rest in
    let last : ℕ = suc (length rest) in
    let high = climb spots a last rise (omega arith) in
    let near = day 0 last a (omega arith) (omega arith) in
    counted (length rest) a.epoch (get_or spots last a).epoch high near
  where
    counted : (n : ℕ) (x y : ℤ) → (pos (suc n) +ℤ x) ≤ℤ y → (y -ℤ x) ≤ℤ pos 1000000 → suc (suc n) ≤ 1048576
    counted n x y h k = omega (arith, ints)

-- the sums over the first points of an arc are small
pub sums_taken : (axis : Axis) (spots : List SpotData) (i : ℕ) (n t tt y ty : ℤ) → IsArc spots → AreOfOneDay spots → AreSumsOf n t tt y ty (take i (points axis spots)) → AreSmallSums n t tt y ty
sums_taken axis spots i n t tt y ty arc day so =
    let few = few_of_day spots arc.rising day in
    let k = points_length axis spots in
    let l = length-take i (points axis spots) in
    small_sums (take i (points axis spots)) n t tt y ty (at_most i (length (points axis spots)) (length (take i (points axis spots))) l (omega (arith, k, few))) (All-take (λ x. IsSmallPoint x.time x.position) i (points axis spots) (points_small axis spots arc day)) so
  where
    at_most : (i n k : ℕ) → k ≡ min i n → n ≤ 1048576 → k ≤ 1048576
    at_most i n k e h = rw e (omega arith)
