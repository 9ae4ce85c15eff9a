-- What is left of places when that of the worst spot is dropped, again and again.
use Rattle.std.proofs.Common.{◌≡◌, ℕ, ◌-◌, ◌<◌, ◌≤◌, pos, ◌-ℤ◌, ◌≤ℤ◌, ◌<ℤ◌, true, false, List, [], ◌∷◌, length, get_or, refl, sym, subst, ap, ◌∙◌, arith}
use Rattle.std.specs.List.{All, list_all}
use Rattle.std.specs.Prelude.{Bool, Option, Some, None, nat_lt, remove, slice_get}
use Rattle.std.proofs.lemmas.Bool.{cases_Bool, cases_lt, lt-ltb, le-ltb}
use Rattle.std.proofs.lemmas.List.Elements.{All-cons, All-head, All-nil, All-tail}
use Rattle.std.proofs.lemmas.Option.{slice_get-get_or}
use Prim.Native.Nat.{zero, suc}
use mathlib.Core.Logic.{inl, inr}
use Rattle.line_fit.proofs.Twos.{by_place, first_of_two, rest_of_two}
use Rattle.line_fit.specs.Lines.{lies_on_line}
use Rattle.line_fit.specs.Slopes.{AreOfOneDay}
use Rattle.sky_math.specs.Lists.{EachTwo}
use Rattle.sky_units.specs.Arcs.{AreNear, HaveRisingEpochs, IsArc}
use Rattle.sky_units.specs.Limits.{arc_ticks}
use Rattle.sky_units.specs.SettingsData.{SettingsData}
use Rattle.sky_units.specs.SpotData.{SpotData}
use Rattle.sky_units.specs.TrackletData.{IsTracklet}
use Rattle.sky_units.specs.declared.axis.Axis.TheVariants.{Ra, Dec}
use Rattle.sky_units.proofs.SpotsAtPlaces.{spots_length}
use Rattle.sky_units.specs.AtPlaces.{spots_at}
use Rattle.purge.specs.Purging.{deviations, last_greatest, purged, purge_of, worst}
use Rattle.purge.proofs.Deviations.{deviations_length}

-- ---- a list without one element
pub all_removed : {X : Type 0} (P : X → Type 0) (xs : List X) (i : ℕ) → All P xs → All P (remove xs i)
all_removed P [] zero h = All-nil P
all_removed P [] (suc i) h = All-nil P
all_removed P (x ∷ rest) zero h = All-tail P x rest h
all_removed P (x ∷ rest) (suc i) h = All-cons P x (remove rest i) (All-head P x rest h) (all_removed P rest i (All-tail P x rest h))

pub two_removed : {X : Type 0} (R : X → X → Type 0) (xs : List X) (i : ℕ) → EachTwo R xs → EachTwo R (remove xs i)
two_removed R [] zero h = h
two_removed R [] (suc i) h = h
two_removed R (x ∷ rest) zero h = rest_of_two R x rest h
two_removed R (x ∷ rest) (suc i) h = by_place R x (remove rest i) (all_removed (R x) rest i (first_of_two R x rest h)) (two_removed R rest i (rest_of_two R x rest h))

pub length_removed : {X : Type 0} (xs : List X) (i n : ℕ) → i < length xs → length xs ≡ suc n → length (remove xs i) ≡ n
length_removed [] i n h e = absurd (omega arith)
length_removed (x ∷ rest) zero n h e = omega arith
length_removed (x ∷ rest) (suc i) zero h e = absurd (omega arith)
length_removed (x ∷ rest) (suc i) (suc n) h e = ap suc (length_removed rest i n (omega arith) (omega arith))

pub arc_removed : (spots : List SpotData) (i : ℕ) → IsArc spots → IsArc (remove spots i)
arc_removed spots i arc = record {
  rising = two_removed (λ x y. x.epoch <ℤ y.epoch) spots i arc.rising;
  short = two_removed (λ x y. (y.epoch -ℤ x.epoch) <ℤ arc_ticks) spots i arc.short;
  spread = two_removed (λ x y. AreNear Ra x y × AreNear Dec x y) spots i arc.spread;
}

-- ---- the worst one is one of them
last_within : (xs : List ℕ) → 0 < length xs → last_greatest xs < length xs
last_within [] h = absurd (omega arith)
last_within (x ∷ []) h = omega arith
last_within (x ∷ y ∷ rest) h = elim (cases_Bool (list_all (λ z. nat_lt z x) (y ∷ rest))) as (λ _. last_greatest (x ∷ y ∷ rest) < length (x ∷ y ∷ rest)) [
  | inl t ↦ rw t (omega arith)
  | inr f ↦ let i = last_within (y ∷ rest) (omega arith) in rw f (omega arith)
]

pub worst_within : (spots : List SpotData) → 0 < length spots → worst spots < length spots
worst_within spots h = let n = deviations_length spots in let w = last_within (deviations spots) (omega (arith, n, h)) in omega (arith, n, w)

-- the spots at places without one
pub at_removed : (spots : List SpotData) (places : List ℕ) (i : ℕ) (d : SpotData) → All (λ p. p < length spots) places → spots_at spots (remove places i) ≡ remove (spots_at spots places) i
at_removed spots [] zero d h = refl
at_removed spots [] (suc i) d h = refl
at_removed spots (p ∷ rest) zero d h =
    let one : slice_get spots p ≡ Some (get_or spots p d) = slice_get-get_or spots p d (All-head (λ q. q < length spots) p rest h) in
    rw one refl
at_removed spots (p ∷ rest) (suc i) d h =
    let one : slice_get spots p ≡ Some (get_or spots p d) = slice_get-get_or spots p d (All-head (λ q. q < length spots) p rest h) in
    let others = at_removed spots rest i d (All-tail (λ q. q < length spots) p rest h) in
    rw one (ap (λ (xs : List SpotData). get_or spots p d ∷ xs) others)

-- ---- one step of the purge
few_left : (settings : SettingsData) (n : ℕ) (spots : List SpotData) (places : List ℕ) → length places < 2 → purged settings n spots places ≡ None
few_left settings zero spots places h = refl
few_left settings (suc n) spots places h = let t : nat_lt (length places) 2 ≡ true = lt-ltb (length places) 2 h in rw t refl

abbrev Lies : SettingsData → List SpotData → List ℕ → Bool
Lies settings spots places = lies_on_line settings.purge_tol settings.rate_ra settings.rate_dec (spots_at spots places)

line_left : (settings : SettingsData) (n : ℕ) (spots : List SpotData) (places : List ℕ) → 2 ≤ length places → Lies settings spots places ≡ true → purged settings (suc n) spots places ≡ Some places
line_left settings n spots places h e = let t : nat_lt (length places) 2 ≡ false = le-ltb (length places) 2 h in rw (t, e) refl

one_dropped : (settings : SettingsData) (n : ℕ) (spots : List SpotData) (places : List ℕ) → 2 ≤ length places → Lies settings spots places ≡ false → purged settings (suc n) spots places ≡ purged settings n spots (remove places (worst (spots_at spots places)))
one_dropped settings n spots places h e = let t : nat_lt (length places) 2 ≡ false = le-ltb (length places) 2 h in rw (t, e) refl

-- what the loop keeps: the rest has the result of the whole
pub record IsLeft (settings : SettingsData) (spots : List SpotData) (whole : Option (List ℕ)) (left : List ℕ) (together : List SpotData) : Type 0 where
  pub same : whole ≡ purged settings (length left) spots left
  pub within : All (λ p. p < length spots) left
  pub are : together ≡ spots_at spots left
  pub count : length together ≡ length left
  pub arc : IsArc together
  pub day : AreOfOneDay together

no_spot : SpotData
no_spot = record { num = 0; epoch = pos 0; ra = pos 0; dec = pos 0 }

pub left_start : (settings : SettingsData) (spots : List SpotData) (places : List ℕ) (together : List SpotData) → together ≡ spots_at spots places → All (λ p. p < length spots) places → IsArc (spots_at spots places) → AreOfOneDay (spots_at spots places) →
    IsLeft settings spots (purge_of settings spots places) places together
left_start settings spots places together e within arc day = record {
  same = refl;
  within = within;
  are = e;
  count = ap length e ∙ spots_length spots places within no_spot;
  arc = subst IsArc (sym e) arc;
  day = subst AreOfOneDay (sym e) day;
}

pub left_few : (settings : SettingsData) (spots : List SpotData) (whole : Option (List ℕ)) (left : List ℕ) (together : List SpotData) → IsLeft settings spots whole left together → length left < 2 → None ≡ whole
left_few settings spots whole left together l h = sym (l.same ∙ few_left settings (length left) spots left h)

pub left_on_line : (settings : SettingsData) (spots : List SpotData) (whole : Option (List ℕ)) (left : List ℕ) (together : List SpotData) → IsLeft settings spots whole left together → 2 ≤ length left →
    lies_on_line settings.purge_tol settings.rate_ra settings.rate_dec together ≡ true → Some left ≡ whole
left_on_line settings spots whole left together l h e =
    let n : length left ≡ suc (length left - 1) = omega arith in
    let s : whole ≡ purged settings (suc (length left - 1)) spots left = l.same ∙ ap (λ (k : ℕ). purged settings k spots left) n in
    let lies : Lies settings spots left ≡ true = ap (λ (xs : List SpotData). lies_on_line settings.purge_tol settings.rate_ra settings.rate_dec xs) (sym l.are) ∙ e in
    sym (s ∙ line_left settings (length left - 1) spots left h lies)

pub left_dropped : (settings : SettingsData) (spots : List SpotData) (whole : Option (List ℕ)) (left next : List ℕ) (together others : List SpotData) (at : ℕ) → IsLeft settings spots whole left together → 2 ≤ length left →
    lies_on_line settings.purge_tol settings.rate_ra settings.rate_dec together ≡ false → at ≡ worst together → next ≡ remove left at → others ≡ remove together at → IsLeft settings spots whole next others
left_dropped settings spots whole left next together others at l h e ea en eo =
    let n : length left ≡ suc (length left - 1) = omega arith in
    let s : whole ≡ purged settings (suc (length left - 1)) spots left = l.same ∙ ap (λ (k : ℕ). purged settings k spots left) n in
    let lies : Lies settings spots left ≡ false = ap (λ (xs : List SpotData). lies_on_line settings.purge_tol settings.rate_ra settings.rate_dec xs) (sym l.are) ∙ e in
    let c = l.count in
    let w : worst together < length together = worst_within together (omega arith) in
    let m : length (remove left at) ≡ length left - 1 = length_removed left at (length left - 1) (rw ea (omega arith)) n in
    let are : remove together at ≡ spots_at spots (remove left at) = ap (λ (xs : List SpotData). remove xs at) l.are ∙ sym (at_removed spots left at no_spot l.within) in
    let place : worst (spots_at spots left) ≡ at = ap worst (sym l.are) ∙ sym ea in
    let within = all_removed (λ p. p < length spots) left at l.within in
    subst (λ (xs : List ℕ). IsLeft settings spots whole xs others) (sym en)
    (subst (IsLeft settings spots whole (remove left at)) (sym eo) (record {
      same = s ∙ one_dropped settings (length left - 1) spots left h lies ∙ ap (λ (k : ℕ). purged settings (length left - 1) spots (remove left k)) place ∙ ap (λ (k : ℕ). purged settings k spots (remove left at)) (sym m);
      within = within;
      are = are;
      count = ap length are ∙ spots_length spots (remove left at) within no_spot;
      arc = arc_removed together at l.arc;
      day = two_removed (λ x y. (y.epoch -ℤ x.epoch) ≤ℤ pos 1000000) together at l.day;
    }))

-- ---- what is left keeps what places keep that lose one
none_no_some : (x : List ℕ) → None ≡ Some x → ⊥
none_no_some x h = cc

some_same : (x y : List ℕ) → Some x ≡ Some y → x ≡ y
some_same x y h = cc

pub kept : (P : List ℕ → Type 0) (settings : SettingsData) (n : ℕ) (spots : List SpotData) (places left : List ℕ) → ((xs : List ℕ) (i : ℕ) → P xs → P (remove xs i)) → P places → purged settings n spots places ≡ Some left → P left × (2 ≤ length left)
kept P settings zero spots places left one p h = absurd (none_no_some left h)
kept P settings (suc n) spots places left one p h = elim (cases_lt (length places) 2) as (λ _. P left × (2 ≤ length left)) [
  | inl few ↦ absurd (none_no_some left (sym (few_left settings (suc n) spots places few) ∙ h))
  | inr two ↦ elim (cases_Bool (Lies settings spots places)) as (λ _. P left × (2 ≤ length left)) [
    | inl lies ↦
        let e : places ≡ left = some_same places left (sym (line_left settings n spots places two lies) ∙ h) in
        subst (λ (xs : List ℕ). P xs × (2 ≤ length xs)) e (p, two)
    | inr not ↦
        let at : ℕ = worst (spots_at spots places) in
        kept P settings n spots (remove places at) left one (one places at p) (sym (one_dropped settings n spots places two not) ∙ h)
  ]
]

-- places of spots of rising epochs
pub record IsRisingAt (spots : List SpotData) (places : List ℕ) : Type 0 where
  pub within : All (λ p. p < length spots) places
  pub rising : HaveRisingEpochs (spots_at spots places)

rising_at_removed : (spots : List SpotData) (places : List ℕ) (i : ℕ) → IsRisingAt spots places → IsRisingAt spots (remove places i)
rising_at_removed spots places i a = record {
  within = all_removed (λ p. p < length spots) places i a.within;
  rising = subst HaveRisingEpochs (sym (at_removed spots places i no_spot a.within)) (two_removed (λ x y. x.epoch <ℤ y.epoch) (spots_at spots places) i a.rising);
}

-- what is left is a tracklet's
pub record IsTrackletAt (spots : List SpotData) (places : List ℕ) : Type 0 where
  pub within : All (λ p. p < length spots) places
  pub tracklet : IsTracklet (spots_at spots places)

pub tracklet_left : (settings : SettingsData) (spots : List SpotData) (group left : List ℕ) → All (λ p. p < length spots) group → HaveRisingEpochs (spots_at spots group) → purge_of settings spots group ≡ Some left → IsTrackletAt spots left
tracklet_left settings spots group left within rising h =
    let k = kept (IsRisingAt spots) settings (length group) spots group left (rising_at_removed spots) record { within = within; rising = rising } h in
    let two = k.1 in
    let n = spots_length spots left k.0.within no_spot in
    record { within = k.0.within; tracklet = record { two = omega (arith, n, two); rising = k.0.rising } }
