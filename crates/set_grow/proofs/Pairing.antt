-- The pairs of partners that fit together with an item are its fitting pairs.
use Rattle.std.proofs.Common.{◌≡◌, ℕ, ◌<◌, ◌≤◌, Bool, true, false, cond, nat_lt, List, [], ◌∷◌, ◌++◌, IsTrue, refl, sym, subst, ap, ◌∙◌, ◌↔◌, arith, tests}
use Rattle.std.proofs.lemmas.Bool.{cases_lt, false≢true}
use Rattle.std.proofs.lemmas.List.Elements.{All-cons, All-nil, Contains-append_left, Contains-push, Contains-push_cases}
use Rattle.std.specs.List.{Contains}
use mathlib.Core.Logic.{◌⊎◌, inl, inr}
use Rattle.closed_sets.specs.Around.{AreFittingPairs, FitTogether, IsFittingPair}
use Rattle.closed_sets.specs.Counting.{AreDifferent}
use Rattle.sky_units.specs.Tracks.{AreAmong}
use Rattle.set_grow.specs.Nights.{AreInPlace}
use Rattle.bound_prune.specs.EndsData.{EndsData}
use Rattle.set_grow.specs.Ends.{MayGo, ends_there}
use Rattle.set_grow.specs.Partners.{ArePartners, FitApart, IsPairAmong, IsPartner, IsPairOf, IsPairWith, IsRisingPair, ordered, partner_numbers}
use Rattle.set_grow.specs.SkyData.{FitsWithParts, SkyData}
use Rattle.set_grow.specs.declared.partners.Partner.{Partner}
use Rattle.set_grow.proofs.Members.{among, each_among, front_or_rest, in_front, in_mapped, in_none, in_rest, of_mapped}
use Rattle.set_grow.proofs.Partnering.{fit_may}
use Rattle.set_grow.proofs.Seating.{none_sharing}
use Rattle.set_grow.proofs.Together.{fewer}

abbrev number_of : Partner → ℕ
number_of partner = partner.number

-- ---- two numbers in order
pub ordered_less : (a b : ℕ) → a < b → ordered a b ≡ (a, b)
ordered_less a b l = let t : nat_lt a b ≡ true = grind (arith, tests) in rw t refl

pub ordered_more : (a b : ℕ) → b ≤ a → ordered a b ≡ (b, a)
ordered_more a b l = let t : nat_lt a b ≡ false = grind (arith, tests) in rw t refl

ordered_back : (a b : ℕ) → ¬ (a ≡ b) → ordered a b ≡ ordered b a
ordered_back a b differ = elim (cases_lt a b) [
  | inl l ↦ ordered_less a b l ∙ sym (ordered_more b a (omega (arith, l)))
  | inr g ↦ elim (cases_lt b a) [
    | inl l ↦ ordered_more a b g ∙ sym (ordered_less b a l)
    | inr h ↦ absurd (differ (omega (arith, g, h)))
  ]
]

abbrev Two : ℕ → ℕ → ℕ × ℕ
Two a b = (a, b)

pub rising_pair : (item a b : ℕ) → ¬ (a ≡ b) → ¬ (a ≡ item) → ¬ (b ≡ item) → IsRisingPair item (ordered a b)
rising_pair item a b differ first second = elim (cases_lt a b) [
  | inl l ↦ subst (IsRisingPair item) (sym (ordered_less a b l)) (low a b l first second)
  | inr g ↦ subst (IsRisingPair item) (sym (ordered_more a b g)) (low b a (below a b g differ) second first)
]
  where
    low : (a b : ℕ) → a < b → ¬ (a ≡ item) → ¬ (b ≡ item) → IsRisingPair item (Two a b)
    low a b l f s = record { rising = l; first = f; second = s }

    below : (a b : ℕ) → b ≤ a → ¬ (a ≡ b) → b < a
    below a b g differ = elim (cases_lt b a) [ inl l ↦ l | inr h ↦ absurd (differ (omega (arith, g, h))) ]

-- ---- pairs of two partners
flipped : (sky : SkyData) (item : ℕ) (one other : Partner) (pair : ℕ × ℕ) → ¬ (one.number ≡ other.number) → IsPairOf sky item one other pair → IsPairOf sky item other one pair
flipped sky item one other pair differ q = record { apart = λ e. q.apart (sym e); is = q.is ∙ ordered_back one.number other.number differ; fit = q.fit }

record TwoPartners (sky : SkyData) (item : ℕ) (partners : List Partner) (pair : ℕ × ℕ) : Type 0 where
  one : Partner
  other : Partner
  has_one : Contains partners one
  has_other : Contains partners other
  differ : ¬ (one.number ≡ other.number)
  are : IsPairOf sky item one other pair

two_partners : (sky : SkyData) (item : ℕ) (partners : List Partner) (pair : ℕ × ℕ) → AreDifferent (partner_numbers partners) → IsPairAmong sky item partners pair → TwoPartners sky item partners pair
two_partners sky item [] pair d h = absurd h
two_partners sky item (one ∷ others) pair d (inl w) = record {
  one = one;
  other = w.0;
  has_one = in_front one others;
  has_other = in_rest one others w.0 w.1;
  differ = λ e. d.0 (subst (Contains (partner_numbers others)) (sym e) (in_mapped number_of others w.0 w.1));
  are = w.2;
}
two_partners sky item (one ∷ others) pair d (inr h) =
    let t = two_partners sky item others pair d.1 h in
    record { one = t.one; other = t.other; has_one = in_rest one others t.one t.has_one; has_other = in_rest one others t.other t.has_other; differ = t.differ; are = t.are }

pair_among : (sky : SkyData) (item : ℕ) (partners : List Partner) (pair : ℕ × ℕ) (one other : Partner) → Contains partners one → Contains partners other → ¬ (one.number ≡ other.number) → IsPairOf sky item one other pair → IsPairAmong sky item partners pair
pair_among sky item [] pair one other c k differ q = absurd (in_none one c)
pair_among sky item (first ∷ partners) pair one other c k differ q = elim (front_or_rest first partners one c) [
  | inl e ↦ elim (front_or_rest first partners other k) [
    | inl f ↦ absurd (differ (ap number_of (sym e ∙ f)))
    | inr l ↦ inl (other, l, subst (λ p. IsPairOf sky item p other pair) (sym e) q)
  ]
  | inr l ↦ elim (front_or_rest first partners other k) [
    | inl f ↦ inl (one, l, subst (λ p. IsPairOf sky item p one pair) (sym f) (flipped sky item one other pair differ q))
    | inr m ↦ inr (pair_among sky item partners pair one other l m differ q)
  ]
]

-- ---- they are the fitting pairs
-- numbers of one fitting set are of different nights
nights_apart : (sky : SkyData) (item : Partner) (partners : List Partner) (one other : Partner) (numbers : List ℕ) → AreInPlace sky.nights sky.table → ArePartners sky item partners → Contains partners one → Contains partners other → ¬ (one.number ≡ other.number) → FitTogether (FitsWithParts sky) numbers → Contains numbers one.number → Contains numbers other.number → ¬ (one.seat.night ≡ other.seat.night)
nights_apart sky item partners one other numbers p ps c k differ f i j = λ e.
    let v = (ps.each one c).is.seat in
    let w = (ps.each other k).is.seat in
    let whole = f.fits.fits in
    none_sharing sky.nights sky.table f.whole whole.tracklets one.number other.number one.seat other.seat p
    (among numbers f.whole one.number f.has i) (among numbers f.whole other.number f.has j) differ v w e whole.are

fitting_of : (sky : SkyData) (item : Partner) (partners : List Partner) (pair : ℕ × ℕ) → ArePartners sky item partners → IsPairAmong sky item.number partners pair → IsFittingPair (FitsWithParts sky) item.number pair
fitting_of sky item partners pair ps h =
    let t = two_partners sky item.number partners pair ps.different h in
    let not_item : (partner : Partner) → Contains partners partner → ¬ (partner.number ≡ item.number) = λ partner c e. ps.others (subst (Contains (partner_numbers partners)) e (in_mapped number_of partners partner c)) in
    let r : IsRisingPair item.number pair = subst (IsRisingPair item.number) (sym t.are.is) (rising_pair item.number t.one.number t.other.number t.differ (not_item t.one t.has_one) (not_item t.other t.has_other)) in
    record { rising = r.rising; first = r.first; second = r.second; fit = t.are.fit }

of_fitting : (sky : SkyData) (item : Partner) (partners : List Partner) (pair : ℕ × ℕ) → AreInPlace sky.nights sky.table → ArePartners sky item partners → IsFittingPair (FitsWithParts sky) item.number pair → IsPairAmong sky item.number partners pair
of_fitting sky item partners pair p ps f =
    let three : List ℕ = item.number ∷ pair.0 ∷ pair.1 ∷ [] in
    let zero_in : Contains three pair.0 = in_rest item.number (pair.0 ∷ pair.1 ∷ []) pair.0 (in_front pair.0 (pair.1 ∷ [])) in
    let one_in : Contains three pair.1 = in_rest item.number (pair.0 ∷ pair.1 ∷ []) pair.1 (in_rest pair.0 (pair.1 ∷ []) pair.1 (in_front pair.1 [])) in
    let with : (x : ℕ) → Contains three x → FitTogether (FitsWithParts sky) (item.number ∷ x ∷ []) = λ x c. fewer (FitsWithParts sky) three (item.number ∷ x ∷ []) (each_among (item.number ∷ x ∷ []) three (λ y k. elim (front_or_rest item.number (x ∷ []) y k) [
      | inl e ↦ subst (Contains three) e (in_front item.number (pair.0 ∷ pair.1 ∷ []))
      | inr l ↦ elim (front_or_rest x [] y l) [ inl e ↦ subst (Contains three) e c | inr m ↦ absurd (in_none y m) ]
    ])) f.fit in
    let one = of_mapped number_of partners pair.0 (ps.complete pair.0 f.first (with pair.0 zero_in)) in
    let other = of_mapped number_of partners pair.1 (ps.complete pair.1 f.second (with pair.1 one_in)) in
    let less = f.rising in
    let differ : ¬ (one.0.number ≡ other.0.number) = λ e. (let same : pair.0 ≡ pair.1 = sym one.2 ∙ (e ∙ other.2) in omega (arith, less, same)) in
    let apart = nights_apart sky item partners one.0 other.0 three p ps one.1 other.1 differ f.fit (subst (Contains three) (sym one.2) zero_in) (subst (Contains three) (sym other.2) one_in) in
    let is : ordered one.0.number other.0.number ≡ pair = ap (λ a. ordered a other.0.number) one.2 ∙ (ap (ordered pair.0) other.2 ∙ ordered_less pair.0 pair.1 less) in
    pair_among sky item.number partners pair one.0 other.0 one.1 other.1 differ (record { apart = apart; is = sym is; fit = f.fit })

pub fitting_pairs_are : (sky : SkyData) (item : Partner) (partners : List Partner) (pairs : List (ℕ × ℕ)) → AreInPlace sky.nights sky.table → ArePartners sky item partners → ((pair : ℕ × ℕ) → IsPairAmong sky item.number partners pair ↔ Contains pairs pair) → AreFittingPairs (FitsWithParts sky) item.number pairs
fitting_pairs_are sky item partners pairs p ps h = λ pair. (
  λ c. fitting_of sky item partners pair ps ((h pair).1 c),
  λ f. (h pair).0 (of_fitting sky item partners pair p ps f),
)

-- ---- three numbers in any order
first_of : (a b c : ℕ) → Contains (a ∷ b ∷ c ∷ []) a
first_of a b c = in_front a (b ∷ c ∷ [])

second_of : (a b c : ℕ) → Contains (a ∷ b ∷ c ∷ []) b
second_of a b c = in_rest a (b ∷ c ∷ []) b (in_front b (c ∷ []))

third_of : (a b c : ℕ) → Contains (a ∷ b ∷ c ∷ []) c
third_of a b c = in_rest a (b ∷ c ∷ []) c (in_rest b (c ∷ []) c (in_front c []))

three_among : (a b c : ℕ) (xs : List ℕ) → Contains xs a → Contains xs b → Contains xs c → AreAmong (a ∷ b ∷ c ∷ []) xs
three_among a b c xs i j k = All-cons (Contains xs) a (b ∷ c ∷ []) i (All-cons (Contains xs) b (c ∷ []) j (All-cons (Contains xs) c [] k (All-nil (Contains xs))))

-- the last one first, or the first two the other way round
pub last_first : (Fits : List ℕ → Type 0) (a b c : ℕ) → FitTogether Fits (a ∷ b ∷ c ∷ []) ↔ FitTogether Fits (c ∷ a ∷ b ∷ [])
last_first Fits a b c = (
  fewer Fits (a ∷ b ∷ c ∷ []) (c ∷ a ∷ b ∷ []) (three_among c a b (a ∷ b ∷ c ∷ []) (third_of a b c) (first_of a b c) (second_of a b c)),
  fewer Fits (c ∷ a ∷ b ∷ []) (a ∷ b ∷ c ∷ []) (three_among a b c (c ∷ a ∷ b ∷ []) (second_of c a b) (third_of c a b) (first_of c a b)),
)

pub second_first : (Fits : List ℕ → Type 0) (a b c : ℕ) → FitTogether Fits (a ∷ b ∷ c ∷ []) ↔ FitTogether Fits (b ∷ a ∷ c ∷ [])
second_first Fits a b c = (turn Fits a b c, turn Fits b a c)
  where
    turn : (Fits : List ℕ → Type 0) (a b c : ℕ) → FitTogether Fits (a ∷ b ∷ c ∷ []) → FitTogether Fits (b ∷ a ∷ c ∷ [])
    turn Fits a b c = fewer Fits (a ∷ b ∷ c ∷ []) (b ∷ a ∷ c ∷ []) (three_among b a c (a ∷ b ∷ c ∷ []) (second_of a b c) (first_of a b c) (third_of a b c))

last_two : (Fits : List ℕ → Type 0) (a b c : ℕ) → FitTogether Fits (a ∷ b ∷ c ∷ []) → FitTogether Fits (a ∷ c ∷ b ∷ [])
last_two Fits a b c = fewer Fits (a ∷ b ∷ c ∷ []) (a ∷ c ∷ b ∷ []) (three_among a c b (a ∷ b ∷ c ∷ []) (first_of a b c) (third_of a b c) (second_of a b c))

-- an item and two numbers in order fit together where it and the two in any order do
pub in_any_order : (sky : SkyData) (item a b : ℕ) → FitTogether (FitsWithParts sky) (item ∷ a ∷ b ∷ []) ↔ FitTogether (FitsWithParts sky) (item ∷ (ordered a b).0 ∷ (ordered a b).1 ∷ [])
in_any_order sky item a b = elim (cases_lt a b) [
  | inl l ↦ subst (λ (pair : ℕ × ℕ). FitTogether (FitsWithParts sky) (item ∷ a ∷ b ∷ []) ↔ FitTogether (FitsWithParts sky) (item ∷ pair.0 ∷ pair.1 ∷ [])) (sym (ordered_less a b l)) (λ f. f, λ f. f)
  | inr g ↦ subst (λ (pair : ℕ × ℕ). FitTogether (FitsWithParts sky) (item ∷ a ∷ b ∷ []) ↔ FitTogether (FitsWithParts sky) (item ∷ pair.0 ∷ pair.1 ∷ [])) (sym (ordered_more a b g)) (last_two (FitsWithParts sky) item a b, last_two (FitsWithParts sky) item b a)
]

-- ---- the test of two partners
pub fit_apart_by : (sky : SkyData) (item : ℕ) (one other : Partner) (b : Bool) → ¬ (one.seat.night ≡ other.seat.night) → IsTrue b ↔ FitTogether (FitsWithParts sky) (item ∷ one.number ∷ other.number ∷ []) → IsTrue b ↔ FitApart sky item one other
fit_apart_by sky item one other b apart says = (λ t. (apart, (in_any_order sky item one.number other.number).0 (says.0 t)), λ f. says.1 ((in_any_order sky item one.number other.number).1 f.1))

pub fit_back_by : (sky : SkyData) (item : ℕ) (one other : Partner) (b : Bool) → ¬ (one.seat.night ≡ other.seat.night) → IsTrue b ↔ FitTogether (FitsWithParts sky) (item ∷ other.number ∷ one.number ∷ []) → IsTrue b ↔ FitApart sky item one other
fit_back_by sky item one other b apart says = fit_apart_by sky item one other b apart (λ t. last_two (FitsWithParts sky) item other.number one.number (says.0 t), λ f. says.1 (last_two (FitsWithParts sky) item one.number other.number f))

pub may_where_fit : (sky : SkyData) (item : ℕ) (one other : Partner) → AreInPlace sky.nights sky.table → IsPartner sky one → IsPartner sky other → ¬ (one.number ≡ other.number) → FitApart sky item one other → MayGo sky.settings one.seat.night one.ends other.seat.night other.ends
may_where_fit sky item one other p v w differ f =
    let three = (in_any_order sky item one.number other.number).1 f.1 in
    let two = fewer (FitsWithParts sky) (item ∷ one.number ∷ other.number ∷ []) (one.number ∷ other.number ∷ [])
    (All-cons (Contains (item ∷ one.number ∷ other.number ∷ [])) one.number (other.number ∷ []) (second_of item one.number other.number) (All-cons (Contains (item ∷ one.number ∷ other.number ∷ [])) other.number [] (third_of item one.number other.number) (All-nil (Contains (item ∷ one.number ∷ other.number ∷ []))))) three in
    let may = fit_may sky one.number other.number one.seat other.seat p v.seat w.seat differ two in
    subst (λ (d : EndsData). MayGo sky.settings one.seat.night one.ends other.seat.night d) (sym w.ends) (subst (λ (d : EndsData). MayGo sky.settings one.seat.night d other.seat.night (ends_there sky.settings sky.nights other.seat)) (sym v.ends) may)

-- numbers that rise in order differ
pub apart_of_rising : (item a b : ℕ) → IsRisingPair item (ordered a b) → ¬ (a ≡ b)
apart_of_rising item a b r = λ e.
    let l = r.rising in
    let is : ordered a b ≡ (b, a) = ordered_more a b (omega (arith, e)) in
    let less : b < a = subst (λ (pair : ℕ × ℕ). pair.0 < pair.1) is r.rising in
    omega (arith, less, e)

-- ---- one partner after the other
abbrev pub HoldsPairs : SkyData → ℕ → Partner → List Partner → List (ℕ × ℕ) → List (ℕ × ℕ) → Type 0
HoldsPairs sky item one others old new = (pair : ℕ × ℕ) → Contains new pair ↔ (Contains old pair ⊎ IsPairWith sky item one others pair)

pub no_pairs : (sky : SkyData) (item : ℕ) (one : Partner) (old : List (ℕ × ℕ)) → HoldsPairs sky item one [] old old
no_pairs sky item one old = λ pair. (λ c. inl c, λ w. elim w [ inl c ↦ c | inr k ↦ absurd (in_none k.0 k.1) ])

abbrev ThreeOf : ℕ → ℕ × ℕ → List ℕ
ThreeOf item pair = item ∷ pair.0 ∷ pair.1 ∷ []

of_fit : (sky : SkyData) (item : ℕ) (one other : Partner) (pair : ℕ × ℕ) → FitApart sky item one other → ordered one.number other.number ≡ pair → IsPairOf sky item one other pair
of_fit sky item one other pair f e = record { apart = f.0; is = sym e; fit = subst (λ q. FitTogether (FitsWithParts sky) (ThreeOf item q)) e f.1 }

fit_of : (sky : SkyData) (item : ℕ) (one other : Partner) (pair : ℕ × ℕ) → IsPairOf sky item one other pair → FitApart sky item one other
fit_of sky item one other pair q = (q.apart, subst (λ r. FitTogether (FitsWithParts sky) (ThreeOf item r)) q.is q.fit)

pub pairs_more : (sky : SkyData) (item : ℕ) (one other : Partner) (others : List Partner) (old new : List (ℕ × ℕ)) (fits : Bool) → (IsTrue fits ↔ FitApart sky item one other) → HoldsPairs sky item one others old new →
    HoldsPairs sky item one (others ++ other ∷ []) old (cond fits (new ++ ordered one.number other.number ∷ []) new)
pairs_more sky item one other others old new true says h = λ pair. (
  λ c. elim (Contains-push_cases new (ordered one.number other.number) pair c) [
    | inl d ↦ elim ((h pair).0 d) [ inl a ↦ inl a | inr w ↦ inr (w.0, Contains-append_left others (other ∷ []) w.0 w.1, w.2) ]
    | inr e ↦ inr (other, Contains-push others other, of_fit sky item one other pair (says.0 refl) e)
  ],
  λ w. elim w [
    | inl a ↦ Contains-append_left new (ordered one.number other.number ∷ []) pair ((h pair).1 (inl a))
    | inr k ↦ elim (Contains-push_cases others other k.0 k.1) [
      | inl d ↦ Contains-append_left new (ordered one.number other.number ∷ []) pair ((h pair).1 (inr (k.0, d, k.2)))
      | inr e ↦
          let is : pair ≡ ordered one.number other.number = k.2.is ∙ ap (λ (p : Partner). ordered one.number p.number) (sym e) in
          subst (Contains (new ++ ordered one.number other.number ∷ [])) (sym is) (Contains-push new (ordered one.number other.number))
    ]
  ],
)
pairs_more sky item one other others old new false says h = λ pair. (
  λ c. elim ((h pair).0 c) [ inl a ↦ inl a | inr w ↦ inr (w.0, Contains-append_left others (other ∷ []) w.0 w.1, w.2) ],
  λ w. elim w [
    | inl a ↦ (h pair).1 (inl a)
    | inr k ↦ elim (Contains-push_cases others other k.0 k.1) [
      | inl d ↦ (h pair).1 (inr (k.0, d, k.2))
      | inr e ↦ absurd (false≢true (says.1 (fit_of sky item one other pair (subst (λ p. IsPairOf sky item one p pair) (sym e) k.2))))
    ]
  ],
)

-- ---- all partners: what is found, and what is left
pub record AreFoundOf (sky : SkyData) (item : ℕ) (partners rest : List Partner) (pairs : List (ℕ × ℕ)) : Type 0 where
  pub different : AreDifferent (partner_numbers rest)
  pub others : ¬ Contains (partner_numbers rest) item
  pub inside : (partner : Partner) → Contains rest partner → Contains partners partner
  pub exactly : (pair : ℕ × ℕ) → IsPairAmong sky item partners pair ↔ (Contains pairs pair ⊎ IsPairAmong sky item rest pair)

pub none_found : (sky : SkyData) (item : Partner) (partners : List Partner) → ArePartners sky item partners → AreFoundOf sky item.number partners partners []
none_found sky item partners ps = record {
  different = ps.different;
  others = ps.others;
  inside = λ partner c. c;
  exactly = λ pair. (λ h. inr h, λ w. elim w [ inl c ↦ absurd (in_none pair c) | inr h ↦ h ]);
}

pub found_more : (sky : SkyData) (item : ℕ) (partners : List Partner) (one : Partner) (others : List Partner) (rest : List Partner) (old new : List (ℕ × ℕ)) → rest ≡ one ∷ others → AreFoundOf sky item partners rest old → HoldsPairs sky item one others old new → AreFoundOf sky item partners others new
found_more sky item partners one others rest old new e f h =
    let f' : AreFoundOf sky item partners (one ∷ others) old = subst (λ list. AreFoundOf sky item partners list old) e f in
    record {
      different = f'.different.1;
      others = λ c. f'.others (in_rest one.number (partner_numbers others) item c);
      inside = λ partner c. f'.inside partner (in_rest one others partner c);
      exactly = λ pair. (
        λ a. elim ((f'.exactly pair).0 a) [
          | inl c ↦ inl ((h pair).1 (inl c))
          | inr w ↦ elim w [ inl k ↦ inl ((h pair).1 (inr k)) | inr l ↦ inr l ]
        ],
        λ w. elim w [
          | inl c ↦ elim ((h pair).0 c) [ inl d ↦ (f'.exactly pair).1 (inl d) | inr k ↦ (f'.exactly pair).1 (inr (inl k)) ]
          | inr l ↦ (f'.exactly pair).1 (inr (inr l))
        ],
      );
    }

pub found_all : (sky : SkyData) (item : ℕ) (partners rest : List Partner) (pairs : List (ℕ × ℕ)) → rest ≡ [] → AreFoundOf sky item partners rest pairs → (pair : ℕ × ℕ) → IsPairAmong sky item partners pair ↔ Contains pairs pair
found_all sky item partners rest pairs e f pair =
    let f' : AreFoundOf sky item partners [] pairs = subst (λ list. AreFoundOf sky item partners list pairs) e f in
    (λ h. elim ((f'.exactly pair).0 h) [ inl c ↦ c | inr l ↦ absurd l ], λ c. (f'.exactly pair).1 (inl c))

-- the pairs of the first partner left rise
pub rising_left : (sky : SkyData) (item : ℕ) (partners : List Partner) (one : Partner) (others rest : List Partner) (pairs : List (ℕ × ℕ)) → rest ≡ one ∷ others → AreFoundOf sky item partners rest pairs → (other : Partner) → Contains others other → IsRisingPair item (ordered one.number other.number)
rising_left sky item partners one others rest pairs e f other c =
    let f' : AreFoundOf sky item partners (one ∷ others) pairs = subst (λ list. AreFoundOf sky item partners list pairs) e f in
    rising_pair item one.number other.number
    (λ s. f'.different.0 (subst (Contains (partner_numbers others)) (sym s) (in_mapped number_of others other c)))
    (λ s. f'.others (subst (Contains (partner_numbers (one ∷ others))) s (in_front one.number (partner_numbers others))))
    (λ s. f'.others (subst (Contains (partner_numbers (one ∷ others))) s (in_rest one.number (partner_numbers others) other.number (in_mapped number_of others other c))))

-- what is left are partners
pub one_left : (sky : SkyData) (item : ℕ) (partners : List Partner) (one : Partner) (others rest : List Partner) (pairs : List (ℕ × ℕ)) → rest ≡ one ∷ others → AreFoundOf sky item partners rest pairs → Contains partners one
one_left sky item partners one others rest pairs e f = f.inside one (subst (λ list. Contains list one) (sym e) (in_front one others))

pub other_left : (sky : SkyData) (item : ℕ) (partners : List Partner) (one : Partner) (others rest : List Partner) (pairs : List (ℕ × ℕ)) (other : Partner) → rest ≡ one ∷ others → AreFoundOf sky item partners rest pairs → Contains others other → Contains partners other
other_left sky item partners one others rest pairs other e f c = f.inside other (subst (λ list. Contains list other) (sym e) (in_rest one others other c))
