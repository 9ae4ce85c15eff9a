-- Sets of numbers: rising lists. One more number, the set of a list, and what lies above a set that fits.
use Rattle.std.proofs.Common.{◌≡◌, ℕ, ◌+◌, ◌<◌, List, [], ◌∷◌, length, get_or, sym, subst, ◌∙◌, arith}
use Rattle.std.proofs.lemmas.Bool.{cases_eq, cases_lt, cases_order}
use Rattle.std.proofs.lemmas.Map.Keys.{below_from_sorted, sorted_from_strictly_increasing}
use Rattle.std.proofs.lemmas.List.Elements.{All-contains}
use Rattle.std.specs.List.{All, Contains}
use mathlib.Core.Logic.{◌⊎◌, inl, inr}
use Rattle.closed_sets.specs.Families.{IsClosed, IsHereditary, IsSet}
use Rattle.sky_math.specs.Lists.{EachTwo}
use Rattle.sky_units.specs.Tracks.{AreAmong}
use Rattle.set_grow.proofs.Members.{IsDecided, all_or_not, among, contains_or_not, each_among, each_two_cons, each_two_head, each_two_or_not, each_two_tail, front_or_rest, in_front, in_none, in_rest, reworded, same_members}

abbrev pub IsBelow : ℕ → ℕ → Type 0
IsBelow x y = x < y

-- ---- sets rise from each number to each later one
pub rising : (xs : List ℕ) → IsSet xs → EachTwo IsBelow xs
rising xs s = λ i j d ij jl. below_from_sorted xs i j d s ij jl

pub is_rising : (xs : List ℕ) → EachTwo IsBelow xs → IsSet xs
is_rising xs h = sorted_from_strictly_increasing xs (λ k l. h k (k + 1) 0 (omega arith) l)

pub none_set : IsSet []
none_set = is_rising [] (λ i j d ij jl. absurd (omega arith))

pub different : (xs : List ℕ) → IsSet xs → EachTwo (λ one other. one ≡ other → ⊥) xs
different xs s = λ i j d ij jl e. let b = rising xs s i j d ij jl in omega (arith, b, e)

pub same_set : (one other : List ℕ) → IsSet one → IsSet other → AreAmong one other → AreAmong other one → one ≡ other
same_set one other s t h g = same_members IsBelow (λ x y a b. omega (arith, a, b)) one other (rising one s) (rising other t) (λ x c. among one other x h c) (λ x c. among other one x g c)

pub set_or_not : (xs : List ℕ) → IsDecided (IsSet xs)
set_or_not xs = reworded (is_rising xs) (rising xs) (each_two_or_not IsBelow (λ x y. below_or_not x y) xs)
  where
    below_or_not : (x y : ℕ) → IsDecided (IsBelow x y)
    below_or_not x y = elim (cases_lt x y) [ inl l ↦ inl l | inr g ↦ inr (λ b. omega (arith, g, b)) ]

pub number_or_not : (xs : List ℕ) (x : ℕ) → IsDecided (Contains xs x)
number_or_not xs x = contains_or_not cases_eq xs x

pub among_or_not : (xs ys : List ℕ) → IsDecided (AreAmong xs ys)
among_or_not xs ys = all_or_not (Contains ys) (number_or_not ys) xs

-- ---- a set with one number more
pub record WithOne (x : ℕ) (set : List ℕ) : Type 0 where
  pub list : List ℕ
  pub is_set : IsSet list
  pub has : Contains list x
  pub keeps : (y : ℕ) → Contains set y → Contains list y
  pub only : (y : ℕ) → Contains list y → (x ≡ y) ⊎ Contains set y

set_tail : (x : ℕ) (xs : List ℕ) → IsSet (x ∷ xs) → IsSet xs
set_tail x xs s = is_rising xs (each_two_tail IsBelow x xs (rising (x ∷ xs) s))

set_head : (x : ℕ) (xs : List ℕ) → IsSet (x ∷ xs) → All (IsBelow x) xs
set_head x xs s = each_two_head IsBelow x xs (rising (x ∷ xs) s)

set_cons : (x : ℕ) (xs : List ℕ) → ((y : ℕ) → Contains xs y → x < y) → IsSet xs → IsSet (x ∷ xs)
set_cons x xs h s = is_rising (x ∷ xs) (each_two_cons IsBelow x xs (λ k d l. h (get_or xs k d) (member xs k d l)) (rising xs s))
  where
    member : (xs : List ℕ) (k d : ℕ) → k < length xs → Contains xs (get_or xs k d)
    member xs k d l = each_among xs xs (λ x c. c) k d l

pub with_one : (x : ℕ) (set : List ℕ) → IsSet set → WithOne x set
with_one x [] s = record {
  list = x ∷ [];
  is_set = set_cons x [] (λ y c. absurd (in_none y c)) none_set;
  has = in_front x [];
  keeps = λ y c. absurd (in_none y c);
  only = λ y c. front_or_rest x [] y c;
}
with_one x (z ∷ zs) s = elim (cases_order x z) [
  | inl e ↦ record {
    list = z ∷ zs;
    is_set = s;
    has = subst (Contains (z ∷ zs)) (sym e) (in_front z zs);
    keeps = λ y c. c;
    only = λ y c. inr c;
  }
  | inr d ↦ elim d [
    | inl l ↦ record {
      list = x ∷ z ∷ zs;
      is_set = set_cons x (z ∷ zs) (λ y c. elim (front_or_rest z zs y c) [ inl e ↦ omega (arith, l, e) | inr b ↦ (let m = All-contains (IsBelow z) zs y (set_head z zs s) b in omega (arith, l, m)) ]) s;
      has = in_front x (z ∷ zs);
      keeps = λ y c. in_rest x (z ∷ zs) y c;
      only = λ y c. front_or_rest x (z ∷ zs) y c;
    }
    | inr g ↦
        let rest = with_one x zs (set_tail z zs s) in
        record {
          list = z ∷ rest.list;
          is_set = set_cons z rest.list (λ y c. elim (rest.only y c) [ inl e ↦ omega (arith, g, e) | inr b ↦ All-contains (IsBelow z) zs y (set_head z zs s) b ]) rest.is_set;
          has = in_rest z rest.list x rest.has;
          keeps = λ y c. elim (front_or_rest z zs y c) [ inl e ↦ subst (Contains (z ∷ rest.list)) e (in_front z rest.list) | inr b ↦ in_rest z rest.list y (rest.keeps y b) ];
          only = λ y c. elim (front_or_rest z rest.list y c) [ inl e ↦ inr (subst (Contains (z ∷ zs)) e (in_front z zs)) | inr b ↦ elim (rest.only y b) [ inl e ↦ inl e | inr a ↦ inr (in_rest z zs y a) ] ];
        }
  ]
]

-- the set of the numbers of a list
pub set_of : (xs : List ℕ) → (set : List ℕ) × IsSet set × AreAmong set xs × AreAmong xs set
set_of [] = ([], none_set, each_among [] [] (λ x c. c), each_among [] [] (λ x c. c))
set_of (x ∷ xs) =
    let rest = set_of xs in
    let more = with_one x rest.0 rest.1 in (
      more.list,
      more.is_set,
      each_among more.list (x ∷ xs) (λ y c. elim (more.only y c) [ inl e ↦ subst (Contains (x ∷ xs)) e (in_front x xs) | inr b ↦ in_rest x xs y (among rest.0 xs y rest.2 b) ]),
      each_among (x ∷ xs) more.list (λ y c. elim (front_or_rest x xs y c) [ inl e ↦ subst (Contains more.list) e more.has | inr b ↦ more.keeps y (among xs rest.0 y rest.3 b) ]),
    )

-- ---- a fitting set grows, number by number, into one that can't grow
pub record Grown (Fits : List ℕ → Type 0) (from : List ℕ) (set : List ℕ) : Type 0 where
  pub list : List ℕ
  pub fits : Fits list
  pub keeps : AreAmong set list
  pub full : (other : List ℕ) (y : ℕ) → Fits other → AreAmong list other → Contains from y → Contains other y → Contains list y

pub grown : (Fits : List ℕ → Type 0) → IsHereditary Fits → ((set : List ℕ) → IsDecided (Fits set)) → (from : List ℕ) (set : List ℕ) → Fits set → Grown Fits from set
grown Fits h d [] set f = record { list = set; fits = f; keeps = each_among set set (λ x c. c); full = λ other y k a c e. absurd (in_none y c) }
grown Fits h d (x ∷ from) set f =
    let more = with_one x set (h.sets set f) in
    elim (d more.list) [
      | inl fits ↦
          let rest = grown Fits h d from more.list fits in
          record {
            list = rest.list;
            fits = rest.fits;
            keeps = each_among set rest.list (λ y c. among more.list rest.list y rest.keeps (more.keeps y c));
            full = λ other y k a c e. elim (front_or_rest x from y c) [
              | inl same ↦ subst (Contains rest.list) same (among more.list rest.list x rest.keeps more.has)
              | inr later ↦ rest.full other y k a later e
            ];
          }
      | inr never ↦
          let rest = grown Fits h d from set f in
          record {
            list = rest.list;
            fits = rest.fits;
            keeps = rest.keeps;
            full = λ other y k a c e. elim (front_or_rest x from y c) [
              | inl same ↦ absurd (never (h.parts other more.list k more.is_set (each_among more.list other (λ z m. elim (more.only z m) [
                | inl s ↦ subst (Contains other) (sym same ∙ s) e
                | inr b ↦ among rest.list other z a (among set rest.list z rest.keeps b)
              ]))))
              | inr later ↦ rest.full other y k a later e
            ];
          }
    ]

-- every fitting set lies in a closed one, where the fitting sets have numbers of a list and each set fits or doesn't
pub closed_above : (Fits : List ℕ → Type 0) → IsHereditary Fits → ((set : List ℕ) → IsDecided (Fits set)) → (from : List ℕ) → ((set : List ℕ) → Fits set → AreAmong set from) → (set : List ℕ) → Fits set → (closed : List ℕ) × IsClosed Fits closed × AreAmong set closed
closed_above Fits h d from within set f =
    let g = grown Fits h d from set f in
    (g.list, record { fits = g.fits; full = λ other k a. each_among other g.list (λ y c. g.full other y k a (among other from y (within other k) c) c) }, g.keeps)
