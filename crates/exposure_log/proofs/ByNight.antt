-- Numbered that stand night by night, as one list: those before a night, of it, and after it.
use Rattle.std.proofs.Common.{◌≡◌, ◌≢◌, ℕ, ◌<◌, ℤ, ◌<ℤ◌, Bool, true, false, Option, Some, None, Vec, Global, List, [], ◌∷◌, ◌++◌, length, get_or, refl, sym, ap, ◌∙◌, arith, append_assoc, inl, inr}
use Rattle.std.specs.BTreeMap.{is_at}
use Rattle.std.specs.List.{All, AllByRecursion, filter}
use Rattle.std.specs.List.Sorted.{IsStrictlySortedBy}
use Rattle.std.specs.Map.{keys_of, set_value}
use Rattle.std.specs.Ordering.{int_cmp, is_eq}
use Rattle.std.specs.declared.cmp.Ordering.TheVariants.{Less, Equal, Greater}
use Rattle.std.proofs.lemmas.Bool.{cases_Bool, false_from_ne_true}
use Rattle.std.proofs.lemmas.Bool.Decides.{Decides-int_eq}
use Rattle.std.proofs.lemmas.Cmp.{int_cmp_total, int_ranked, tied_itself}
use Rattle.std.proofs.lemmas.Int.{ints}
use Rattle.std.proofs.lemmas.List.{append-nil}
use Rattle.std.proofs.lemmas.List.Elements.{All-append, All-head, All-nil, All-tail, All-weaker, filter-append}
use Rattle.std.proofs.lemmas.Map.{lookup-none}
use Rattle.std.proofs.lemmas.Map.Entries.{none_below_head}
use Rattle.sky_math.specs.Night.{night_at}
use Rattle.exposure_log.specs.declared.numbered.NumberedExposure.{NumberedExposure}
use Rattle.exposure_log.specs.Nights.{all_listed, list_of, is_of_night, AreByNight}
use Rattle.exposure_log.proofs.Searching.{filter_all, filter_none}

abbrev Nights : Type 0
Nights = List (ℤ × Vec NumberedExposure Global)

-- the exposures of a night's list are of that night
abbrev pub UnderNight : ℤ → ℤ × Vec NumberedExposure Global → Type 0
UnderNight shift n = All (λ g. night_at shift g.epoch ≡ n.0) n.1.items

rising_tail : (n : ℤ × Vec NumberedExposure Global) (ns : Nights) → IsStrictlySortedBy int_cmp (keys_of (n ∷ ns)) → IsStrictlySortedBy int_cmp (keys_of ns)
unfolding IsStrictlySortedBy
rising_tail n ns rise = rise.1

pub rising_head : (n : ℤ × Vec NumberedExposure Global) (ns : Nights) → IsStrictlySortedBy int_cmp (keys_of (n ∷ ns)) → AllByRecursion (λ k. int_cmp n.0 k ≡ Less) (keys_of ns)
unfolding IsStrictlySortedBy
rising_head n ns rise = rise.0

pub tail_by_night : (shift : ℤ) (n : ℤ × Vec NumberedExposure Global) (ns : Nights) → AreByNight shift (n ∷ ns) → AreByNight shift ns
tail_by_night shift n ns by = record { nights_rise = rising_tail n ns by.nights_rise; under_their_night = All-tail (UnderNight shift) n ns by.under_their_night }

less_is : (a b : ℤ) → int_cmp a b ≡ Less → a <ℤ b
less_is a b e = int_ranked a b Less (sym e)

pub equal_is : (a b : ℤ) → int_cmp a b ≡ Equal → a ≡ b
equal_is a b e = int_ranked a b Equal (sym e)

greater_is : (a b : ℤ) → int_cmp a b ≡ Greater → b <ℤ a
greater_is a b e = int_ranked a b Greater (sym e)

-- the exposures of nights that all lie after a night
pub all_later : (shift night : ℤ) (ns : Nights) → AllByRecursion (λ k. int_cmp night k ≡ Less) (keys_of ns) → All (UnderNight shift) ns → All (λ g. night <ℤ night_at shift g.epoch) (all_listed ns)
all_later shift night [] after under = All-nil (λ (g : NumberedExposure). night <ℤ night_at shift g.epoch)
all_later shift night (n ∷ ns) after under =
    let less = less_is night n.0 after.0 in
    All-append (λ (g : NumberedExposure). night <ℤ night_at shift g.epoch) n.1.items (all_listed ns)
    (All-weaker (λ (g : NumberedExposure). night_at shift g.epoch ≡ n.0) (λ (g : NumberedExposure). night <ℤ night_at shift g.epoch) (λ g e. rw e less) n.1.items (All-head (UnderNight shift) n ns under))
    (all_later shift night ns after.1 (All-tail (UnderNight shift) n ns under))

-- ---- the exposures before a night, of it, and after it

pub record StandsAmong (shift night : ℤ) (ns : Nights) (here : Vec NumberedExposure Global) : Type 0 where
  pub before : List NumberedExposure
  pub after : List NumberedExposure
  pub is : all_listed ns ≡ before ++ (here.items ++ after)
  pub changed : (v : Vec NumberedExposure Global) → all_listed (set_value (is_at (int_cmp night)) ns v) ≡ before ++ (v.items ++ after)
  pub earlier : All (λ g. night_at shift g.epoch <ℤ night) before
  pub at_night : All (λ g. night_at shift g.epoch ≡ night) here.items
  pub later : All (λ g. night <ℤ night_at shift g.epoch) after

pub same_list : (v w : Vec NumberedExposure Global) → Some v ≡ Some w → v ≡ w
same_list v w e = cc

pub none_some : (o : Option (Vec NumberedExposure Global)) (v : Vec NumberedExposure Global) → o ≡ None → o ≡ Some v → ⊥
none_some o v e h = let no : None ≡ Some v = sym e ∙ h in cc

among_first : (shift night : ℤ) (n : ℤ × Vec NumberedExposure Global) (ns : Nights) (here : Vec NumberedExposure Global) → AreByNight shift (n ∷ ns) → int_cmp night n.0 ≡ Equal → list_of (n ∷ ns) night ≡ Some here → StandsAmong shift night (n ∷ ns) here
among_first shift night n ns here by r found =
    let test : is_at (int_cmp night) n.0 ≡ true = ap is_eq r in
    let list : n.1 ≡ here = same_list n.1 here (rw test at found) in
    let same : night ≡ n.0 = equal_is night n.0 r in
    record {
      before = [];
      after = all_listed ns;
      is = ap (λ (v : Vec NumberedExposure Global). v.items ++ all_listed ns) list;
      changed = λ v. rw test refl;
      earlier = All-nil (λ (g : NumberedExposure). night_at shift g.epoch <ℤ night);
      at_night = rw (← list, same) (All-head (UnderNight shift) n ns by.under_their_night);
      later = rw same (all_later shift n.0 ns (rising_head n ns by.nights_rise) (All-tail (UnderNight shift) n ns by.under_their_night));
    }

among_rest : (shift night : ℤ) (n : ℤ × Vec NumberedExposure Global) (ns : Nights) (here : Vec NumberedExposure Global) → AreByNight shift (n ∷ ns) → int_cmp night n.0 ≡ Greater → StandsAmong shift night ns here → StandsAmong shift night (n ∷ ns) here
among_rest shift night n ns here by r rest =
    let test : is_at (int_cmp night) n.0 ≡ false = ap is_eq r in
    let less = greater_is night n.0 r in
    record {
      before = n.1.items ++ rest.before;
      after = rest.after;
      is = rw rest.is (sym (append_assoc n.1.items rest.before (here.items ++ rest.after)));
      changed = λ v. rw (test, rest.changed v) (sym (append_assoc n.1.items rest.before (v.items ++ rest.after)));
      earlier = All-append (λ (g : NumberedExposure). night_at shift g.epoch <ℤ night) n.1.items rest.before
          (All-weaker (λ (g : NumberedExposure). night_at shift g.epoch ≡ n.0) (λ (g : NumberedExposure). night_at shift g.epoch <ℤ night) (λ g e. rw e less) n.1.items (All-head (UnderNight shift) n ns by.under_their_night)) rest.earlier;
      at_night = rest.at_night;
      later = rest.later;
    }

pub stands_among : (shift night : ℤ) (ns : Nights) (here : Vec NumberedExposure Global) → AreByNight shift ns → list_of ns night ≡ Some here → StandsAmong shift night ns here
stands_among shift night [] here by found = absurd (none_some None here refl found)
stands_among shift night (n ∷ ns) here by found =
    elim (int_cmp night n.0) as (λ r. int_cmp night n.0 ≡ r → StandsAmong shift night (n ∷ ns) here) [
      | Less ↦ λ r. absurd (none_some (list_of (n ∷ ns) night) here (lookup-none (is_at (int_cmp night)) (n ∷ ns) (none_below_head int_cmp_total night n ns by.nights_rise r)) found)
      | Equal ↦ λ r. among_first shift night n ns here by r found
      | Greater ↦ λ r.
          let test : is_at (int_cmp night) n.0 ≡ false = ap is_eq r in
          among_rest shift night n ns here by r (stands_among shift night ns here (tail_by_night shift n ns by) (rw test at found))
    ] refl

-- no exposure is of a night that has no list
pub none_at_night : (shift night : ℤ) (ns : Nights) → All (UnderNight shift) ns → list_of ns night ≡ None → All (λ g. night_at shift g.epoch ≢ night) (all_listed ns)
none_at_night shift night [] under missing = All-nil (λ (g : NumberedExposure). night_at shift g.epoch ≢ night)
none_at_night shift night (n ∷ ns) under missing = elim (cases_Bool (is_at (int_cmp night) n.0)) [
  | inl y ↦ absurd (none_some (list_of (n ∷ ns) night) n.1 missing (rw y refl))
  | inr f ↦
      let other : n.0 ≢ night = λ e.
      let tied : is_at (int_cmp night) n.0 ≡ true = rw e (ap is_eq (tied_itself int_cmp_total night)) in
      let no : true ≡ false = sym tied ∙ f in
      cc in
      All-append (λ (g : NumberedExposure). night_at shift g.epoch ≢ night) n.1.items (all_listed ns)
      (All-weaker (λ (g : NumberedExposure). night_at shift g.epoch ≡ n.0) (λ (g : NumberedExposure). night_at shift g.epoch ≢ night) (λ g e h. other (sym e ∙ h)) n.1.items (All-head (UnderNight shift) n ns under))
      (none_at_night shift night ns (All-tail (UnderNight shift) n ns under) (rw f at missing))
]

-- ---- the exposures of a night

pub other_night : (shift night : ℤ) (g : NumberedExposure) → night_at shift g.epoch ≢ night → is_of_night shift night g ≡ false
other_night shift night g ne = false_from_ne_true (is_of_night shift night g) (λ t. ne ((Decides-int_eq (night_at shift g.epoch) night).0 t))

pub its_night : (shift night : ℤ) (g : NumberedExposure) → night_at shift g.epoch ≡ night → is_of_night shift night g ≡ true
its_night shift night g e = (Decides-int_eq (night_at shift g.epoch) night).1 e

pub no_listed_of_night : (shift night : ℤ) (listed : List NumberedExposure) → All (λ g. night_at shift g.epoch ≢ night) listed → filter (is_of_night shift night) listed ≡ []
no_listed_of_night shift night listed none = filter_none (is_of_night shift night) listed (λ k d h. other_night shift night (get_or listed k d) (none k d h))

-- a filter that keeps nothing before a stretch and nothing behind it
pub keeps_middle : (p : NumberedExposure → Bool) (xs ys zs : List NumberedExposure) → filter p xs ≡ [] → filter p zs ≡ [] → filter p (xs ++ (ys ++ zs)) ≡ filter p ys
keeps_middle p xs ys zs a b = rw (filter-append p xs (ys ++ zs), filter-append p ys zs, a, b) (append-nil (filter p ys))

module _ (shift night : ℤ) (ns : Nights) (here : Vec NumberedExposure Global) (among : StandsAmong shift night ns here) where
  not_before : (k : ℕ) (d : NumberedExposure) → k < length among.before → night_at shift (get_or among.before k d).epoch ≢ night
  not_before k d h e = let less = among.earlier k d h in omega (arith, ints, less, e)

  not_after : (k : ℕ) (d : NumberedExposure) → k < length among.after → night_at shift (get_or among.after k d).epoch ≢ night
  not_after k d h e = let less = among.later k d h in omega (arith, ints, less, e)

  pub night_is_list : filter (is_of_night shift night) (all_listed ns) ≡ here.items
  night_is_list =
      rw among.is (keeps_middle (is_of_night shift night) among.before here.items among.after
      (no_listed_of_night shift night among.before not_before) (no_listed_of_night shift night among.after not_after)
      ∙ filter_all (is_of_night shift night) here.items (λ k d h. its_night shift night (get_or here.items k d) (among.at_night k d h)))
