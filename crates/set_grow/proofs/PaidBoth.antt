-- The sets of three and the fitting sets that pay for the tests of one item after the other.
use Rattle.std.proofs.Common.{◌≡◌, ℕ, ◌+◌, ◌*◌, ◌<◌, ◌≤◌, List, [], ◌∷◌, ◌++◌, length, map, get_or, take, drop, refl, sym, subst, ap, ◌∙◌, arith, length-append}
use Rattle.std.proofs.lemmas.Bool.{cases_lt}
use Rattle.std.proofs.lemmas.List.{length-map, take-append-drop, take_more}
use Rattle.std.proofs.lemmas.List.Elements.{Contains-append_cases, Contains-append_left, Contains-get_or, Contains-push}
use Rattle.std.specs.List.{Contains}
use Rattle.std.proofs.Math.Nat.{mul-le-mul_left}
use mathlib.Core.Logic.{inl, inr}
use Rattle.bound_prune.specs.EndsData.{EndsData}
use Rattle.closed_sets.specs.Around.{AreFittingPairs, HasBothOfEach, IsFittingWith}
use Rattle.closed_sets.specs.Counting.{AreDifferent, IsPaid, Rises}
use Rattle.closed_sets.specs.Families.{IsSet}
use Rattle.closed_sets.proofs.Lists.{different_append, no_longer}
use Rattle.closed_sets.proofs.Paying.{paid_as, paid_none, rises_then}
use Rattle.set_grow.specs.Costs.{HasAllWithOne, IsBounded, IsPaidByBoth, IsTriple, MayBeOfOne, MayMeet}
use Rattle.set_grow.specs.Ends.{MayGo, ends_there}
use Rattle.set_grow.specs.Growing.{AreGrown}
use Rattle.set_grow.specs.Partners.{ArePartners, IsPartner, IsTestedAmong, IsTestedOf, ordered, partner_numbers}
use Rattle.set_grow.specs.SkyData.{FitsWithParts, SkyData}
use Rattle.set_grow.specs.declared.partners.Partner.{Partner}
use Rattle.set_grow.proofs.Gathering.{grown_none}
use Rattle.set_grow.proofs.NumberSets.{rising}
use Rattle.set_grow.proofs.Seating.{earlier_below}
use Rattle.set_grow.proofs.Members.{among, in_front, in_mapped, in_none, in_rest, of_mapped}
use Rattle.set_grow.proofs.Pairing.{ordered_less, ordered_more}
use Rattle.set_grow.proofs.Partnering.{turned}

abbrev number_of : Partner → ℕ
number_of partner = partner.number

-- ---- what is tested may be of one object
record TwoTested (sky : SkyData) (partners : List Partner) (pair : ℕ × ℕ) : Type 0 where
  one : Partner
  other : Partner
  has_one : Contains partners one
  has_other : Contains partners other
  differ : ¬ (one.number ≡ other.number)
  are : IsTestedOf sky one other pair

two_tested : (sky : SkyData) (partners : List Partner) (pair : ℕ × ℕ) → AreDifferent (partner_numbers partners) → IsTestedAmong sky partners pair → TwoTested sky partners pair
two_tested sky [] pair d h = absurd h
two_tested sky (one ∷ others) pair d (inl w) = record {
  one = one;
  other = w.0;
  has_one = in_front one others;
  has_other = in_rest one others w.0 w.1;
  differ = λ e. d.0 (subst (Contains (partner_numbers others)) (sym e) (in_mapped number_of others w.0 w.1));
  are = w.2;
}
two_tested sky (one ∷ others) pair d (inr h) =
    let t = two_tested sky others pair d.1 h in
    record { one = t.one; other = t.other; has_one = in_rest one others t.one t.has_one; has_other = in_rest one others t.other t.has_other; differ = t.differ; are = t.are }

meet : (sky : SkyData) (one other : Partner) → IsPartner sky one → IsPartner sky other → MayGo sky.settings one.seat.night one.ends other.seat.night other.ends → MayMeet sky one.number other.number
meet sky one other p q may = record {
  seat = one.seat;
  other = other.seat;
  is_seat = p.seat;
  is_other = q.seat;
  may = subst (λ (d : EndsData). MayGo sky.settings one.seat.night (ends_there sky.settings sky.nights one.seat) other.seat.night d) q.ends (subst (λ (d : EndsData). MayGo sky.settings one.seat.night d other.seat.night other.ends) p.ends may);
}

three_may : (sky : SkyData) (item a b : ℕ) (pair : ℕ × ℕ) → pair ≡ ordered a b → ¬ (a ≡ b) → MayMeet sky item a → MayMeet sky item b → MayMeet sky a b → MayMeet sky b a → MayBeOfOne sky item pair
three_may sky item a b pair is differ first second both back = elim (cases_lt a b) [
  | inl l ↦ subst (MayBeOfOne sky item) (sym (is ∙ ordered_less a b l)) (made a b l first second both)
  | inr g ↦ subst (MayBeOfOne sky item) (sym (is ∙ ordered_more a b g)) (made b a (below a b g differ) second first back)
]
  where
    made : (a b : ℕ) → a < b → MayMeet sky item a → MayMeet sky item b → MayMeet sky a b → MayBeOfOne sky item (a, b)
    made a b l f s t = record { rising = l; first = f; second = s; both = t }

    below : (a b : ℕ) → b ≤ a → ¬ (a ≡ b) → b < a
    below a b g differ = elim (cases_lt b a) [ inl l ↦ l | inr h ↦ absurd (differ (omega (arith, g, h))) ]

tested_may : (sky : SkyData) (item : Partner) (partners : List Partner) (pair : ℕ × ℕ) → IsPartner sky item → ArePartners sky item partners → IsTestedAmong sky partners pair → MayBeOfOne sky item.number pair
tested_may sky item partners pair is ps h =
    let t = two_tested sky partners pair ps.different h in
    let one = ps.each t.one t.has_one in
    let other = ps.each t.other t.has_other in
    three_may sky item.number t.one.number t.other.number pair t.are.is t.differ
    (meet sky item t.one is one.is one.may) (meet sky item t.other is other.is other.may) (meet sky t.one t.other one.is other.is t.are.may)
    (meet sky t.other t.one other.is one.is (turned sky.settings t.one.seat.night t.other.seat.night t.one.ends t.other.ends t.are.may))

pub paid_by_triples : (sky : SkyData) (item : Partner) (partners : List Partner) (before after : ℕ) → IsPartner sky item → ArePartners sky item partners → IsPaid (IsTestedAmong sky partners) 1 0 before after → IsPaid (MayBeOfOne sky item.number) 1 0 before after
paid_by_triples sky item partners before after is ps p = paid_as (IsTestedAmong sky partners) (MayBeOfOne sky item.number) 1 0 0 before after (λ pair h. tested_may sky item partners pair is ps h) (omega arith) p

-- ---- one item after the other
abbrev triple_of : ℕ → ℕ × ℕ → ℕ × (ℕ × ℕ)
triple_of item pair = (item, pair)

different_triples : (item : ℕ) (pairs : List (ℕ × ℕ)) → AreDifferent pairs → AreDifferent (map (triple_of item) pairs)
different_triples item [] d = tt
different_triples item (pair ∷ pairs) d = (
  λ c. (let w = of_mapped (triple_of item) pairs (item, pair) c in d.0 (subst (Contains pairs) (ap (λ (t : ℕ × (ℕ × ℕ)). t.1) w.2) w.1)),
  different_triples item pairs d.1,
)

sum_of_both : (m n p q k l cost first second third fourth : ℕ) → k ≡ m + n → l ≡ p + q → Rises (m + cost * p) first second → Rises (0 + 1 * n) second third → Rises (0 + cost * q) third fourth → Rises (k + cost * l) first fourth
sum_of_both m n p q k l cost first second third fourth e f a b c =
    let product : cost * (p + q) ≡ cost * p + cost * q = grind arith in
    let one : Rises ((m + cost * p) + n) first third = rises_then (m + cost * p) (0 + 1 * n) ((m + cost * p) + n) first second third a b (omega arith) in
    rw (e, f) (rises_then ((m + cost * p) + n) (0 + cost * q) ((m + n) + cost * (p + q)) first third fourth one c (omega (arith, product)))

-- what one item more costs, where it is none of those before
pub both_more : (sky : SkyData) (items : List ℕ) (item cost first second third fourth : ℕ) → ¬ Contains items item → IsPaidByBoth sky items cost first second → IsPaid (MayBeOfOne sky item) 1 0 second third → IsPaid (IsFittingWith (FitsWithParts sky) item items) cost 0 third fourth → IsPaidByBoth sky (items ++ item ∷ []) cost first fourth
both_more sky items item cost first second third fourth new b p q =
    let more : List (ℕ × (ℕ × ℕ)) = map (triple_of item) p.payers in
    let size : length (map (triple_of item) p.payers) ≡ length p.payers = length-map p.payers (triple_of item) in
    let triples : length (b.triples ++ map (triple_of item) p.payers) ≡ length b.triples + length p.payers = length-append b.triples (map (triple_of item) p.payers) ∙ ap (λ n. length b.triples + n) size in
    let sets : length (b.sets ++ q.payers) ≡ length b.sets + length q.payers = length-append b.sets q.payers in
    record {
      triples = b.triples ++ map (triple_of item) p.payers;
      sets = b.sets ++ q.payers;
      different_triples = different_append b.triples (map (triple_of item) p.payers) b.different_triples (different_triples item p.payers p.different) (λ triple c d. new (subst (λ (t : ℕ × (ℕ × ℕ)). Contains items t.0) (sym (of_mapped (triple_of item) p.payers triple d).2) (b.each_triple triple c).0));
      different_sets = different_append b.sets q.payers b.different_sets q.different (λ set c d. (let w = (b.each_set set c).1 in (q.each set d).free w.0 w.1 w.2));
      each_triple = λ triple c. elim (Contains-append_cases b.triples (map (triple_of item) p.payers) triple c) [
        | inl d ↦ (let w = b.each_triple triple d in (Contains-append_left items (item ∷ []) triple.0 w.0, w.1))
        | inr d ↦ (let w = of_mapped (triple_of item) p.payers triple d in subst (IsTriple sky (items ++ item ∷ [])) w.2 (Contains-push items item, p.each w.0 w.1))
      ];
      each_set = λ set c. elim (Contains-append_cases b.sets q.payers set c) [
        | inl d ↦ (let w = b.each_set set d in (w.0, (w.1.0, Contains-append_left items (item ∷ []) w.1.0 w.1.1, w.1.2), w.2))
        | inr d ↦ (let w = q.each set d in (w.fits, (item, Contains-push items item, w.has), w.large))
      ];
      rises = sum_of_both (length b.triples) (length p.payers) (length b.sets) (length q.payers) (length (b.triples ++ map (triple_of item) p.payers)) (length (b.sets ++ q.payers)) cost first second third fourth triples sets b.rises p.rises q.rises;
    }

-- nothing is paid for no items
pub both_none : (sky : SkyData) (cost count : ℕ) → IsPaidByBoth sky [] cost count count
both_none sky cost count = record {
  triples = [];
  sets = [];
  different_triples = tt;
  different_sets = tt;
  each_triple = λ triple c. absurd (in_none triple c);
  each_set = λ set c. absurd (in_none set c);
  rises = record { no_less = omega arith; few = omega arith };
}

-- the same of more items
pub both_as : (sky : SkyData) (items others : List ℕ) (cost before after : ℕ) → ((x : ℕ) → Contains items x → Contains others x) → IsPaidByBoth sky items cost before after → IsPaidByBoth sky others cost before after
both_as sky items others cost before after inside b = record {
  triples = b.triples;
  sets = b.sets;
  different_triples = b.different_triples;
  different_sets = b.different_sets;
  each_triple = λ triple c. (let w = b.each_triple triple c in (inside triple.0 w.0, w.1));
  each_set = λ set c. (let w = b.each_set set c in (w.0, (w.1.0, inside w.1.0 w.1.1, w.1.2), w.2));
  rises = b.rises;
}

-- for any lists
pub both_bounded : (sky : SkyData) (items : List ℕ) (before after : ℕ) → ((numbers : List ℕ) → HasAllWithOne sky items numbers → IsPaidByBoth sky items (length numbers) before after) → IsBounded sky items before after
both_bounded sky items before after paid numbers triples sets all each_triple each_set =
    let b = paid numbers all in
    let few = b.rises.few in
    let m : length b.triples ≤ length triples = no_longer b.triples triples b.different_triples (λ triple c. each_triple triple (b.each_triple triple c)) in
    let n : length b.sets ≤ length sets = no_longer b.sets sets b.different_sets (λ set c. each_set set (b.each_set set c)) in
    let product : length numbers * length b.sets ≤ length numbers * length sets = mul-le-mul_left (length numbers) n in
    omega arith

pub bounded_none : (sky : SkyData) (items : List ℕ) (count : ℕ) → IsBounded sky items count count
bounded_none sky items count numbers triples sets all each_triple each_set = omega arith

pub bounded_as : (sky : SkyData) (items others : List ℕ) (before after : ℕ) → ((x : ℕ) → Contains items x → Contains others x) → IsBounded sky items before after → IsBounded sky others before after
bounded_as sky items others before after inside b numbers triples sets all each_triple each_set =
    b numbers triples sets
    (λ set fits w. all set fits (w.0, inside w.0 w.1, w.2))
    (λ triple w. each_triple triple (inside triple.0 w.0, w.1))
    (λ set w. each_set set (w.0, (w.1.0, inside w.1.0 w.1.1, w.1.2), w.2))

-- some numbers have both of each fitting pair around one of the items
pub both_of_pairs : (sky : SkyData) (items : List ℕ) (item : ℕ) (pairs : List (ℕ × ℕ)) (numbers : List ℕ) → Contains items item → AreFittingPairs (FitsWithParts sky) item pairs → HasAllWithOne sky items numbers → HasBothOfEach pairs numbers
both_of_pairs sky items item pairs numbers c fitting all = λ k d l.
    let pair : ℕ × ℕ = get_or pairs k d in
    let f = ((fitting (get_or pairs k d)).0 (Contains-get_or pairs k d l)).fit in
    let three : List ℕ = item ∷ (get_or pairs k d).0 ∷ (get_or pairs k d).1 ∷ [] in
    let inside = all f.whole f.fits (item, c, among (item ∷ (get_or pairs k d).0 ∷ (get_or pairs k d).1 ∷ []) f.whole item f.has (in_front item ((get_or pairs k d).0 ∷ (get_or pairs k d).1 ∷ []))) in (
      among f.whole numbers (get_or pairs k d).0 inside (among (item ∷ (get_or pairs k d).0 ∷ (get_or pairs k d).1 ∷ []) f.whole (get_or pairs k d).0 f.has (in_rest item ((get_or pairs k d).0 ∷ (get_or pairs k d).1 ∷ []) (get_or pairs k d).0 (in_front (get_or pairs k d).0 ((get_or pairs k d).1 ∷ [])))),
      among f.whole numbers (get_or pairs k d).1 inside (among (item ∷ (get_or pairs k d).0 ∷ (get_or pairs k d).1 ∷ []) f.whole (get_or pairs k d).1 f.has (in_rest item ((get_or pairs k d).0 ∷ (get_or pairs k d).1 ∷ []) (get_or pairs k d).1 (in_rest (get_or pairs k d).0 ((get_or pairs k d).1 ∷ []) (get_or pairs k d).1 (in_front (get_or pairs k d).1 [])))),
    )

-- the next item of a set
pub both_next : (sky : SkyData) (items : List ℕ) (place cost first second third fourth : ℕ) → IsSet items → place < length items → IsPaidByBoth sky (take place items) cost first second → IsPaid (MayBeOfOne sky (get_or items place 0)) 1 0 second third →
    IsPaid (IsFittingWith (FitsWithParts sky) (get_or items place 0) (take place items)) cost 0 third fourth → IsPaidByBoth sky (take (place + 1) items) cost first fourth
both_next sky items place cost first second third fourth is_set l b p q =
    let new : ¬ Contains (take place items) (get_or items place 0) = λ c. (let less = earlier_below items place (get_or items place 0) 0 (rising items is_set) l c in omega (arith, less)) in
    subst (λ list. IsPaidByBoth sky list cost first fourth) (sym (take_more items place 0 l)) (both_more sky (take place items) (get_or items place 0) cost first second third fourth new b p q)

-- what the items before a place cost, is paid by all
pub both_of_front : (sky : SkyData) (items : List ℕ) (place cost before after : ℕ) → IsPaidByBoth sky (take place items) cost before after → IsPaidByBoth sky items cost before after
both_of_front sky items place cost before after b = both_as sky (take place items) items cost before after (λ x c. subst (λ list. Contains list x) (take-append-drop place items) (Contains-append_left (take place items) (drop place items) x c)) b

-- the next item, of which no set is sought
pub both_tested : (sky : SkyData) (items : List ℕ) (place cost first second third : ℕ) → IsSet items → place < length items → IsPaidByBoth sky (take place items) cost first second → IsPaid (MayBeOfOne sky (get_or items place 0)) 1 0 second third → IsPaidByBoth sky (take (place + 1) items) cost first third
both_tested sky items place cost first second third is_set l b p = both_next sky items place cost first second third third is_set l b p (paid_none (IsFittingWith (FitsWithParts sky) (get_or items place 0) (take place items)) cost third third refl)

-- what holds while items are left
pub record AreGrownSoFar (sky : SkyData) (items : List ℕ) (place : ℕ) (found : List (List ℕ)) (before after : ℕ) : Type 0 where
  pub grown : AreGrown sky (take place items) found
  pub paid : (numbers : List ℕ) → HasAllWithOne sky items numbers → IsPaidByBoth sky (take place items) (length numbers) before after

pub none_so_far : (sky : SkyData) (items : List ℕ) (count : ℕ) → AreGrownSoFar sky items 0 [] count count
none_so_far sky items count = record { grown = grown_none sky; paid = λ numbers all. both_none sky (length numbers) count }
