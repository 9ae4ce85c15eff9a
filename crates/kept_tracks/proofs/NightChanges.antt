-- A night that is built anew: the nights before and after it.
use Rattle.std.proofs.Common.{Bool, ◌≡◌, ◌⊎◌, ℤ, ◌<ℤ◌, Some, None, List, [], ◌∷◌, get_or, inl, inr, refl, sym, subst, ap, ◌∙◌, arith}
use Rattle.std.proofs.lemmas.Bool.{cases_order}
use Rattle.std.proofs.lemmas.Bool.Decides.{Decides-int_eq}
use Rattle.std.proofs.lemmas.Int.{ints}
use Rattle.std.proofs.lemmas.List.{get_or_default}
use Rattle.std.specs.List.{Contains, find}
use Rattle.std.specs.Option.{option_map_or}
use Rattle.std.specs.Ordering.{int_eq}
use Rattle.std.specs.declared.option.Option.{Option}
use Rattle.kept_nights.proofs.Renewal.{OfOther, come_from, rise_all}
use Rattle.kept_nights.proofs.WithNight.{with_members}
use Rattle.kept_nights.specs.KeptNights.{RiseByNumber, with_night}
use Rattle.kept_nights.specs.Renewed.{with_nights}
use Rattle.night_tree.specs.Nights.{NightData}
use Rattle.plain_tracks.proofs.Members.{found_in, none_in}
use Rattle.set_grow.proofs.Members.{in_front, in_none, in_rest}
use Rattle.sky_units.specs.TrackletData.{NightTracklets, TrackletData}
use Rattle.tracklet_register.specs.Registers.{DifferAt}
use Rattle.kept_tracks.specs.KeptFor.{HaveNone}
use Rattle.kept_tracks.specs.Stages.{tracklets_of_night}

-- ---- the tracklets of the night of a number
-- whether a night has a number
abbrev has_number : ℤ → NightData → Bool
has_number number night = int_eq night.number number

pub record IsFound (nights : List NightData) (number : ℤ) : Type 0 where
  pub night : NightData
  pub there : Contains nights night
  pub is : night.number ≡ number
  pub tracklets : tracklets_of_night nights number ≡ night.tracklets

pub record IsNotFound (nights : List NightData) (number : ℤ) : Type 0 where
  pub none : HaveNone nights number
  pub tracklets : tracklets_of_night nights number ≡ []

pub found_or_none : (nights : List NightData) (number : ℤ) → IsFound nights number ⊎ IsNotFound nights number
found_or_none nights number = by_cases (find (has_number number) nights) refl where
  by_cases : (found : Option NightData) → find (has_number number) nights ≡ found → IsFound nights number ⊎ IsNotFound nights number
  by_cases None e = inr (record {
    none = λ night c is. none_in (has_number number) nights night e c ((Decides-int_eq night.number number).1 is);
    tracklets = ap (λ (o : Option NightData). option_map_or (λ (night : NightData). night.tracklets) o []) e;
  })
  by_cases (Some night) e =
      let w = found_in (has_number number) nights night e in
      inl (record {
        night = night;
        there = w.0;
        is = (Decides-int_eq night.number number).0 w.1;
        tracklets = ap (λ (o : Option NightData). option_map_or (λ (night : NightData). night.tracklets) o []) e;
      })

-- two kept nights of one number are one
one_night : (nights : List NightData) (one other : NightData) → RiseByNumber nights → Contains nights one → Contains nights other → one.number ≡ other.number → one ≡ other
one_night nights one other rise c d same = elim (cases_order c.0 d.0) [
  | inl e ↦ sym c.2 ∙ (ap (λ i. get_or nights i one) e ∙ at_other)
  | inr w ↦ elim w [
    | inl less ↦ (let before : (get_or nights c.0 one).number <ℤ (get_or nights d.0 one).number = rise c.0 d.0 one less d.1 in absurd (omega (arith, ints, before, first, second, same)))
    | inr more ↦ (let before : (get_or nights d.0 one).number <ℤ (get_or nights c.0 one).number = rise d.0 c.0 one more c.1 in absurd (omega (arith, ints, before, first, second, same)))
  ]
]
  where
    at_other : get_or nights d.0 one ≡ other
    at_other = get_or_default nights d.0 one other d.1 ∙ d.2

    first : (get_or nights c.0 one).number ≡ one.number
    first = ap (λ (n : NightData). n.number) c.2

    second : (get_or nights d.0 one).number ≡ other.number
    second = ap (λ (n : NightData). n.number) at_other

found_tracklets : (nights : List NightData) (number : ℤ) (kept : NightData) → RiseByNumber nights → kept.number ≡ number → Contains nights kept → kept.tracklets ≡ tracklets_of_night nights number
found_tracklets nights number kept rise same c = elim (found_or_none nights number) [
  | inl f ↦ ap (λ (n : NightData). n.tracklets) (one_night nights kept f.night rise c f.there (same ∙ sym f.is)) ∙ sym f.tracklets
  | inr n ↦ absurd (n.none kept c same)
]

none_found : (nights : List NightData) (number : ℤ) → HaveNone nights number → tracklets_of_night nights number ≡ []
none_found nights number none = elim (found_or_none nights number) [
  | inl f ↦ absurd (none f.night f.there f.is)
  | inr n ↦ n.tracklets
]

-- ---- the nights before and after it
module _ (nights : List NightData) (night : NightData) (rise : RiseByNumber nights) where
  in_new : Contains (with_night night nights) night
  in_new = (with_members night nights night).1 (inl refl)

  in_found : (tracklet : TrackletData) → Contains (tracklets_of_night nights night.number) tracklet → (kept : NightData) × Contains nights kept × (kept.number ≡ night.number)
  in_found tracklet c = elim (found_or_none nights night.number) [
    | inl f ↦ (f.night, f.there, f.is)
    | inr n ↦ absurd (in_none tracklet (subst (λ list. Contains list tracklet) n.tracklets c))
  ]

  differ_at : DifferAt night.number (tracklets_of_night nights night.number) night.tracklets nights (with_night night nights)
  differ_at = record {
    stay = λ kept differ c. (with_members night nights kept).1 (inr (c, differ));
    stood = λ kept differ c. elim ((with_members night nights kept).0 c) [ inl e ↦ absurd (differ (ap (λ (n : NightData). n.number) (sym e))) | inr w ↦ w.0 ];
    was = λ kept same c. found_tracklets nights night.number kept rise same c;
    is = λ kept same c. elim ((with_members night nights kept).0 c) [ inl e ↦ ap (λ (n : NightData). n.tracklets) (sym e) | inr w ↦ absurd (w.1 same) ];
    had = in_found;
    has = λ tracklet c. (night, in_new, refl);
  }

-- ---- the same where others were put among them
pub stays_in : (more nights : List NightData) (x : NightData) → Contains nights x → OfOther more x → Contains (with_nights more nights) x
stays_in [] nights x c other = c
stays_in (night ∷ more) nights x c other =
    (with_members night (with_nights more nights) x).1 (inr (stays_in more nights x c (λ kept d. other kept (in_rest night more kept d)), other night (in_front night more)))

same_tracklets : (more nights : List NightData) (number : ℤ) → RiseByNumber nights → HaveNone more number → tracklets_of_night (with_nights more nights) number ≡ tracklets_of_night nights number
same_tracklets more nights number rise fresh = elim (found_or_none nights number) [
  | inl f ↦
      let there : Contains (with_nights more nights) f.night = stays_in more nights f.night f.there (λ other c same. fresh other c (sym same ∙ f.is)) in
      sym (found_tracklets (with_nights more nights) number f.night (rise_all more nights rise) f.is there) ∙ sym f.tracklets
  | inr n ↦
      none_found (with_nights more nights) number (λ kept c same. elim (come_from more nights kept c) [ inl d ↦ fresh kept d same | inr w ↦ n.none kept w.0 same ]) ∙ sym n.tracklets
]

pub differ_among : (more nights : List NightData) (night : NightData) → RiseByNumber nights → HaveNone more night.number
    → DifferAt night.number (tracklets_of_night nights night.number) night.tracklets (with_nights more nights) (with_night night (with_nights more nights))
differ_among more nights night rise fresh =
    subst (λ (list : NightTracklets). DifferAt night.number list night.tracklets (with_nights more nights) (with_night night (with_nights more nights))) (same_tracklets more nights night.number rise fresh)
    (differ_at (with_nights more nights) night (rise_all more nights rise))
