-- The partners of an item are found one place after the other; they are other numbers, and all that fit together with it.
use Rattle.std.proofs.Common.{◌≡◌, ℕ, ◌+◌, ◌<◌, Bool, true, false, cond, Some, List, [], ◌∷◌, ◌++◌, length, get_or, IsTrue, refl, sym, subst, ap, ◌∙◌, ◌↔◌, arith}
use Rattle.std.proofs.lemmas.Bool.{cases_order, false≢true}
use Rattle.std.proofs.lemmas.List.{append-nil, get_or-map, length-map, map-append}
use Rattle.std.proofs.lemmas.List.Elements.{Contains-append_left, Contains-push, Contains-push_cases}
use Rattle.std.proofs.lemmas.Option.{slice_get-get_or, slice_get_within}
use Rattle.std.specs.List.{All, Contains, slice_get}
use mathlib.Core.Logic.{◌⊎◌, inl, inr}
use Rattle.closed_sets.specs.Around.{FitTogether}
use Rattle.closed_sets.specs.Counting.{AreDifferent}
use Rattle.sky_units.specs.Arcs.{IsArc}
use Rattle.sky_units.specs.Motion.{Fits}
use Rattle.sky_units.specs.SettingsData.{SettingsData}
use Rattle.sky_units.specs.SpotData.{SpotData}
use Rattle.sky_units.specs.TrackletData.{IsTracklet}
use Rattle.bound_prune.specs.EndsData.{EndsData}
use Rattle.bound_prune.proofs.OwnBoxes.{own_may}
use Rattle.set_grow.specs.Ends.{MayGo, ends_at, ends_in, ends_there}
use Rattle.set_grow.specs.Nights.{AreInPlace, NumberedNightData, by_night}
use Rattle.set_grow.specs.Numbered.{NumberedTracklet, NumberedTracklets, numbers_in, tracklets_in, without_numbers}
use Rattle.set_grow.specs.Partners.{ArePartners, HoldPartners, IsPartner, IsPartnerOf, IsPassed, partner_numbers, partner_of}
use Rattle.set_grow.specs.Seats.{HasNoSeat, IsSeatOf, one_at}
use Rattle.set_grow.specs.SkyData.{FitsWithParts, SkyData}
use Rattle.set_grow.specs.declared.partners.Partner.{Partner}
use Rattle.set_grow.specs.declared.seats.Seat.{Seat}
use Rattle.set_grow.proofs.Chosen.{chosen_in}
use Rattle.set_grow.proofs.Members.{among, each_among, front_or_rest, in_front, in_mapped, in_none, in_rest, of_mapped}
use Rattle.set_grow.proofs.Seating.{none_sharing, none_unseated, of_place, one_at_is, one_seat, seat_in, some_same}
use Rattle.set_grow.proofs.Together.{fewer, seats_of_two, together_there}

abbrev number_of : Partner → ℕ
number_of partner = partner.number

-- ---- what fits together may be of one object
-- the tracklet at a seat is one
tracklet_at : (sky : SkyData) (number : ℕ) (seat : Seat) → AreInPlace sky.nights sky.table → IsSeatOf sky.nights number seat → IsTracklet (one_at sky.nights seat).tracklet
tracklet_at sky number seat p w =
    let night : Contains (tracklets_in (by_night sky.nights)) (without_numbers w.night.tracklets) = in_mapped without_numbers (by_night sky.nights) w.night.tracklets (in_mapped (λ (n : NumberedNightData). n.tracklets) sky.nights w.night (of_place sky.nights seat.night w.night w.at_night)) in
    let one : Contains (without_numbers w.night.tracklets) w.one.tracklet = in_mapped (λ (o : NumberedTracklet). o.tracklet) w.night.tracklets w.one (of_place w.night.tracklets seat.place w.one w.at_place) in
    let each : All IsTracklet (without_numbers w.night.tracklets) = member (All IsTracklet) (tracklets_in (by_night sky.nights)) (without_numbers w.night.tracklets) p.in_time.tracklets night in
    subst (λ (o : NumberedTracklet). IsTracklet o.tracklet) (sym (one_at_is sky.nights number seat w)) (member IsTracklet (without_numbers w.night.tracklets) w.one.tracklet each one)
  where
    member : {X : Type 0} → (P : X → Type 0) (xs : List X) (x : X) → All P xs → Contains xs x → P x
    member P xs x all c = subst P c.2 (all c.0 x c.1)

follow : (sky : SkyData) (a b : ℕ) (s t : Seat) → AreInPlace sky.nights sky.table → IsSeatOf sky.nights a s → IsSeatOf sky.nights b t → s.night < t.night → FitTogether (FitsWithParts sky) (a ∷ b ∷ []) → MayGo sky.settings s.night (ends_there sky.settings sky.nights s) t.night (ends_there sky.settings sky.nights t)
follow sky a b s t p v w later f =
    let fit = (together_there sky (a ∷ b ∷ []) (s ∷ t ∷ []) p (seats_of_two sky.nights a b s t v w later)).1 f in
    let arc : IsArc ((one_at sky.nights s).tracklet ++ (one_at sky.nights t).tracklet) = subst (λ (last : List SpotData). IsArc ((one_at sky.nights s).tracklet ++ last)) (append-nil (one_at sky.nights t).tracklet) fit.0 in
    let fits : Fits sky.settings ((one_at sky.nights s).tracklet ++ (one_at sky.nights t).tracklet) = subst (λ (last : List SpotData). Fits sky.settings ((one_at sky.nights s).tracklet ++ last)) (append-nil (one_at sky.nights t).tracklet) fit.1 in
    inl (later, own_may sky.settings (one_at sky.nights s).tracklet (one_at sky.nights t).tracklet (tracklet_at sky a s p v) (tracklet_at sky b t p w) arc fits)

pub turned : (settings : SettingsData) (m n : ℕ) (d e : EndsData) → MayGo settings m d n e → MayGo settings n e m d
turned settings m n d e (inl h) = inr h
turned settings m n d e (inr h) = inl h

abbrev TwoOf : ℕ → ℕ → List ℕ
TwoOf a b = a ∷ b ∷ []

swapped : (a b : ℕ) → (x : ℕ) → Contains (TwoOf b a) x → Contains (TwoOf a b) x
swapped a b x c = elim (front_or_rest b (a ∷ []) x c) [
  | inl e ↦ subst (Contains (TwoOf a b)) e (in_rest a (b ∷ []) b (in_front b []))
  | inr d ↦ elim (front_or_rest a [] x d) [ inl e ↦ subst (Contains (TwoOf a b)) e (in_front a (b ∷ [])) | inr n ↦ absurd (in_none x n) ]
]

pub fit_may : (sky : SkyData) (a b : ℕ) (s t : Seat) → AreInPlace sky.nights sky.table → IsSeatOf sky.nights a s → IsSeatOf sky.nights b t → ¬ (a ≡ b) → FitTogether (FitsWithParts sky) (a ∷ b ∷ []) → MayGo sky.settings s.night (ends_there sky.settings sky.nights s) t.night (ends_there sky.settings sky.nights t)
fit_may sky a b s t p v w differ f = elim (cases_order s.night t.night) [
  | inl same ↦ absurd (none_sharing sky.nights sky.table f.whole f.fits.fits.tracklets a b s t p
      (among (a ∷ b ∷ []) f.whole a f.has (in_front a (b ∷ []))) (among (a ∷ b ∷ []) f.whole b f.has (in_rest a (b ∷ []) b (in_front b [])))
      differ v w same f.fits.fits.are)
  | inr d ↦ elim d [
    | inl less ↦ follow sky a b s t p v w less f
    | inr more ↦ turned sky.settings t.night s.night (ends_there sky.settings sky.nights t) (ends_there sky.settings sky.nights s)
        (follow sky b a t s p w v more (fewer (FitsWithParts sky) (TwoOf a b) (TwoOf b a) (each_among (TwoOf b a) (TwoOf a b) (swapped a b)) f))
  ]
]

-- two in one night may not
pub not_beside : (settings : SettingsData) (m n : ℕ) (d e : EndsData) → MayGo settings m d n e → ¬ (m ≡ n)
not_beside settings m n d e (inl h) = λ same. (let l = h.0 in omega (arith, l, same))
not_beside settings m n d e (inr h) = λ same. (let l = h.0 in omega (arith, l, same))

-- ---- one place more
different_push : (xs : List ℕ) (x : ℕ) → AreDifferent xs → ¬ Contains xs x → AreDifferent (xs ++ x ∷ [])
different_push [] x d fresh = (λ c. in_none x c, tt)
different_push (y ∷ xs) x d fresh = (
  λ c. elim (Contains-push_cases xs x y c) [ inl k ↦ d.0 k | inr e ↦ fresh (subst (Contains (y ∷ xs)) (sym e) (in_front y xs)) ],
  different_push xs x d.1 (λ c. fresh (in_rest y xs x c)),
)

abbrev seat_at : ℕ → ℕ → Seat
seat_at night place = record { night = night; place = place }

later_place : (night place : ℕ) (seat : Seat) → IsPassed night place seat → IsPassed night (place + 1) seat
later_place night place seat (inl l) = inl l
later_place night place seat (inr w) = inr (w.0, let l = w.1 in omega (arith, l))

-- a number that is already among them stands elsewhere
unseen : (sky : SkyData) (item : Partner) (night place number : ℕ) (partners : List Partner) → AreInPlace sky.nights sky.table → IsSeatOf sky.nights number (seat_at night place) → HoldPartners sky item night place partners → ¬ Contains (partner_numbers partners) number
unseen sky item night place number partners p w h = λ c.
    let partner = of_mapped number_of partners number c in
    let v : IsSeatOf sky.nights number partner.0.seat = subst (λ n. IsSeatOf sky.nights n partner.0.seat) partner.2 (h.each partner.0 partner.1).is.seat in
    let same = one_seat sky.nights sky.table number partner.0.seat (seat_at night place) p v w in
    not_there night place partner.0.seat (h.passed partner.0 partner.1) same.0 same.1
  where
    not_there : (night place : ℕ) (seat : Seat) → IsPassed night place seat → seat.night ≡ night → seat.place ≡ place → ⊥
    not_there night place seat (inl l) e f = absurd (omega (arith, l, e))
    not_there night place seat (inr k) e f = (let l = k.1 in absurd (omega (arith, l, f)))

-- a seat before the next place stands before this one, or there
old_or_new : (night place : ℕ) (seat : Seat) → IsPassed night (place + 1) seat → IsPassed night place seat ⊎ (seat ≡ seat_at night place)
old_or_new night place seat (inl l) = inl (inl l)
old_or_new night place seat (inr w) = elim (cases_order seat.place place) [
  | inl e ↦ inr (same_seat seat.night seat.place night place w.0 e)
  | inr d ↦ elim d [
    | inl l ↦ inl (inr (w.0, l))
    | inr g ↦ (let k = w.1 in absurd (omega (arith, g, k)))
  ]
]
  where
    same_seat : (a b c d : ℕ) → a ≡ c → b ≡ d → seat_at a b ≡ seat_at c d
    same_seat a b c d e f = rw (e, f) refl

-- one number stands at a seat
one_number : (nights : List NumberedNightData) (a b : ℕ) (seat : Seat) → IsSeatOf nights a seat → IsSeatOf nights b seat → a ≡ b
one_number nights a b seat v w =
    let night : v.night ≡ w.night = some_same v.night w.night (sym v.at_night ∙ w.at_night) in
    let one : v.one ≡ w.one = some_same v.one w.one (sym v.at_place ∙ (ap (λ (n : NumberedNightData). slice_get n.tracklets seat.place) night ∙ w.at_place)) in
    sym v.is ∙ (ap (λ (o : NumberedTracklet). o.num) one ∙ w.is)

pushed : (partners : List Partner) (new : Partner) (number : ℕ) → Contains (partner_numbers partners) number → Contains (partner_numbers (partners ++ new ∷ [])) number
pushed partners new number c = subst (λ list. Contains list number) (sym (map-append number_of partners (new ∷ []))) (Contains-append_left (partner_numbers partners) (new.number ∷ []) number c)

-- the partner at a place, where it is wanted
pub partners_more : (sky : SkyData) (item : Partner) (night place number : ℕ) (ends : EndsData) (wanted : Bool) (partners : List Partner) → AreInPlace sky.nights sky.table → IsSeatOf sky.nights number (seat_at night place) → ends ≡ ends_there sky.settings sky.nights (seat_at night place) →
    IsTrue wanted ↔ MayGo sky.settings item.seat.night item.ends night ends → HoldPartners sky item night place partners → HoldPartners sky item night (place + 1) (cond wanted (partners ++ partner_of number (seat_at night place) ends ∷ []) partners)
partners_more sky item night place number ends true partners p w e says h =
    record {
      different = subst AreDifferent (sym (map-append number_of partners (partner_of number (seat_at night place) ends ∷ []))) (different_push (partner_numbers partners) number h.different (unseen sky item night place number partners p w h));
      each = λ partner c. elim (Contains-push_cases partners (partner_of number (seat_at night place) ends) partner c) [
        | inl d ↦ h.each partner d
        | inr s ↦ subst (IsPartnerOf sky item) s (record { is = record { seat = w; ends = e }; may = says.0 refl })
      ];
      passed = λ partner c. elim (Contains-push_cases partners (partner_of number (seat_at night place) ends) partner c) [
        | inl d ↦ later_place night place partner.seat (h.passed partner d)
        | inr s ↦ subst (λ (q : Partner). IsPassed night (place + 1) q.seat) s (inr (refl, omega arith))
      ];
      complete = λ other seat v before may. elim (old_or_new night place seat before) [
        | inl old ↦ pushed partners (partner_of number (seat_at night place) ends) other (h.complete other seat v old may)
        | inr now ↦
            let there : IsSeatOf sky.nights other (seat_at night place) = subst (IsSeatOf sky.nights other) now v in
            let same : number ≡ other = one_number sky.nights number other (seat_at night place) w there in
            subst (Contains (partner_numbers (partners ++ partner_of number (seat_at night place) ends ∷ []))) same (in_mapped number_of (partners ++ partner_of number (seat_at night place) ends ∷ []) (partner_of number (seat_at night place) ends) (Contains-push partners (partner_of number (seat_at night place) ends)))
      ];
    }
partners_more sky item night place number ends false partners p w e says h = record {
  different = h.different;
  each = h.each;
  passed = λ partner c. later_place night place partner.seat (h.passed partner c);
  complete = λ other seat v before may. elim (old_or_new night place seat before) [
    | inl old ↦ h.complete other seat v old may
    | inr now ↦
        let here : MayGo sky.settings item.seat.night item.ends night (ends_there sky.settings sky.nights (seat_at night place)) = subst (λ (s : Seat). MayGo sky.settings item.seat.night item.ends s.night (ends_there sky.settings sky.nights s)) now may in
        absurd (false≢true (says.1 (subst (λ (d : EndsData). MayGo sky.settings item.seat.night item.ends night d) (sym e) here)))
  ];
}

-- ---- one night more
-- none stands at a place behind a night's last one
within_night : (nights : List NumberedNightData) (number night : ℕ) (about : NumberedNightData) (seat : Seat) → slice_get nights night ≡ Some about → IsSeatOf nights number seat → IsPassed (night + 1) 0 seat → IsPassed night (length about.tracklets) seat
within_night nights number night about seat at w (inl l) = elim (cases_order seat.night night) [
  | inl e ↦
      let same : w.night ≡ about = some_same w.night about (sym w.at_night ∙ (ap (slice_get nights) e ∙ at)) in
      inr (e, subst (λ (n : NumberedNightData). seat.place < length n.tracklets) same (slice_get_within w.night.tracklets seat.place w.one w.at_place))
  | inr d ↦ elim d [ inl less ↦ inl less | inr more ↦ absurd (omega (arith, l, more)) ]
]
within_night nights number night about seat at w (inr k) = (let l = k.1 in absurd (omega (arith, l)))

night_passed : (night place : ℕ) (seat : Seat) → IsPassed night place seat → IsPassed (night + 1) 0 seat
night_passed night place seat (inl l) = inl (omega (arith, l))
night_passed night place seat (inr w) = (let e = w.0 in inl (omega (arith, e)))

pub partners_next : (sky : SkyData) (item : Partner) (night : ℕ) (about : NumberedNightData) (partners : List Partner) → slice_get sky.nights night ≡ Some about → HoldPartners sky item night (length about.tracklets) partners → HoldPartners sky item (night + 1) 0 partners
partners_next sky item night about partners at h = record {
  different = h.different;
  each = h.each;
  passed = λ partner c. night_passed night (length about.tracklets) partner.seat (h.passed partner c);
  complete = λ number seat w before may. h.complete number seat w (within_night sky.nights number night about seat at w before) may;
}

-- ---- from none to all
pub partners_none : (sky : SkyData) (item : Partner) → HoldPartners sky item 0 0 []
partners_none sky item = record {
  different = tt;
  each = λ partner c. absurd (in_none partner c);
  passed = λ partner c. absurd (in_none partner c);
  complete = λ number seat w before may. absurd (nowhere seat before);
}
  where
    nowhere : (seat : Seat) → IsPassed 0 0 seat → ⊥
    nowhere seat (inl l) = absurd (omega (arith, l))
    nowhere seat (inr w) = (let l = w.1 in absurd (omega (arith, l)))

pub partners_all : (sky : SkyData) (item : Partner) (nights : ℕ) (partners : List Partner) → AreInPlace sky.nights sky.table → IsPartner sky item → nights ≡ length sky.nights → HoldPartners sky item nights 0 partners → ArePartners sky item partners
partners_all sky item nights partners p is e h = record {
  different = h.different;
  others = λ c.
      let partner = of_mapped number_of partners item.number c in
      let of = h.each partner.0 partner.1 in
      let v : IsSeatOf sky.nights item.number partner.0.seat = subst (λ n. IsSeatOf sky.nights n partner.0.seat) partner.2 of.is.seat in
      not_beside sky.settings item.seat.night partner.0.seat.night item.ends partner.0.ends of.may (sym (one_seat sky.nights sky.table item.number partner.0.seat item.seat p v is.seat).0);
  each = h.each;
  complete = λ number differ f.
      let f_in = f.fits.fits in
      let one = of_mapped (λ (o : NumberedTracklet). o.num) f_in.are.chosen number (among f.whole (numbers_in f_in.are.chosen) number f_in.are.found (among (item.number ∷ number ∷ []) f.whole number f.has (in_rest item.number (number ∷ []) number (in_front number [])))) in
      let v = seat_in sky.nights one.0 (chosen_in (by_night sky.nights) f_in.are.chosen one.0 f_in.are.choice one.1) in
      let w : IsSeatOf sky.nights number v.0 = subst (λ n. IsSeatOf sky.nights n v.0) one.2 v.1 in
      let l : v.0.night < length sky.nights = slice_get_within sky.nights v.0.night w.night w.at_night in
      let may = fit_may sky item.number number item.seat v.0 p is.seat w (λ s. differ (sym s)) f in
      h.complete number v.0 w (inl (omega (arith, l, e))) (subst (λ (d : EndsData). MayGo sky.settings item.seat.night d v.0.night (ends_there sky.settings sky.nights v.0)) (sym is.ends) may);
}

-- no numbers fit together with one that has no seat
pub none_with : (sky : SkyData) (item : ℕ) (numbers : List ℕ) → HasNoSeat sky.nights item → Contains numbers item → ¬ FitTogether (FitsWithParts sky) numbers
none_with sky item numbers none c = λ f. none_unseated sky.nights f.whole item f.fits.fits.tracklets (among numbers f.whole item f.has c) none f.fits.fits.are

-- ---- what the code reads at a place
abbrev no_tracklet : NumberedTracklet
no_tracklet = record { num = 0; tracklet = [] }

pub ends_read : (settings : SettingsData) (tracklets : NumberedTracklets) (list : List EndsData) (place : ℕ) (ends : EndsData) → list ≡ ends_in settings (without_numbers tracklets) → place < length tracklets → ends ≡ get_or list place ends →
    ends ≡ ends_at settings (get_or tracklets place (record { num = 0; tracklet = [] })).tracklet
ends_read settings tracklets list place ends e l read =
    let k : length (without_numbers tracklets) ≡ length tracklets = length-map tracklets (λ (o : NumberedTracklet). o.tracklet) in
    read
    ∙ (ap (λ (xs : List EndsData). get_or xs place ends) e
    ∙ (get_or-map (ends_at settings) (without_numbers tracklets) place [] ends (omega (arith, l, k))
    ∙ ap (ends_at settings) (get_or-map (λ (o : NumberedTracklet). o.tracklet) tracklets place no_tracklet [] l)))

pub partners_step : (sky : SkyData) (item : Partner) (night place number : ℕ) (about : NumberedNightData) (ends : EndsData) (wanted : Bool) (old new : List Partner) → AreInPlace sky.nights sky.table → night < length sky.nights → about ≡ get_or sky.nights night about → place < length about.tracklets →
    number ≡ get_or (numbers_in about.tracklets) place 0 → ends ≡ ends_at sky.settings (get_or about.tracklets place (record { num = 0; tracklet = [] })).tracklet → IsTrue wanted ↔ MayGo sky.settings item.seat.night item.ends night ends → HoldPartners sky item night place old →
    new ≡ cond wanted (old ++ partner_of number (seat_at night place) ends ∷ []) old → HoldPartners sky item night (place + 1) new
partners_step sky item night place number about ends wanted old new p within is l read e says h made =
    let one : NumberedTracklet = get_or about.tracklets place (record { num = 0; tracklet = [] }) in
    let w : IsSeatOf sky.nights (get_or about.tracklets place (record { num = 0; tracklet = [] })).num (seat_at night place) = record {
      night = about;
      one = get_or about.tracklets place (record { num = 0; tracklet = [] });
      at_night = slice_get-get_or sky.nights night about within ∙ ap (λ (n : NumberedNightData). Some n) (sym is);
      at_place = slice_get-get_or about.tracklets place (record { num = 0; tracklet = [] }) l;
      is = refl;
    } in
    let named : number ≡ (get_or about.tracklets place (record { num = 0; tracklet = [] })).num = read ∙ get_or-map (λ (o : NumberedTracklet). o.num) about.tracklets place no_tracklet 0 l in
    let here : IsSeatOf sky.nights number (seat_at night place) = subst (λ n. IsSeatOf sky.nights n (seat_at night place)) (sym named) w in
    let there : ends ≡ ends_there sky.settings sky.nights (seat_at night place) = e ∙ ap (λ (o : NumberedTracklet). ends_at sky.settings o.tracklet) (sym (one_at_is sky.nights (get_or about.tracklets place (record { num = 0; tracklet = [] })).num (seat_at night place) w)) in
    subst (HoldPartners sky item night (place + 1)) (sym made) (partners_more sky item night place number ends wanted old p here there says h)

pub partners_end : (sky : SkyData) (item : Partner) (night place : ℕ) (about : NumberedNightData) (partners : List Partner) → night < length sky.nights → about ≡ get_or sky.nights night about → place ≡ length about.tracklets → HoldPartners sky item night place partners → HoldPartners sky item (night + 1) 0 partners
partners_end sky item night place about partners within is e h =
    partners_next sky item night about partners (slice_get-get_or sky.nights night about within ∙ ap (λ (n : NumberedNightData). Some n) (sym is)) (subst (λ n. HoldPartners sky item night n partners) e h)
