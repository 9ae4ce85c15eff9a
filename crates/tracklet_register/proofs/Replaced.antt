-- What a register is once the tracklets of a night are replaced.
use Rattle.std.proofs.Common.{◌≡◌, ℕ, ◌<◌, ◌≤◌, ◌^◌, ℤ, ◌<ℤ◌, Bool, true, false, Some, List, [], filter, ◌⊎◌, ◌↔◌, inl, inr, length, refl, sym, subst, ap, ◌∙◌, arith}
use Rattle.std.proofs.lemmas.Bool.{false≢true}
use Rattle.std.proofs.lemmas.Int.{by_lt_z, ints}
use Rattle.std.proofs.lemmas.Option.{slice_get-get_or, slice_get_within}
use Rattle.std.specs.List.{Contains, slice_get}
use Rattle.closed_sets.proofs.Lists.{in_or_not}
use Rattle.set_grow.proofs.Members.{in_none}
use Rattle.set_grow.specs.Nights.{numbered_by}
use Rattle.set_grow.specs.declared.places.Place.{Place}
use Rattle.sky_units.specs.TrackletData.{NightTracklets}
use Rattle.tracklet_register.proofs.Entries.{cut_gone, cut_kept, left_gone, left_kept, same_night}
use Rattle.tracklet_register.proofs.Lists.{at_place, of_place}
use Rattle.tracklet_register.proofs.Marks.{place_at, taken_within}
use Rattle.tracklet_register.proofs.Numbered.{has_both, has_tracklet, tells, with_number}
use Rattle.tracklet_register.proofs.Renewal.{AreHeld}
use Rattle.tracklet_register.specs.Entries.{isnt_before, isnt_of}
use Rattle.tracklet_register.specs.Registers.{HasNight, IsRegister, LeadsToPlaces, is_taken, numbers_of}
use Rattle.tracklet_register.specs.Replacing.{AreDifferent, AreRenewed, CanReturn, IsReplaced}
use Rattle.tracklet_register.specs.declared.nights.NightNumbers.{NightNumbers}

-- ---- a number has one place
pub one_place : (table : List Place) (nights : List NightNumbers) (a b : ℤ) (i j number : ℕ) → LeadsToPlaces table nights → slice_get (numbers_of nights a) i ≡ Some number → slice_get (numbers_of nights b) j ≡ Some number → (a ≡ b) × (i ≡ j)
one_place table nights a b i j number leads e f =
    let both : Some (place_at a i) ≡ Some (place_at b j) = sym (leads a i number e) ∙ leads b j number f in
    let same : place_at a i ≡ place_at b j = cc in
    (ap (λ (p : Place). p.night) same, ap (λ (p : Place). p.place) same)

-- no number is of two nights
pub one_night : (table : List Place) (nights : List NightNumbers) (a b : ℤ) (number : ℕ) → LeadsToPlaces table nights → Contains (numbers_of nights a) number → Contains (numbers_of nights b) number → a ≡ b
one_night table nights a b number leads c d =
    let i = at_place (numbers_of nights a) number c in
    let j = at_place (numbers_of nights b) number d in
    (one_place table nights a b i.0 j.0 number leads i.1 j.1).0

pub each_once : (table : List Place) (nights : List NightNumbers) (night : ℤ) → LeadsToPlaces table nights → AreDifferent (numbers_of nights night)
each_once table nights night leads = λ i j d ij jl e.
    let at_i = slice_get-get_or (numbers_of nights night) i d (omega (arith, ij, jl)) ∙ ap (λ n. Some n) e in
    let at_j = slice_get-get_or (numbers_of nights night) j d jl in
    let same : i ≡ j = (one_place table nights night night i j _ leads at_i at_j).1 in
    omega (arith, same, ij)

pub are_held : (nights : List NightNumbers) (table : List Place) (taken : List Bool) (night : ℤ) (before : NightTracklets) → IsRegister nights table taken → AreHeld (numbered_by (numbers_of nights night) before) taken
are_held nights table taken night before r = record {
  tells = λ one other c d e. tells (numbers_of nights night) before one other (each_once table nights night r.leads) c d e;
  held = λ one c. r.held night one.num (has_both (numbers_of nights night) before one c).0;
}

-- ---- room
pub leads_alike : (table longer : List Place) (nights now : List NightNumbers) → LeadsToPlaces table nights → ((number : ℕ) (place : Place) → slice_get table number ≡ Some place → slice_get longer number ≡ Some place)
    → ((night : ℤ) → numbers_of now night ≡ numbers_of nights night) → LeadsToPlaces longer now
leads_alike table longer nights now leads more same = λ night place number e.
    more number (place_at night place) (leads night place number (ap (λ (list : List ℕ). slice_get list place) (sym (same night)) ∙ e))

pub alike : (nights now : List NightNumbers) (table longer : List Place) (taken marks : List Bool) → IsRegister nights table taken
    → ((night : ℤ) → numbers_of now night ≡ numbers_of nights night) → ((number : ℕ) (place : Place) → slice_get table number ≡ Some place → slice_get longer number ≡ Some place)
    → ((number : ℕ) → is_taken marks number ≡ is_taken taken number) → length table ≤ length longer → IsRegister now longer marks
alike nights now table longer taken marks r same more marked long = record {
  leads = leads_alike table longer nights now r.leads more same;
  held = λ night number c. marked number ∙ r.held night number (subst (λ (list : List ℕ). Contains list number) (same night) c);
  within = λ number e. (let l = r.within number (sym (marked number) ∙ e) in omega (arith, l, long));
  few = λ night. subst (λ (list : List ℕ). length list < 2 ^ 32) (sym (same night)) (r.few night);
}

-- ---- the steps of a replacement
pub record AreSteps (nights now : List NightNumbers) (table longer : List Place) (taken marks : List Bool) (night : ℤ) (before after : NightTracklets) (numbers came : List ℕ) (end : ℕ) : Type 0 where
  pub register : IsRegister nights table taken
  pub size : length (numbers_of nights night) ≡ length before
  pub renewed : AreRenewed (numbered_by (numbers_of nights night) before) taken after numbers came end
  pub few : length numbers < 2 ^ 32
  pub here : numbers_of now night ≡ numbers
  pub others : (other : ℤ) → ¬ (other ≡ night) → numbers_of now other ≡ numbers_of nights other
  pub there : HasNight now night
  pub leads : LeadsToPlaces longer now
  pub long : length table ≤ length longer
  pub room : end ≤ length longer
  pub listed : (number : ℕ) → Contains came number → is_taken marks number ≡ true
  pub unlisted : (number : ℕ) → ¬ (Contains came number) → is_taken marks number ≡ is_taken taken number

-- a new number of the night was one before, or came
pub was_or_came : (nights : List NightNumbers) (taken : List Bool) (night : ℤ) (before after : NightTracklets) (numbers came : List ℕ) (end number : ℕ) → AreRenewed (numbered_by (numbers_of nights night) before) taken after numbers came end
    → Contains numbers number → Contains (numbers_of nights night) number ⊎ Contains came number
was_or_came nights taken night before after numbers came end number r c =
    let w = has_tracklet numbers after number r.size c in
    elim (r.each (with_number number w.0) w.1) [
      | inl there ↦ inl (has_both (numbers_of nights night) before (with_number number w.0) there).0
      | inr k ↦ inr k.0
    ]

-- the new numbers have room in the table, and are of no other night
pub have_room : (nights : List NightNumbers) (table longer : List Place) (taken : List Bool) (night : ℤ) (before after : NightTracklets) (numbers came : List ℕ) (end : ℕ) → IsRegister nights table taken
    → AreRenewed (numbered_by (numbers_of nights night) before) taken after numbers came end → length table ≤ length longer → end ≤ length longer → (number : ℕ) → Contains numbers number → number < length longer
have_room nights table longer taken night before after numbers came end r renewed long room number c =
    elim (was_or_came nights taken night before after numbers came end number renewed c) [
      | inl d ↦ (let l = r.within number (r.held night number d) in omega (arith, l, long))
      | inr d ↦ (let l = renewed.below number d in omega (arith, l, room))
    ]

pub are_apart : (nights : List NightNumbers) (table : List Place) (taken : List Bool) (night : ℤ) (before after : NightTracklets) (numbers came : List ℕ) (end : ℕ) → IsRegister nights table taken
    → AreRenewed (numbered_by (numbers_of nights night) before) taken after numbers came end → (other : ℤ) (number : ℕ) → ¬ (other ≡ night) → Contains (numbers_of nights other) number → ¬ (Contains numbers number)
are_apart nights table taken night before after numbers came end r renewed other number differ there c =
    elim (was_or_came nights taken night before after numbers came end number renewed c) [
      | inl d ↦ differ (one_night table nights other night number r.leads there d)
      | inr d ↦ false≢true (sym (renewed.free number d) ∙ r.held other number there)
    ]

module _ (nights now : List NightNumbers) (table longer : List Place) (taken marks : List Bool) (night : ℤ) (before after : NightTracklets) (numbers came : List ℕ) (end : ℕ) (s : AreSteps nights now table longer taken marks night before after numbers came end) where
  still_taken : (number : ℕ) → is_taken taken number ≡ true → is_taken marks number ≡ true
  still_taken number e = elim (in_or_not came number) [ inl c ↦ s.listed number c | inr n ↦ s.unlisted number n ∙ e ]

  was_taken : (number : ℕ) → is_taken marks number ≡ true → (is_taken taken number ≡ true) ⊎ Contains came number
  was_taken number e = elim (in_or_not came number) [ inl c ↦ inr c | inr n ↦ inl (sym (s.unlisted number n) ∙ e) ]

  in_numbers : (number : ℕ) → Contains (numbers_of now night) number → Contains numbers number
  in_numbers number c = subst (λ (list : List ℕ). Contains list number) s.here c

  in_now : (number : ℕ) → Contains numbers number → Contains (numbers_of now night) number
  in_now number c = subst (λ (list : List ℕ). Contains list number) (sym s.here) c

  elsewhere : (other : ℤ) (number : ℕ) → ¬ (other ≡ night) → Contains (numbers_of now other) number → Contains (numbers_of nights other) number
  elsewhere other number differ c = subst (λ (list : List ℕ). Contains list number) (s.others other differ) c

  pub register_after : IsRegister now longer marks
  register_after = record {
    leads = s.leads;
    held = λ other number c. elim (same_night other night) [
      | inl w ↦ elim (was_or_came nights taken night before after numbers came end number s.renewed (in_numbers number (subst (λ n. Contains (numbers_of now n) number) w.0 c))) [
        | inl d ↦ still_taken number (s.register.held night number d)
        | inr d ↦ s.listed number d
      ]
      | inr w ↦ still_taken number (s.register.held other number (elsewhere other number w.0 c))
    ];
    within = λ number e. elim (was_taken number e) [
      | inl t ↦ (let l = s.register.within number t in let m = s.long in omega (arith, l, m))
      | inr c ↦ (let l = s.renewed.below number c in let m = s.room in omega (arith, l, m))
    ];
    few = λ other. elim (same_night other night) [
      | inl w ↦ subst (λ n. length (numbers_of now n) < 2 ^ 32) (sym w.0) (subst (λ (list : List ℕ). length list < 2 ^ 32) (sym s.here) s.few)
      | inr w ↦ subst (λ (list : List ℕ). length list < 2 ^ 32) (sym (s.others other w.0)) (s.register.few other)
    ];
  }

  pub is_replaced : (went : List ℕ) → ((number : ℕ) → Contains went number ↔ (Contains (numbers_of nights night) number × ¬ (Contains numbers number)))
      → IsReplaced (record { nights = nights; taken = taken }) (record { nights = now; taken = marks }) night before after went came
  is_replaced went exactly = record {
    others = s.others;
    size = ap (λ (list : List ℕ). length list) s.here ∙ s.renewed.size;
    each = λ one c. s.renewed.each one (subst (λ (list : List ℕ). Contains (numbered_by list after) one) s.here c);
    lost = λ number. (
      λ c. (let w = (exactly number).0 c in (w.0, λ d. w.1 (in_numbers number d))),
      λ w. (exactly number).1 (w.0, λ d. w.1 (in_now number d)),
    );
    gone = λ other number c d. elim (same_night other night) [
      | inl w ↦ ((exactly number).0 c).1 (in_numbers number (subst (λ n. Contains (numbers_of now n) number) w.0 d))
      | inr w ↦ w.0 (one_night table nights other night number s.register.leads (elsewhere other number w.0 d) ((exactly number).0 c).0)
    ];
    waiting = λ number c. (let held = s.register.held night number ((exactly number).0 c).0 in (held, still_taken number held));
    used = λ number c. in_now number (s.renewed.used number c);
    free = s.renewed.free;
    least = λ number lower c l. (let b = s.renewed.below number c in s.renewed.least lower (omega (arith, b, l)));
    taken = λ number. (λ e. was_taken number e, λ w. elim w [ inl e ↦ still_taken number e | inr c ↦ s.listed number c ]);
  }

  pub can_return : (old : List ℕ) → old ≡ numbers_of nights night → CanReturn (record { nights = now; taken = marks }) night old came
  can_return old is = record {
    there = s.there;
    few = subst (λ (list : List ℕ). length list < 2 ^ 32) (sym is) (s.register.few night);
    once = subst AreDifferent (sym is) (each_once table nights night s.register.leads);
    held = λ number c. still_taken number (s.register.held night number (subst (λ (list : List ℕ). Contains list number) is c));
    apart = λ other number differ c d. differ (one_night table nights other night number s.register.leads (elsewhere other number differ c) (subst (λ (list : List ℕ). Contains list number) is d));
    fresh = λ number c d. false≢true (sym (s.renewed.free number c) ∙ s.register.held night number (subst (λ (list : List ℕ). Contains list number) is d));
    own = λ other number differ c d. false≢true (sym (s.renewed.free number d) ∙ s.register.held other number (elsewhere other number differ c));
  }

-- ---- other numbers of a night
pub leads_put : (table written : List Place) (nights now : List NightNumbers) (night : ℤ) (numbers : List ℕ) → LeadsToPlaces table nights
    → numbers_of now night ≡ numbers → ((other : ℤ) → ¬ (other ≡ night) → numbers_of now other ≡ numbers_of nights other)
    → ((place number : ℕ) → slice_get numbers place ≡ Some number → slice_get written number ≡ Some (place_at night place)) → ((number : ℕ) → ¬ (Contains numbers number) → slice_get written number ≡ slice_get table number)
    → ((other : ℤ) (number : ℕ) → ¬ (other ≡ night) → Contains (numbers_of nights other) number → ¬ (Contains numbers number)) → LeadsToPlaces written now
leads_put table written nights now night numbers leads here others there unwritten apart = λ other place number e. elim (same_night other night) [
  | inl w ↦
      let at : slice_get numbers place ≡ Some number = ap (λ (list : List ℕ). slice_get list place) (sym (ap (numbers_of now) w.0 ∙ here)) ∙ e in
      there place number at ∙ ap (λ n. Some (place_at n place)) (sym w.0)
  | inr w ↦
      let at : slice_get (numbers_of nights other) place ≡ Some number = ap (λ (list : List ℕ). slice_get list place) (sym (others other w.0)) ∙ e in
      unwritten number (apart other number w.0 (of_place (numbers_of nights other) place number at)) ∙ leads other place number at
]

-- ---- numbers that are freed
pub freed : (taken marks : List Bool) (numbers : List ℕ) (number : ℕ) → length marks ≡ length taken → ((number : ℕ) → Contains numbers number → number < length taken → is_taken marks number ≡ false) → Contains numbers number → is_taken marks number ≡ false
freed taken marks numbers number len listed c =
    (elim (is_taken marks number) as (λ b. is_taken marks number ≡ b → b ≡ false) [
      | true ↦ λ e. absurd (false≢true (sym (listed number c (subst (λ n. number < n) len (taken_within marks number e))) ∙ e))
      | false ↦ λ e. refl
    ]) refl

pub released : (nights : List NightNumbers) (table : List Place) (taken marks : List Bool) (went : List ℕ) → IsRegister nights table taken → ((night : ℤ) (number : ℕ) → Contains went number → ¬ (Contains (numbers_of nights night) number))
    → ((number : ℕ) → Contains went number → is_taken marks number ≡ false) → ((number : ℕ) → ¬ (Contains went number) → is_taken marks number ≡ is_taken taken number) → IsRegister nights table marks
released nights table taken marks went r none free others = record {
  leads = r.leads;
  held = λ night number c. others number (λ d. none night number d c) ∙ r.held night number c;
  within = λ number e. elim (in_or_not went number) [
    | inl c ↦ absurd (false≢true (sym (free number c) ∙ e))
    | inr n ↦ r.within number (sym (others number n) ∙ e)
  ];
  few = r.few;
}

-- ---- a night has the numbers again that it had
pub returned : (nights now : List NightNumbers) (table written : List Place) (taken marks : List Bool) (night : ℤ) (before came : List ℕ) → IsRegister nights table taken → CanReturn (record { nights = nights; taken = taken }) night before came
    → numbers_of now night ≡ before → ((other : ℤ) → ¬ (other ≡ night) → numbers_of now other ≡ numbers_of nights other) → LeadsToPlaces written now → length written ≡ length table
    → ((number : ℕ) → Contains came number → is_taken marks number ≡ false) → ((number : ℕ) → ¬ (Contains came number) → is_taken marks number ≡ is_taken taken number) → IsRegister now written marks
returned nights now table written taken marks night before came r can here others leads len free kept = record {
  leads = leads;
  held = λ other number c. elim (same_night other night) [
    | inl w ↦
        let in_before : Contains before number = subst (λ (list : List ℕ). Contains list number) here (subst (λ n. Contains (numbers_of now n) number) w.0 c) in
        kept number (λ d. can.fresh number d in_before) ∙ can.held number in_before
    | inr w ↦
        let there : Contains (numbers_of nights other) number = subst (λ (list : List ℕ). Contains list number) (others other w.0) c in
        kept number (λ d. can.own other number w.0 there d) ∙ r.held other number there
  ];
  within = λ number e. elim (in_or_not came number) [
    | inl c ↦ absurd (false≢true (sym (free number c) ∙ e))
    | inr n ↦ subst (λ n. number < n) (sym len) (r.within number (sym (kept number n) ∙ e))
  ];
  few = λ other. elim (same_night other night) [
    | inl w ↦ subst (λ n. length (numbers_of now n) < 2 ^ 32) (sym w.0) (subst (λ (list : List ℕ). length list < 2 ^ 32) (sym here) can.few)
    | inr w ↦ subst (λ (list : List ℕ). length list < 2 ^ 32) (sym (others other w.0)) (r.few other)
  ];
}

-- ---- nights that go whole
pub cut_register : (nights : List NightNumbers) (table : List Place) (taken : List Bool) (first : ℤ) → IsRegister nights table taken → IsRegister (filter (isnt_before first) nights) table taken
cut_register nights table taken first r = record {
  leads = λ night place number e. elim (before_or_not night first) [
    | inl l ↦ (let within = slice_get_within [] place number (ap (λ (list : List ℕ). slice_get list place) (sym (cut_gone nights first night l)) ∙ e) in absurd (omega (arith, within)))
    | inr l ↦ r.leads night place number (ap (λ (list : List ℕ). slice_get list place) (sym (cut_kept nights first night l)) ∙ e)
  ];
  held = λ night number c. elim (before_or_not night first) [
    | inl l ↦ absurd (in_none number (subst (λ (list : List ℕ). Contains list number) (cut_gone nights first night l) c))
    | inr l ↦ r.held night number (subst (λ (list : List ℕ). Contains list number) (cut_kept nights first night l) c)
  ];
  within = r.within;
  few = λ night. elim (before_or_not night first) [
    | inl l ↦ (let few = r.few night in subst (λ (list : List ℕ). length list < 2 ^ 32) (sym (cut_gone nights first night l)) (omega (arith, few)))
    | inr l ↦ subst (λ (list : List ℕ). length list < 2 ^ 32) (sym (cut_kept nights first night l)) (r.few night)
  ];
}
  where
    before_or_not : (a b : ℤ) → (a <ℤ b) ⊎ (¬ (a <ℤ b))
    before_or_not a b = by_lt_z a b (λ l. inl l) (λ n. inr (λ l. omega (arith, ints, n, l)))

pub left_register : (nights : List NightNumbers) (table : List Place) (taken : List Bool) (number : ℤ) → IsRegister nights table taken → IsRegister (filter (isnt_of number) nights) table taken
left_register nights table taken number r = record {
  leads = λ night place n e. elim (same_night night number) [
    | inl w ↦ (let within = slice_get_within [] place n (ap (λ (list : List ℕ). slice_get list place) (sym (none_left night w.0)) ∙ e) in absurd (omega (arith, within)))
    | inr w ↦ r.leads night place n (ap (λ (list : List ℕ). slice_get list place) (sym (left_kept nights number night w.0)) ∙ e)
  ];
  held = λ night n c. elim (same_night night number) [
    | inl w ↦ absurd (in_none n (subst (λ (list : List ℕ). Contains list n) (none_left night w.0) c))
    | inr w ↦ r.held night n (subst (λ (list : List ℕ). Contains list n) (left_kept nights number night w.0) c)
  ];
  within = r.within;
  few = λ night. elim (same_night night number) [
    | inl w ↦ (let few = r.few night in subst (λ (list : List ℕ). length list < 2 ^ 32) (sym (none_left night w.0)) (omega (arith, few)))
    | inr w ↦ subst (λ (list : List ℕ). length list < 2 ^ 32) (sym (left_kept nights number night w.0)) (r.few night)
  ];
}
  where
    none_left : (night : ℤ) → night ≡ number → numbers_of (filter (isnt_of number) nights) night ≡ []
    none_left night e = subst (λ n. numbers_of (filter (isnt_of number) nights) n ≡ []) (sym e) (left_gone nights number)
