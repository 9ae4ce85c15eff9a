-- A register in which the tracklets of one night after another are replaced.
use Rattle.std.proofs.Common.{◌≡◌, ◌⊎◌, ◌↔◌, ℕ, ◌+◌, ◌-◌, ◌<◌, ◌≤◌, ℤ, true, List, [], ◌∷◌, ◌++◌, drop, length, get_or, inl, inr, refl, sym, subst, ap, ◌∙◌, arith}
use Rattle.std.proofs.lemmas.Bool.{false≢true}
use Rattle.std.proofs.lemmas.Grind.{flat_map-append}
use Rattle.std.proofs.lemmas.List.{append-nil, get_or-drop, get_or_default, length-drop}
use Rattle.std.proofs.lemmas.List.Elements.{All-contains, All-head, All-tail, Contains-append_cases, Contains-append_left, Contains-append_right}
use Rattle.std.specs.List.{All, Contains}
use Rattle.closed_sets.proofs.Lists.{in_or_not}
use Rattle.kept_nights.proofs.WithNight.{with_members}
use Rattle.kept_nights.specs.KeptNights.{RiseByNumber, with_night}
use Rattle.kept_nights.specs.Renewed.{HaveDifferentNumbers, with_nights}
use Rattle.night_tree.specs.Nights.{NightData}
use Rattle.set_grow.proofs.Members.{in_front, in_none, in_rest}
use Rattle.set_grow.specs.Nights.{numbered_by}
use Rattle.set_grow.specs.Numbered.{without_numbers}
use Rattle.sky_units.specs.SettingsData.{SettingsData}
use Rattle.sky_units.specs.TrackletData.{NightTracklets, TrackletData}
use Rattle.tracklet_register.proofs.Entries.{same_night}
use Rattle.tracklet_register.proofs.Following.{both_exchanged}
use Rattle.tracklet_register.proofs.Numbered.{has_both, has_tracklet, tracklets_are, with_number}
use Rattle.tracklet_register.specs.Exchanges.{AreExchanged, AreOfBoth}
use Rattle.tracklet_register.specs.Registers.{DifferAt, RegisterData, is_taken, numbers_of, with_numbers}
use Rattle.tracklet_register.specs.Replacing.{CanReturn, HaveDifferentLabels, IsReplaced}
use Rattle.kept_tracks.specs.KeptFor.{AreKeptFor, HaveNone, KeptData}
use Rattle.kept_tracks.specs.SeveralNights.{AreNumberedBut, AreReplaced, IsReplacement, all_gone, all_new}
use Rattle.kept_tracks.specs.Stages.{tracklets_of_night}
use Rattle.kept_tracks.specs.declared.exchanging.Replacement.{Replacement}
use Rattle.kept_tracks.proofs.Lent.{one_before}
use Rattle.kept_tracks.proofs.NightChanges.{differ_among, found_or_none}

-- ---- before
pub numbered_but : (settings : SettingsData) (nights : List NightData) (kept : KeptData) → AreKeptFor settings nights kept → AreNumberedBut nights kept.register []
numbered_but settings nights kept k = record {
  numbered = k.numbered;
  no_others = k.no_others;
  waiting = λ number c. absurd (in_none number c);
  gone = λ night number c. absurd (in_none number c);
  none_waits = λ number t. inr (k.none_waits number t);
}

-- a register has as many numbers of a night as the night has tracklets
pub sized : (nights : List NightData) (register : RegisterData) (went : List ℕ) (number : ℤ) → AreNumberedBut nights register went → length (numbers_of register.nights number) ≡ length (tracklets_of_night nights number)
sized nights register went number a = elim (found_or_none nights number) [
  | inl f ↦ ap (λ n. length (numbers_of register.nights n)) (sym f.is) ∙ (a.numbered f.night f.there ∙ ap length (sym f.tracklets))
  | inr n ↦ ap length (a.no_others number n.none) ∙ ap length (sym n.tracklets)
]

pub none_replaced : (nights : List NightData) (register : RegisterData) → AreNumberedBut nights register [] → AreReplaced nights [] register register [] []
none_replaced nights register a = record {
  now = a;
  others = λ number none. refl;
  exchanged = record {
    there = record { stay = λ night one s stays. s; none = λ night one s c. in_none one.num c };
    back = record { stay = λ night one s stays. s; none = λ night one s c. in_none one.num c };
  };
  nothing = λ b number c. in_none number c;
}

-- ---- one night more
-- a night's tracklets were replaced, where its number and its tracklets were asked for
pub is_replacement : (nights : List NightData) (night : NightData) (old new : RegisterData) (one : Replacement) (number : ℤ) (before after : NightTracklets) → number ≡ night.number → before ≡ tracklets_of_night nights number → after ≡ night.tracklets
    → length (numbers_of old.nights night.number) ≡ length (tracklets_of_night nights night.number) → IsReplaced old new number before after one.exchange.went.items one.exchange.came.items
    → one.exchange.before.items ≡ numbers_of old.nights number → CanReturn new number one.exchange.before.items one.exchange.came.items
    → ((first last : List NightData) → DifferAt number before after first last → AreExchanged one.exchange.went.items one.exchange.came.items (with_numbers old.nights first) (with_numbers new.nights last))
    → IsReplacement nights night old new one
is_replacement nights night old new one number before after is was are size r own can x = record {
  size = size;
  fresh = λ n c. subst (λ (list : List ℕ). ¬ (Contains list n)) (own ∙ ap (numbers_of old.nights) is) (can.fresh n c);
  replaced = subst (λ n. IsReplaced old new n (tracklets_of_night nights night.number) night.tracklets one.exchange.went.items one.exchange.came.items) is
      (subst (λ (list : NightTracklets). IsReplaced old new number list night.tracklets one.exchange.went.items one.exchange.came.items) had
      (subst (λ (list : NightTracklets). IsReplaced old new number before list one.exchange.went.items one.exchange.came.items) are r));
  exchanged = λ first last d. x first last (subst (λ n. DifferAt n before after first last) (sym is)
      (subst (λ (list : NightTracklets). DifferAt night.number list after first last) (sym had)
      (subst (λ (list : NightTracklets). DifferAt night.number (tracklets_of_night nights night.number) list first last) (sym are) d)));
} where
  had : before ≡ tracklets_of_night nights night.number
  had = was ∙ ap (tracklets_of_night nights) is

of_both : (one other : List ℕ) → AreOfBoth one other (one ++ other)
of_both one other number = (
  λ c. Contains-append_cases one other number c,
  λ w. elim w [ inl c ↦ Contains-append_left one other number c | inr c ↦ Contains-append_right one other number c ],
)

module _ (nights later : List NightData) (night : NightData) (old middle new : RegisterData) (went came : List ℕ) (one : Replacement) (rise : RiseByNumber nights) (fresh : HaveNone later night.number) (a : AreReplaced nights later old middle went came) (x : IsReplacement nights night middle new one) where
  abbrev gone : List ℕ
  gone = one.exchange.went.items

  abbrev joined : List ℕ
  joined = one.exchange.came.items

  abbrev between : List NightData
  between = with_nights later nights

  abbrev after : List NightData
  after = with_night night between

  abbrev before : NightTracklets
  before = tracklets_of_night nights night.number

  -- the tracklet that has a number of the night now, and where it comes from
  was_or_came : (number : ℕ) → Contains (numbers_of new.nights night.number) number
      → Contains (numbers_of middle.nights night.number) number ⊎ ((tracklet : TrackletData) × Contains night.tracklets tracklet × Contains joined number × (HaveDifferentLabels before → ¬ (Contains before tracklet)))
  was_or_came number c =
      let w = has_tracklet (numbers_of new.nights night.number) night.tracklets number x.replaced.size c in
      elim (x.replaced.each (with_number number w.0) w.1) [
        | inl there ↦ inl (has_both (numbers_of middle.nights night.number) before (with_number number w.0) there).0
        | inr k ↦ inr (
          w.0,
          (has_both (numbers_of new.nights night.number) night.tracklets (with_number number w.0) w.1).1,
          k.0,
          λ labels there.
              let plain : without_numbers (numbered_by (numbers_of middle.nights night.number) before) ≡ before = tracklets_are (numbers_of middle.nights night.number) before x.size in
              k.1 (subst HaveDifferentLabels (sym plain) labels) (subst (λ (list : NightTracklets). Contains list w.0) (sym plain) there),
        )
      ]

  still_gone : (other : ℤ) (number : ℕ) → Contains went number → ¬ (Contains (numbers_of new.nights other) number)
  still_gone other number c d = elim (same_night other night.number) [
    | inl w ↦ elim (was_or_came number (subst (λ n. Contains (numbers_of new.nights n) number) w.0 d)) [
      | inl k ↦ a.now.gone night.number number c k
      | inr k ↦ false≢true (sym (x.replaced.free number k.2) ∙ a.now.waiting number c)
    ]
    | inr w ↦ a.now.gone other number c (subst (λ (list : List ℕ). Contains list number) (x.replaced.others other w.0) d)
  ]

  still_there : (number : ℕ) → (its : ℤ) → Contains (numbers_of middle.nights its) number → Contains (went ++ gone) number ⊎ ((night : ℤ) × Contains (numbers_of new.nights night) number)
  still_there number its c = elim (same_night its night.number) [
    | inl w ↦ elim (in_or_not (numbers_of new.nights night.number) number) [
      | inl d ↦ inr (night.number, d)
      | inr n ↦ inl (Contains-append_right went gone number ((x.replaced.lost number).1 (subst (λ n. Contains (numbers_of middle.nights n) number) w.0 c, n)))
    ]
    | inr w ↦ inr (its, subst (λ (list : List ℕ). Contains list number) (sym (x.replaced.others its w.0)) c)
  ]

  still_waits : (number : ℕ) → is_taken middle.taken number ≡ true → Contains (went ++ gone) number ⊎ ((night : ℤ) × Contains (numbers_of new.nights night) number)
  still_waits number was = elim (a.now.none_waits number was) [
    | inl c ↦ inl (Contains-append_left went gone number c)
    | inr w ↦ still_there number w.0 w.1
  ]

  now_numbered : AreNumberedBut after new (went ++ gone)
  now_numbered = record {
    numbered = λ kept c. elim ((with_members night between kept).0 c) [
      | inl e ↦ subst (λ (n : NightData). length (numbers_of new.nights n.number) ≡ length n.tracklets) e x.replaced.size
      | inr w ↦ ap length (x.replaced.others kept.number w.1) ∙ a.now.numbered kept w.0
    ];
    no_others = λ number none.
        let differ : ¬ (number ≡ night.number) = λ e. none night ((with_members night between night).1 (inl refl)) (sym e) in
        x.replaced.others number differ ∙ a.now.no_others number (λ kept c same. none kept ((with_members night between kept).1 (inr (c, λ e. differ (sym same ∙ e)))) same);
    waiting = λ number c. elim (Contains-append_cases went gone number c) [
      | inl d ↦ (x.replaced.taken number).1 (inl (a.now.waiting number d))
      | inr d ↦ (x.replaced.waiting number d).1
    ];
    gone = λ other number c d. elim (Contains-append_cases went gone number c) [
      | inl k ↦ still_gone other number k d
      | inr k ↦ x.replaced.gone other number k d
    ];
    none_waits = λ number t. elim ((x.replaced.taken number).0 t) [
      | inl was ↦ still_waits number was
      | inr c ↦ inr (night.number, x.replaced.used number c)
    ];
  }

  now_exchanged : AreExchanged (went ++ gone) (came ++ joined) (with_numbers old.nights nights) (with_numbers new.nights after)
  now_exchanged =
      both_exchanged (with_numbers old.nights nights) (with_numbers middle.nights between) (with_numbers new.nights after) went gone (went ++ gone) came joined (came ++ joined)
      a.exchanged (x.exchanged between after (differ_among later nights night rise fresh)) (λ number c d. false≢true (sym (x.replaced.free number c) ∙ a.now.waiting number d)) (of_both went gone) (of_both came joined)

  none_joined : HaveDifferentLabels before → ((tracklet : TrackletData) → Contains night.tracklets tracklet → Contains before tracklet) → (number : ℕ) → ¬ (Contains joined number)
  none_joined labels all number c = elim (was_or_came number (x.replaced.used number c)) [
    | inl k ↦ x.fresh number c k
    | inr k ↦ k.3 labels (all k.0 k.1)
  ]

  pub one_more : AreReplaced nights (night ∷ later) old new (went ++ gone) (came ++ joined)
  one_more = record {
    now = now_numbered;
    others = λ number none. x.replaced.others number (λ e. none night (in_front night later) (sym e)) ∙ a.others number (λ kept c same. none kept (in_rest night later kept c) same);
    exchanged = now_exchanged;
    nothing = λ b number c.
        let own = All-head (λ (n : NightData). HaveDifferentLabels (tracklets_of_night nights n.number) × All (Contains (tracklets_of_night nights n.number)) n.tracklets) night later b in
        let rest = All-tail (λ (n : NightData). HaveDifferentLabels (tracklets_of_night nights n.number) × All (Contains (tracklets_of_night nights n.number)) n.tracklets) night later b in
        elim (Contains-append_cases came joined number c) [
          | inl d ↦ a.nothing rest number d
          | inr d ↦ none_joined own.0 (λ tracklet k. All-contains (Contains before) night.tracklets tracklet own.1 k) number d
        ];
  }

-- ---- the lists of what went and came
pub gone_more : (done : List Replacement) (one : Replacement) → all_gone (done ++ one ∷ []) ≡ all_gone done ++ one.exchange.went.items
gone_more done one = flat_map-append (λ (one : Replacement). one.exchange.went.items) done (one ∷ []) ∙ ap (λ (list : List ℕ). all_gone done ++ list) (append-nil one.exchange.went.items)

pub new_more : (done : List Replacement) (one : Replacement) → all_new (done ++ one ∷ []) ≡ all_new done ++ one.exchange.came.items
new_more done one = flat_map-append (λ (one : Replacement). one.exchange.came.items) done (one ∷ []) ∙ ap (λ (list : List ℕ). all_new done ++ list) (append-nil one.exchange.came.items)

-- the same holds of lists with the same numbers
pub same_lists : (nights changed : List NightData) (old new : RegisterData) (went came lost new_ones : List ℕ) → AreReplaced nights changed old new went came
    → ((number : ℕ) → Contains lost number ↔ Contains went number) → ((number : ℕ) → Contains new_ones number ↔ Contains came number) → AreReplaced nights changed old new lost new_ones
same_lists nights changed old new went came lost new_ones a same_went same_came = record {
  now = record {
    numbered = a.now.numbered;
    no_others = a.now.no_others;
    waiting = λ number c. a.now.waiting number ((same_went number).0 c);
    gone = λ night number c. a.now.gone night number ((same_went number).0 c);
    none_waits = λ number t. elim (a.now.none_waits number t) [ inl c ↦ inl ((same_went number).1 c) | inr w ↦ inr w ];
  };
  others = a.others;
  exchanged = record {
    there = record {
      stay = λ night one s stays. a.exchanged.there.stay night one s (λ c. stays ((same_went one.num).1 c));
      none = λ night one s c. a.exchanged.there.none night one s ((same_went one.num).0 c);
    };
    back = record {
      stay = λ night one s stays. a.exchanged.back.stay night one s (λ c. stays ((same_came one.num).1 c));
      none = λ night one s c. a.exchanged.back.none night one s ((same_came one.num).0 c);
    };
  };
  nothing = λ b number c. a.nothing b number ((same_came number).0 c);
}

-- ---- the nights that are built anew, from the last to the first
pub none_later : (changed : List NightData) (left : ℕ) (night : NightData) → HaveDifferentNumbers changed → 0 < left → left ≤ length changed → night ≡ get_or changed (left - 1) night → HaveNone (drop left changed) night.number
none_later changed left night once some within is other c same =
    let inside : c.0 < length changed - left = subst (λ n. c.0 < n) (length-drop left changed) c.1 in
    let there : left + c.0 < length changed = omega (arith, inside, within) in
    let later : get_or changed (left + c.0) night ≡ other = get_or_default changed (left + c.0) night other there ∙ (sym (get_or-drop left changed c.0 other) ∙ c.2) in
    once (left - 1) (left + c.0) night (omega (arith, some)) there (ap (λ (n : NightData). n.number) (sym is) ∙ (sym same ∙ ap (λ (n : NightData). n.number) (sym later)))

-- as many numbers as the night had tracklets
pub sized_still : (nights changed : List NightData) (old middle : RegisterData) (went came : List ℕ) (number : ℤ) → AreNumberedBut nights old [] → HaveNone changed number → AreReplaced nights changed old middle went came
    → length (numbers_of middle.nights number) ≡ length (tracklets_of_night nights number)
sized_still nights changed old middle went came number numbered fresh a = ap length (a.others number fresh) ∙ sized nights old [] number numbered

pub one_step : (nights changed : List NightData) (left : ℕ) (night : NightData) (old middle new : RegisterData) (done pushed : List Replacement) (one : Replacement) → RiseByNumber nights → HaveDifferentNumbers changed → 0 < left → left ≤ length changed → night ≡ get_or changed (left - 1) night
    → AreReplaced nights (drop left changed) old middle (all_gone done) (all_new done) → pushed ≡ done ++ one ∷ [] → IsReplacement nights night middle new one → AreReplaced nights (drop (left - 1) changed) old new (all_gone pushed) (all_new pushed)
one_step nights changed left night old middle new done pushed one rise once some within is a e x =
    let more = one_more nights (drop left changed) night old middle new (all_gone done) (all_new done) one rise (none_later changed left night once some within is) a x in
    subst (λ (later : List NightData). AreReplaced nights later old new (all_gone pushed) (all_new pushed)) (sym (one_before changed left night some within is))
    (subst (λ (went : List ℕ). AreReplaced nights (night ∷ drop left changed) old new went (all_new pushed)) (sym (ap all_gone e ∙ gone_more done one))
    (subst (λ (came : List ℕ). AreReplaced nights (night ∷ drop left changed) old new (all_gone done ++ one.exchange.went.items) came) (sym (ap all_new e ∙ new_more done one)) more))
