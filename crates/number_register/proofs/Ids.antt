-- The number of each id: what entering one and striking one out leave.
use Rattle.std.proofs.Common.{◌≡◌, ◌≢◌, ℕ, ◌≤◌, nat_eq, Bool, true, false, cond, Option, Some, None, Ok, Err, List, length, set, refl, sym, ap, ◌∙◌, inl, inr, ◌⊎◌, eq-eqb}
use Rattle.std.specs.Global.{Vec}
use Rattle.std.specs.Result.{OnOk, OnErr}
use Rattle.std.specs.declared.result.Result.{Result}
use Rattle.std.specs.Map.{lookup, IsKeyTest, AreApart, KeepsOthers}
use Rattle.std.specs.HashMap as hash
use Rattle.std.specs.HashMap.{HashMap}
use Rattle.std.specs.Cmp.Lexicographic.{pointwise, bytes_decides, nat_list_eq_equiv}
use Rattle.std.proofs.lemmas.Bool.{cases_Bool, cases_eq, ne_eqb, eqb-true, false_from_ne_true}
use Rattle.miti_text.specs.Observation.{Observation}
use Rattle.number_register.specs.Numbering.{slot, put_at}
use Rattle.number_register.specs.IdNumbers.{id_hash, under_hash, under_id, AreNumbers, StandAlike, Enters, Strikes}
use Rattle.number_register.proofs.Slots.{slot-within, slot-set, slot-put}

abbrev Slots : Type 0
Slots = List (Option Observation)

abbrev Hashes : Type 0
Hashes = List (ℕ × ℕ)

abbrev Ids : Type 0
Ids = List (Vec ℕ × ℕ)

-- ---- what a change of a map says of each key

-- after a change at a hash, which then has w
pub hash_changed : {S : Type 0} (m n : HashMap ℕ ℕ S) (h : ℕ) (w : Option ℕ) → hash.UpdatesBy nat_eq (nat_eq h) m n w → (q : ℕ) → under_hash n.entries q ≡ cond (nat_eq h q) w (under_hash m.entries q)
hash_changed m n h w says q = says.0 q

others_stay : (eq : Vec ℕ → Vec ℕ → Bool) (test : Vec ℕ → Bool) (old new : Ids) → KeepsOthers eq test old new → (other : Vec ℕ → Bool) → IsKeyTest eq other → AreApart test other → lookup other new ≡ lookup other old
unfolding KeepsOthers
others_stay eq test old new h = h

apart : (bs cs ks : List ℕ) → pointwise nat_eq bs cs ≡ false → pointwise nat_eq bs ks ≡ true → pointwise nat_eq cs ks ≡ false
apart bs cs ks n y = nat_list_eq_equiv.symm cs ks ∙ sym (nat_list_eq_equiv.congr bs ks cs y) ∙ n

-- after a change at the id `bs`, which then has `w`
pub id_changed : {S : Type 0} (m n : HashMap (Vec ℕ) ℕ S) (bs : List ℕ) (w : Option ℕ) → hash.UpdatesBy (λ x y. pointwise nat_eq x.items y.items) (λ k. pointwise nat_eq bs k.items) m n w
    → (cs : List ℕ) → under_id n.entries cs ≡ cond (pointwise nat_eq bs cs) w (under_id m.entries cs)
id_changed m n bs w h cs = elim (cases_Bool (pointwise nat_eq bs cs)) [
  | inl y ↦ rw y (rw (← (bytes_decides bs cs).0 y) h.1)
  | inr f ↦ rw f (others_stay (λ x y. pointwise nat_eq x.items y.items) (λ k. pointwise nat_eq bs k.items) m.entries n.entries h.3 (λ k. pointwise nat_eq cs k.items) (λ x y. nat_list_eq_equiv.congr cs x.items y.items) (λ k. apart bs cs k.items f))
]

certain : {T E P : Type 0} (r : Result T E) (found : Option ℕ) (n : ℕ) → found ≡ Some n → OnErr r (found ≡ None) → OnOk r P → P
certain (Ok x) found n is none p = p
certain (Err e) found n is none p = cc

-- what is put back under a hash stands as it stood
pub put_back : {S T E : Type 0} (m n k : HashMap ℕ ℕ S) (h other number : ℕ) (r : Result T E) → under_hash m.entries h ≡ Some other → hash.UpdatesBy nat_eq (nat_eq h) m n (Some number)
    → OnErr r (under_hash n.entries h ≡ None) → OnOk r (hash.UpdatesBy nat_eq (nat_eq h) n k (Some other)) → StandAlike m.entries k.entries
put_back m n k h other number r was first absent second q =
    let here : under_hash n.entries h ≡ Some number = hash_changed m n h (Some number) first h ∙ rw (eq-eqb h h refl) refl in
    let back = hash_changed n k h (Some other) (certain r (under_hash n.entries h) number here absent second) q in
    elim (cases_Bool (nat_eq h q)) [
      | inl y ↦ back ∙ rw y (sym was ∙ ap (under_hash m.entries) (eqb-true h q y))
      | inr f ↦ back ∙ rw f (hash_changed m n h (Some number) first q ∙ rw f refl)
    ]

-- numbers by lookups that answer alike
pub alike : (slots : Slots) (hashes hashes' : Hashes) (ids : Ids) → StandAlike hashes hashes' → AreNumbers slots hashes ids → AreNumbers slots hashes' ids
alike slots hashes hashes' ids same a = record {
  found = λ n d s. elim (a.found n d s) [ inl h ↦ inl (same (id_hash d.id) ∙ h) | inr i ↦ inr i ];
  hashed = λ q n s. a.hashed q n (sym (same q) ∙ s);
  named = a.named;
  one_place = λ id n s h. a.one_place id n s (sym (same (id_hash id)) ∙ h);
}

-- ---- small facts

same_number : (n k : ℕ) → Some n ≡ Some k → n ≡ k
same_number n k h = cc

same_held : (d e : Observation) → Some d ≡ Some e → d ≡ e
same_held d e h = cc

nothing : {X : Type 0} (x : X) → None ≡ Some x → ⊥
nothing x h = cc

same_bytes : (bs : List ℕ) → pointwise nat_eq bs bs ≡ true
same_bytes bs = nat_list_eq_equiv.refl bs

equal_bytes : (bs cs : List ℕ) → bs ≡ cs → pointwise nat_eq bs cs ≡ true
equal_bytes bs cs e = (bytes_decides bs cs).1 e

differ : (bs cs : List ℕ) → cs ≢ bs → pointwise nat_eq bs cs ≡ false
differ bs cs h = false_from_ne_true (pointwise nat_eq bs cs) (λ y. h (sym ((bytes_decides bs cs).0 y)))

not_both : (b : Bool) → b ≡ true → b ≡ false → ⊥
not_both b t f = let no : true ≡ false = sym t ∙ f in cc

-- two numbers with different slots differ
free_differs : (slots : Slots) (n k : ℕ) (e : Observation) → slot slots n ≡ None → slot slots k ≡ Some e → k ≢ n
free_differs slots n k e free held eq = nothing e (sym free ∙ (ap (slot slots) (sym eq) ∙ held))

same_slot : (slots : Slots) (n k : ℕ) (d e : Observation) → slot slots n ≡ Some d → slot slots k ≡ Some e → k ≡ n → d ≡ e
same_slot slots n k d e there held eq = same_held d e (sym there ∙ (ap (slot slots) (sym eq) ∙ held))

-- ---- what is found

pub none_found : (slots : Slots) (hashes : Hashes) (ids : Ids) (id : List ℕ) → AreNumbers slots hashes ids → ((k : ℕ) (d : Observation) → under_hash hashes (id_hash id) ≡ Some k → slot slots k ≡ Some d → d.id ≢ id) → under_id ids id ≡ None
    → (n : ℕ) (d : Observation) → slot slots n ≡ Some d → d.id ≢ id
none_found slots hashes ids id a other none n d held same = elim (a.found n d held) [
  | inl h ↦ other n d (ap (λ (bs : List ℕ). under_hash hashes (id_hash bs)) (sym same) ∙ h) held same
  | inr i ↦ nothing n (sym none ∙ (ap (under_id ids) (sym same) ∙ i))
]

-- ---- d takes the free number n

module _ (slots : Slots) (n : ℕ) (d : Observation) (hashes : Hashes) (ids : Ids) (a : AreNumbers slots hashes ids) (within : n ≤ length slots) (free : slot slots n ≡ None)
    (fresh : (k : ℕ) (e : Observation) → slot slots k ≡ Some e → e.id ≢ d.id) where
  abbrev after : Slots
  after = put_at slots n (Some d)

  here : slot after n ≡ Some d
  here = slot-put slots n (Some d) within n ∙ (rw (eq-eqb n n refl) refl)

  there : (k : ℕ) → k ≢ n → slot after k ≡ slot slots k
  there k ne = slot-put slots n (Some d) within k ∙ (rw (ne_eqb k n ne) refl)

  -- what an old number has it still has
  kept : (k : ℕ) (e : Observation) → slot slots k ≡ Some e → slot after k ≡ Some e
  kept k e held = there k (free_differs slots n k e free held) ∙ held

  -- a number that is held now is the new one or an old one
  either : (k : ℕ) (e : Observation) → slot after k ≡ Some e → ((k ≡ n) × (e ≡ d)) ⊎ (slot slots k ≡ Some e)
  either k e held = elim (cases_eq k n) [
    | inl eq ↦ inl (eq, same_held e d (sym held ∙ (ap (slot after) eq ∙ here)))
    | inr ne ↦ inr (sym (there k ne) ∙ held)
  ]

  under_the_hash : (hashes' : Hashes) → under_hash hashes (id_hash d.id) ≡ None → ((q : ℕ) → under_hash hashes' q ≡ cond (nat_eq (id_hash d.id) q) (Some n) (under_hash hashes q)) → AreNumbers after hashes' ids
  under_the_hash hashes' absent says = record {
    found = λ k e s. elim (either k e s) [
      | inl new ↦ inl (says (id_hash e.id) ∙ (rw (new.1, eq-eqb (id_hash d.id) (id_hash d.id) refl, new.0) refl))
      | inr old ↦ elim (a.found k e old) [
        | inl h ↦
            let other : id_hash d.id ≢ id_hash e.id = λ eq. nothing k (sym absent ∙ (ap (under_hash hashes) eq ∙ h)) in
            inl (says (id_hash e.id) ∙ (rw (ne_eqb (id_hash d.id) (id_hash e.id) other) h))
        | inr i ↦ inr i
      ]
    ];
    hashed = λ q m s. elim (cases_Bool (nat_eq (id_hash d.id) q)) [
      | inl y ↦
          let now : under_hash hashes' q ≡ Some n = says q ∙ (rw y refl) in
          let eq : n ≡ m = same_number n m (sym now ∙ s) in
          (d, ap (slot after) (sym eq) ∙ here, eqb-true (id_hash d.id) q y)
      | inr f ↦
          let now : under_hash hashes' q ≡ under_hash hashes q = says q ∙ (rw f refl) in
          let old = a.hashed q m (sym now ∙ s) in
          (old.0, kept m old.0 old.1, old.2)
    ];
    named = λ id m s. let old = a.named id m s in (old.0, kept m old.0 old.1, old.2);
    one_place = λ id m s h. elim (cases_Bool (nat_eq (id_hash d.id) (id_hash id))) [
      | inl y ↦
          let now : under_hash hashes' (id_hash id) ≡ Some n = says (id_hash id) ∙ (rw y refl) in
          let old = a.named id m s in
          free_differs slots n m old.0 free old.1 (sym (same_number n m (sym now ∙ h)))
      | inr f ↦
          let now : under_hash hashes' (id_hash id) ≡ under_hash hashes (id_hash id) = says (id_hash id) ∙ (rw f refl) in
          a.one_place id m s (sym now ∙ h)
    ];
  }

  under_the_id : (ids' : Ids) → ((other : List ℕ) → under_id ids' other ≡ cond (pointwise nat_eq d.id other) (Some n) (under_id ids other)) → AreNumbers after hashes ids'
  under_the_id ids' says = record {
    found = λ k e s. elim (either k e s) [
      | inl new ↦ inr (says e.id ∙ (rw (new.1, same_bytes d.id, new.0) refl))
      | inr old ↦ elim (a.found k e old) [
        | inl h ↦ inl h
        | inr i ↦ inr (says e.id ∙ (rw (differ d.id e.id (fresh k e old)) i))
      ]
    ];
    hashed = λ q m s. let old = a.hashed q m s in (old.0, kept m old.0 old.1, old.2);
    named = λ id m s. elim (cases_Bool (pointwise nat_eq d.id id)) [
      | inl y ↦
          let now : under_id ids' id ≡ Some n = says id ∙ (rw y refl) in
          let eq : n ≡ m = same_number n m (sym now ∙ s) in
          (d, ap (slot after) (sym eq) ∙ here, (bytes_decides d.id id).0 y)
      | inr f ↦
          let now : under_id ids' id ≡ under_id ids id = says id ∙ (rw f refl) in
          let old = a.named id m (sym now ∙ s) in
          (old.0, kept m old.0 old.1, old.2)
    ];
    one_place = λ id m s h. elim (cases_Bool (pointwise nat_eq d.id id)) [
      | inl y ↦
          let now : under_id ids' id ≡ Some n = says id ∙ (rw y refl) in
          let old = a.hashed (id_hash id) m h in
          free_differs slots n m old.0 free old.1 (sym (same_number n m (sym now ∙ s)))
      | inr f ↦
          let now : under_id ids' id ≡ under_id ids id = says id ∙ (rw f refl) in
          a.one_place id m (sym now ∙ s) h
    ];
  }

  pub with_new : (hashes' : Hashes) (ids' : Ids) → Enters hashes ids hashes' ids' d.id n → AreNumbers (put_at slots n (Some d)) hashes' ids'
  with_new hashes' ids' (inl (absent, says, same)) = rw same (under_the_hash hashes' absent says)
  with_new hashes' ids' (inr (m, taken, same, says)) = alike after hashes hashes' ids' same (under_the_id ids' says)

-- ---- n is let go

module _ (slots : Slots) (n : ℕ) (d : Observation) (hashes : Hashes) (ids : Ids) (a : AreNumbers slots hashes ids) (was : slot slots n ≡ Some d) where
  abbrev left : Slots
  left = set slots n None

  gone : slot left n ≡ None
  gone = slot-set slots n None (slot-within slots n d was) n ∙ (rw (eq-eqb n n refl) refl)

  stays : (k : ℕ) → k ≢ n → slot left k ≡ slot slots k
  stays k ne = slot-set slots n None (slot-within slots n d was) k ∙ (rw (ne_eqb k n ne) refl)

  -- what is held now was held, and isn't n
  before : (k : ℕ) (e : Observation) → slot left k ≡ Some e → (k ≢ n) × (slot slots k ≡ Some e)
  before k e held = let ne = free_differs left n k e gone held in (ne, sym (stays k ne) ∙ held)

  out_of_hashes : (hashes' : Hashes) → under_hash hashes (id_hash d.id) ≡ Some n → ((q : ℕ) → under_hash hashes' q ≡ cond (nat_eq (id_hash d.id) q) None (under_hash hashes q)) → AreNumbers left hashes' ids
  out_of_hashes hashes' stood says = record {
    found = λ k e s.
        let old = before k e s in
        elim (a.found k e old.1) [
          | inl h ↦
              let other : id_hash d.id ≢ id_hash e.id = λ eq. old.0 (same_number k n (sym h ∙ (ap (under_hash hashes) (sym eq) ∙ stood))) in
              inl (says (id_hash e.id) ∙ (rw (ne_eqb (id_hash d.id) (id_hash e.id) other) h))
          | inr i ↦ inr i
        ];
    hashed = λ q m s. elim (cases_Bool (nat_eq (id_hash d.id) q)) [
      | inl y ↦
          let now : under_hash hashes' q ≡ None = says q ∙ (rw y refl) in
          absurd (nothing m (sym now ∙ s))
      | inr f ↦
          let now : under_hash hashes' q ≡ under_hash hashes q = says q ∙ (rw f refl) in
          let old = a.hashed q m (sym now ∙ s) in
          let ne : m ≢ n = λ eq. not_both (nat_eq (id_hash d.id) q) (eq-eqb (id_hash d.id) q (ap (λ (o : Observation). id_hash o.id) (same_slot slots n m d old.0 was old.1 eq) ∙ old.2)) f in
          (old.0, stays m ne ∙ old.1, old.2)
    ];
    named = λ id m s.
        let old = a.named id m s in
        let ne : m ≢ n = λ eq. a.one_place id m s (ap (λ (bs : List ℕ). under_hash hashes (id_hash bs)) (sym (ap (λ (o : Observation). o.id) (same_slot slots n m d old.0 was old.1 eq) ∙ old.2)) ∙ (stood ∙ ap (λ (k : ℕ). Some k) (sym eq))) in
        (old.0, stays m ne ∙ old.1, old.2);
    one_place = λ id m s h. elim (cases_Bool (nat_eq (id_hash d.id) (id_hash id))) [
      | inl y ↦
          let now : under_hash hashes' (id_hash id) ≡ None = says (id_hash id) ∙ (rw y refl) in
          nothing m (sym now ∙ h)
      | inr f ↦
          let now : under_hash hashes' (id_hash id) ≡ under_hash hashes (id_hash id) = says (id_hash id) ∙ (rw f refl) in
          a.one_place id m s (sym now ∙ h)
    ];
  }

  out_of_ids : (ids' : Ids) → under_hash hashes (id_hash d.id) ≢ Some n → ((other : List ℕ) → under_id ids' other ≡ cond (pointwise nat_eq d.id other) None (under_id ids other)) → AreNumbers left hashes ids'
  out_of_ids ids' not_there says = record {
    found = λ k e s.
        let old = before k e s in
        elim (a.found k e old.1) [
          | inl h ↦ inl h
          | inr i ↦ elim (cases_Bool (pointwise nat_eq d.id e.id)) [
            | inl y ↦
                let same : d.id ≡ e.id = (bytes_decides d.id e.id).0 y in
                elim (a.found n d was) [
                  | inl h ↦ absurd (not_there h)
                  | inr j ↦ absurd (old.0 (same_number k n (sym i ∙ (ap (under_id ids) (sym same) ∙ j))))
                ]
            | inr f ↦ inr (says e.id ∙ (rw f i))
          ]
        ];
    hashed = λ q m s.
        let old = a.hashed q m s in
        let ne : m ≢ n = λ eq. not_there (ap (under_hash hashes) (ap (λ (o : Observation). id_hash o.id) (same_slot slots n m d old.0 was old.1 eq) ∙ old.2) ∙ (s ∙ ap (λ (k : ℕ). Some k) eq)) in
        (old.0, stays m ne ∙ old.1, old.2);
    named = λ id m s. elim (cases_Bool (pointwise nat_eq d.id id)) [
      | inl y ↦
          let now : under_id ids' id ≡ None = says id ∙ (rw y refl) in
          absurd (nothing m (sym now ∙ s))
      | inr f ↦
          let now : under_id ids' id ≡ under_id ids id = says id ∙ (rw f refl) in
          let old = a.named id m (sym now ∙ s) in
          let ne : m ≢ n = λ eq. not_both (pointwise nat_eq d.id id) (equal_bytes d.id id (ap (λ (o : Observation). o.id) (same_slot slots n m d old.0 was old.1 eq) ∙ old.2)) f in
          (old.0, stays m ne ∙ old.1, old.2)
    ];
    one_place = λ id m s h. elim (cases_Bool (pointwise nat_eq d.id id)) [
      | inl y ↦
          let now : under_id ids' id ≡ None = says id ∙ (rw y refl) in
          nothing m (sym now ∙ s)
      | inr f ↦
          let now : under_id ids' id ≡ under_id ids id = says id ∙ (rw f refl) in
          a.one_place id m (sym now ∙ s) h
    ];
  }

  pub without : (hashes' : Hashes) (ids' : Ids) → Strikes hashes ids hashes' ids' d.id n → AreNumbers (set slots n None) hashes' ids'
  without hashes' ids' (inl (stood, says, same)) = rw same (out_of_hashes hashes' stood says)
  without hashes' ids' (inr (not_there, same, says)) = rw same (out_of_ids ids' not_there says)
