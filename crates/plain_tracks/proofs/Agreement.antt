-- Two lists that rise strictly, by a comparison that no two things meet both ways, and that have the same members, are the same.
use Rattle.std.proofs.Common.{◌≡◌, List, [], ◌∷◌, refl, sym, subst}
use Rattle.std.proofs.lemmas.List.Elements.{All-contains}
use Rattle.std.specs.List.{Contains}
use mathlib.Core.Logic.{inl, inr}
use Rattle.sky_math.specs.Lists.{EachTwo}
use Rattle.night_tree.proofs.EachTwoOf.{each_two_head, each_two_tail}
use Rattle.plain_tracks.proofs.Entries.{in_front, in_rest, front_or_rest}
use Rattle.plain_tracks.proofs.Steps.{in_none}

-- the first of a rising list is before the others
first_before : {X : Type 0} → (R : X → X → Type 0) (x : X) (xs : List X) (y : X) → EachTwo R (x ∷ xs) → Contains xs y → R x y
first_before R x xs y o c = All-contains (R x) xs y (each_two_head R x xs o) c

same_first : {X : Type 0} → (R : X → X → Type 0) → ((x y : X) → R x y → R y x → ⊥) → (one other : X) (ones others : List X) → EachTwo R (one ∷ ones) → EachTwo R (other ∷ others) → Contains (other ∷ others) one → Contains (one ∷ ones) other → one ≡ other
same_first R never one other ones others o p c d = elim (front_or_rest other others one c) [
  | inl e ↦ sym e
  | inr later ↦ elim (front_or_rest one ones other d) [
    | inl e ↦ e
    | inr after ↦ absurd (never one other (first_before R one ones other o after) (first_before R other others one p later))
  ]
]

-- what is in the rest of one is in the rest of the other, where the first is the same
in_other_rest : {X : Type 0} → (R : X → X → Type 0) → ((x y : X) → R x y → R y x → ⊥) → (first : X) (ones others : List X) → EachTwo R (first ∷ ones) → ((x : X) → Contains (first ∷ ones) x → Contains (first ∷ others) x) → (x : X) → Contains ones x → Contains others x
in_other_rest R never first ones others o h x c = elim (front_or_rest first others x (h x (in_rest first ones x c))) [
  | inl e ↦
      let itself : R first first = subst (R first) (sym e) (first_before R first ones x o c) in
      absurd (never first first itself itself)
  | inr d ↦ d
]

pub same_members : {X : Type 0} → (R : X → X → Type 0) → ((x y : X) → R x y → R y x → ⊥) → (ones others : List X) → EachTwo R ones → EachTwo R others → ((x : X) → Contains ones x → Contains others x) → ((x : X) → Contains others x → Contains ones x) → ones ≡ others
same_members R never [] [] o p h g = refl
same_members R never [] (other ∷ others) o p h g = absurd (in_none other (g other (in_front other others)))
same_members R never (one ∷ ones) [] o p h g = absurd (in_none one (h one (in_front one ones)))
same_members {X} R never (one ∷ ones) (other ∷ others) o p h g =
    let first : one ≡ other = same_first R never one other ones others o p (h one (in_front one ones)) (g other (in_front other others)) in
    let p' : EachTwo R (one ∷ others) = subst (λ x. EachTwo R (x ∷ others)) (sym first) p in
    let h' : (x : X) → Contains (one ∷ ones) x → Contains (one ∷ others) x = subst (λ y. (x : X) → Contains (one ∷ ones) x → Contains (y ∷ others) x) (sym first) h in
    let g' : (x : X) → Contains (one ∷ others) x → Contains (one ∷ ones) x = subst (λ y. (x : X) → Contains (y ∷ others) x → Contains (one ∷ ones) x) (sym first) g in
    let rest : ones ≡ others = same_members R never ones others
    (each_two_tail R one ones o)
    (each_two_tail R one others p')
    (in_other_rest R never one ones others o h')
    (in_other_rest R never one others ones p' g') in
    cc
