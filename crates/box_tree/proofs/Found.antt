-- What a join adds, part by part.
use Rattle.std.proofs.Common.{◌≡◌, Bool, true, false, cond, List, [], ◌∷◌, ◌++◌, ◌⊎◌, inl, inr, subst, Result, Ok, Err}
use Rattle.std.specs.List.{Contains}
use Rattle.std.specs.Result.{OnOk}
use Rattle.std.proofs.lemmas.List.Elements.{Contains-append_left, Contains-push, Contains-push_cases}
use Rattle.box_tree.specs.Joins.{Adds}

module _ {X : Type 0} (wanted : X → Bool) where
  -- where none is wanted, nothing is added
  pub adds_none : (Region : X → Type 0) (found : List X) → ((x : X) → Region x → wanted x ≡ true → ⊥) → Adds wanted Region found found
  adds_none Region found none = record {
    sound = λ x h. inl h;
    complete = λ x r w. absurd (none x r w);
    keeps = λ x h. h;
  }

  -- one part after another
  pub adds_then : (One Other Both : X → Type 0) (first second third : List X) → Adds wanted One first second → Adds wanted Other second third → ((x : X) → Both x → One x ⊎ Other x) → Adds wanted Both first third
  adds_then One Other Both first second third a b parts = record {
    sound = λ x h. elim (b.sound x h) [ inl before ↦ a.sound x before | inr w ↦ inr w ];
    complete = λ x r w. elim (parts x r) [ inl one ↦ b.keeps x (a.complete x one w) | inr other ↦ b.complete x other w ];
    keeps = λ x h. b.keeps x (a.keeps x h);
  }

  -- one thing that is wanted
  pub adds_one : (Region : X → Type 0) (found : List X) (x : X) → wanted x ≡ true → ((y : X) → Region y → x ≡ y) → Adds wanted Region found (found ++ x ∷ [])
  adds_one Region found x w only = record {
    sound = λ y h. elim (Contains-push_cases found x y h) [ inl before ↦ inl before | inr e ↦ inr (subst (λ z. wanted z ≡ true) e w) ];
    complete = λ y r _. subst (λ z. Contains (found ++ x ∷ []) z) (only y r) (Contains-push found x);
    keeps = λ y h. Contains-append_left found (x ∷ []) y h;
  }

  -- one thing, wanted or not
  pub adds_where : (Region : X → Type 0) (found : List X) (x : X) (b : Bool) → wanted x ≡ b → ((y : X) → Region y → x ≡ y) → Adds wanted Region found (cond b (found ++ x ∷ []) found)
  adds_where Region found x true w only = adds_one Region found x w only
  adds_where Region found x false w only = adds_none Region found (λ y r h.
      let not : wanted y ≡ false = subst (λ z. wanted z ≡ false) (only y r) w in
      cc)

pub on_ok : {T E P Q : Type 0} (r : Result T E) → (P → Q) → OnOk r P → OnOk r Q
on_ok (Ok x) f h = f h
on_ok (Err e) f h = h
