-- Counts that rise, and what pays for them.
use Rattle.std.proofs.Common.{◌≡◌, ℕ, ◌+◌, ◌*◌, ◌≤◌, List, [], ◌∷◌, ◌++◌, inl, inr, length, sym, subst, arith, length-append}
use Rattle.std.specs.List.{Contains}
use Rattle.std.proofs.lemmas.List.Elements.{Contains-append_cases}
use Rattle.std.proofs.Math.Nat.{mul-le-mul_left}
use Rattle.closed_sets.specs.Counting.{IsPaid, Rises}
use Rattle.closed_sets.proofs.Lists.{different_append, front_or_rest, in_none, no_longer}

pub rises_none : (most count : ℕ) → Rises most count count
rises_none most count = record { no_less = omega arith; few = omega arith }

pub rises_then : (m n most first second third : ℕ) → Rises m first second → Rises n second third → m + n ≤ most → Rises most first third
rises_then m n most first second third a b e =
    let a_less = a.no_less in
    let b_less = b.no_less in
    let a_few = a.few in
    let b_few = b.few in
    record { no_less = omega arith; few = omega arith }

pub rises_part : (m most first second : ℕ) → Rises m first second → m ≤ most → Rises most first second
rises_part m most first second a e =
    let a_less = a.no_less in
    let a_few = a.few in
    record { no_less = omega arith; few = omega arith }

more_cost : (cost size other : ℕ) → size ≤ other → cost * size ≤ cost * other
more_cost cost size other h = mul-le-mul_left cost h

module _ {X : Type 0} where
  -- nothing needs a payer
  pub paid_free : (Kind : X → Type 0) (cost free before after : ℕ) → Rises free before after → IsPaid Kind cost free before after
  paid_free Kind cost free before after r = record {
    payers = [];
    different = tt;
    each = λ x c. absurd (in_none x c);
    rises = rises_part free (free + cost * 0) before after r (omega arith);
  }

  -- another kind, with more for free
  pub paid_as : (Kind Other : X → Type 0) (cost free more before after : ℕ) → ((x : X) → Kind x → Other x) → free ≤ more → IsPaid Kind cost free before after → IsPaid Other cost more before after
  paid_as Kind Other cost free more before after as_other e p = record {
    payers = p.payers;
    different = p.different;
    each = λ x c. as_other x (p.each x c);
    rises = rises_part (free + cost * length p.payers) (more + cost * length p.payers) before after p.rises (omega arith);
  }

  -- one rise and then another, whose payers are others
  pub paid_then : (One Other Both : X → Type 0) (cost free more most first second third : ℕ) → ((x : X) → One x → Both x) → ((x : X) → Other x → Both x) → ((x : X) → One x → ¬ Other x) → free + more ≤ most → IsPaid One cost free first second → IsPaid Other cost more second third → IsPaid Both cost most first third
  paid_then One Other Both cost free more most first second third one other apart e p q =
      let size : length (p.payers ++ q.payers) ≡ length p.payers + length q.payers = length-append p.payers q.payers in
      record {
        payers = p.payers ++ q.payers;
        different = different_append p.payers q.payers p.different q.different (λ x c d. apart x (p.each x c) (q.each x d));
        each = λ x c. elim (Contains-append_cases p.payers q.payers x c) [ inl d ↦ one x (p.each x d) | inr d ↦ other x (q.each x d) ];
        rises = rises_sum cost free more most (length p.payers) (length q.payers) (length (p.payers ++ q.payers)) first second third size e p.rises q.rises;
      }
    where
      rises_sum : (cost free more most m n size first second third : ℕ) → size ≡ m + n → free + more ≤ most → Rises (free + cost * m) first second → Rises (more + cost * n) second third → Rises (most + cost * size) first third
      rises_sum cost free more most m n size first second third s e a b =
          let product : cost * (m + n) ≡ cost * m + cost * n = grind arith in
          rw s (rises_then (free + cost * m) (more + cost * n) (most + cost * (m + n)) first second third a b (omega arith))

  -- a rise that nobody pays comes first
  pub paid_after : (Kind : X → Type 0) (cost tests free most first second third : ℕ) → tests + free ≤ most → Rises tests first second → IsPaid Kind cost free second third → IsPaid Kind cost most first third
  paid_after Kind cost tests free most first second third e r p = record {
    payers = p.payers;
    different = p.different;
    each = p.each;
    rises = rises_then tests (free + cost * length p.payers) (most + cost * length p.payers) first second third r p.rises (omega arith);
  }

  -- what a test and a search below it cost, where one more pays for the test
  pub paid_by : (Kind : X → Type 0) (Other : X → Type 0) (x : X) (size tests first second third : ℕ) → tests ≤ size → Other x → ((y : X) → Kind y → Other y) → (¬ Kind x) → Rises tests first second → IsPaid Kind size 0 second third → IsPaid Other size 0 first third
  paid_by Kind Other x size tests first second third e itself as_other new r p = record {
    payers = x ∷ p.payers;
    different = (λ c. new (p.each x c), p.different);
    each = λ y c. elim (front_or_rest x p.payers y c) [ inl f ↦ subst Other f itself | inr d ↦ as_other y (p.each y d) ];
    rises = rises_one size tests (length p.payers) (length (x ∷ p.payers)) first second third (omega arith) e r p.rises;
  }
    where
      rises_one : (size tests n more first second third : ℕ) → more ≡ n + 1 → tests ≤ size → Rises tests first second → Rises (0 + size * n) second third → Rises (0 + size * more) first third
      rises_one size tests n more first second third s e a b =
          let product : size * (n + 1) ≡ size * n + size = grind arith in
          rw s (rises_then tests (0 + size * n) (0 + size * (n + 1)) first second third a b (omega arith))

  -- a rise is paid by one thing
  pub paid_once : (Kind : X → Type 0) (x : X) (size tests before after : ℕ) → tests ≤ size → Kind x → Rises tests before after → IsPaid Kind size 0 before after
  paid_once Kind x size tests before after e itself r = record {
    payers = x ∷ [];
    different = (in_none x, tt);
    each = λ y c. elim (front_or_rest x [] y c) [ inl f ↦ subst Kind f itself | inr d ↦ absurd (in_none y d) ];
    rises = rises_part tests (0 + size * 1) before after r (omega arith);
  }

  -- nothing rises
  pub paid_none : (Kind : X → Type 0) (cost before after : ℕ) → after ≡ before → IsPaid Kind cost 0 before after
  paid_none Kind cost before after e = paid_free Kind cost 0 before after (subst (Rises 0 before) (sym e) (rises_none 0 before))

  -- for any list that has all things of the kind
  pub bound_with : (Kind : X → Type 0) (cost free before after : ℕ) (all : List X) → IsPaid Kind cost free before after → ((x : X) → Kind x → Contains all x) → after ≤ before + free + cost * length all
  bound_with Kind cost free before after all p h =
      let few = p.rises.few in
      let size : length p.payers ≤ length all = no_longer p.payers all p.different (λ x c. h x (p.each x c)) in
      let less : cost * length p.payers ≤ cost * length all = more_cost cost (length p.payers) (length all) size in
      omega arith

  pub bound : (Kind : X → Type 0) (cost before after : ℕ) (all : List X) → IsPaid Kind cost 0 before after → ((x : X) → Kind x → Contains all x) → after ≤ before + cost * length all
  bound Kind cost before after all p h = (let most = bound_with Kind cost 0 before after all p h in omega arith)

  -- where there is nothing of the kind, the count stays
  pub unpaid : (Kind : X → Type 0) (cost before after : ℕ) → IsPaid Kind cost 0 before after → ((x : X) → ¬ Kind x) → after ≡ before
  unpaid Kind cost before after p none =
      let no_less = p.rises.no_less in
      let few = bound Kind cost before after [] p (λ x k. absurd (none x k)) in
      let nothing : cost * length {A = X} [] ≡ 0 = grind arith in
      omega arith
