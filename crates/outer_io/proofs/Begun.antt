-- What the loop of reads keeps: what was seen since it began has no line feed, and the buffer has the front of the begun line.
use Rattle.std.proofs.Common.{◌≡◌, ◌<◌, ℕ, ◌+◌, ◌-◌, ◌^◌, ◌≤◌, Bool, get_or, true, false, List, [], ◌∷◌, ◌++◌, length, take, drop, min, sym, ap, ◌∙◌, arith, refl, length-append, append_assoc}
use Rattle.std.proofs.Common.{◌≢◌, subst, length-take}
use Rattle.std.proofs.Common.{ne_eqb, eq-eqb}
use Rattle.std.proofs.lemmas.List.{drop_more, take_all, append-nil}
use Rattle.std.proofs.lemmas.List.Elements.{All-append}
use Rattle.std.proofs.lemmas.List.Edits.{length-between}
use Rattle.std.specs.Prelude.{Option, Some, None, ◌||◌, ◌==◌, slice_range}
use Rattle.std.specs.Io.KnownBytes.{Consumes, Keeps}
use Rattle.outer_io.proofs.Pieces.{take_min, front_goes_on, range_at}
use Rattle.outer_io.specs.Seen.{NoFeed}
use Rattle.outer_io.specs.Supply.{Supply, ReadFailed, risen, Rises}
use Rattle.outer_io.specs.Reached.{Took, Counts, KeepsFront, ReachedFrom}
use Rattle.outer_io.specs.declared.line_reader.Reached.TheVariants.{Feed, End, Failed, TooLong}

pub record BegunSo (begun buffer : List ℕ) (kept took_old took_new : ℕ) (old new : Supply) : Type 0 where
  pub seen : List ℕ
  pub room : kept ≤ 1026
  pub front : take kept buffer ≡ take 1026 (begun ++ seen)
  pub none : NoFeed seen
  pub took : Took old new seen false
  pub counts : Counts took_old took_new seen (2 ^ 32 - 1)
  pub faults : new.faults ≡ old.faults

-- nothing is consumed
pub Consumes-none : (known : Option (List ℕ)) → Consumes known known []
Consumes-none None = tt
Consumes-none (Some xs) = refl

-- bytes that are consumed one run after another
pub Consumes-append : (old mid new : Option (List ℕ)) (bs cs : List ℕ) → Consumes old mid bs → Consumes mid new cs → Consumes old new (bs ++ cs)
Consumes-append None mid new bs cs p q = tt
Consumes-append (Some xs) None new bs cs p q = absurd p
Consumes-append (Some xs) (Some ys) None bs cs p q = absurd q
Consumes-append (Some xs) (Some ys) (Some zs) bs cs p q = p ∙ ap (λ t. bs ++ t) q ∙ sym (append_assoc bs cs zs)

-- known bytes that are kept lose none
pub Consumes-from_Keeps : (old new : Option (List ℕ)) → Keeps old new → Consumes old new []
Consumes-from_Keeps None new p = tt
Consumes-from_Keeps (Some xs) None p = absurd p
Consumes-from_Keeps (Some xs) (Some ys) p = sym p

or_false : (b : Bool) → b ≡ (b || false)
or_false true = refl
or_false false = refl

pub or_assoc_false : (a b c : Bool) → a ≡ (b || false) → (a || c) ≡ (b || c)
or_assoc_false a true c e = ap (λ t. t || c) e
or_assoc_false a false c e = ap (λ t. t || c) e

-- no read yet
pub Took-none : (s : Supply) → Took s s [] false
Took-none s = record { consumed = Consumes-none s.left; taken = omega arith; marked = or_false s.ended; none_left = λ e. cc }

pub start : (begun buffer : List ℕ) (kept took : ℕ) (s : Supply) → kept ≤ 1026 → took < 2 ^ 32 → begun ≡ take kept buffer → BegunSo begun buffer kept took took s s
start begun buffer kept took s room limit is = record {
  seen = [];
  room = room;
  front = sym (take_all 1026 _ (omega (arith, ap length is, length-take kept buffer, length-append begun [])) ∙ append-nil begun ∙ is);
  none = λ k d low. absurd (omega arith);
  took = Took-none s;
  counts = record { sum = omega arith; within = omega arith };
  faults = refl;
}

-- runs of reads that end no line, one after another
pub Took-append : (old mid new : Supply) (bs cs : List ℕ) (end : Bool) → Took old mid bs false → Took mid new cs end → Took old new (bs ++ cs) end
Took-append old mid new bs cs end p q = record {
  consumed = Consumes-append old.left mid.left new.left bs cs p.consumed q.consumed;
  taken = q.taken ∙ ap (λ t. risen t (length cs)) p.taken ∙ omega (arith, length-append bs cs);
  marked = q.marked ∙ or_assoc_false mid.ended old.ended end p.marked;
  none_left = q.none_left;
}

pub NoFeed-append : (bs cs : List ℕ) → NoFeed bs → NoFeed cs → NoFeed (bs ++ cs)
NoFeed-append bs cs p q = All-append (λ byte. (byte == 10) ≡ false) bs cs p q

-- the buffer has the front of the begun line, with what a read gave
pub front_kept : (begun buffer_old buffer seen : List ℕ) (kept n : ℕ) → kept ≤ 1026 → take kept buffer_old ≡ take 1026 (begun ++ seen) → take kept buffer ≡ take kept buffer_old
    → kept + n ≤ length buffer → take (min (kept + n) 1026) buffer ≡ take 1026 (begun ++ (seen ++ slice_range buffer kept (kept + n)))
front_kept begun buffer_old buffer seen kept n room front same fits =
    take_min (kept + n) 1026 buffer ∙ front_goes_on (begun ++ seen) buffer kept n (same ∙ front) fits ∙ ap (λ t. take 1026 t) (append_assoc begun seen _)

pub go_on : (begun buffer_old buffer : List ℕ) (kept n kept_now took_old took_mid : ℕ) (old mid new : Supply) → BegunSo begun buffer_old kept took_old took_mid old mid
    → take kept buffer ≡ take kept buffer_old → kept + n ≤ length buffer → took_mid + n < 2 ^ 32
    → n ≢ 0 → Took mid new (slice_range buffer kept (kept + n)) (n == 0) → NoFeed (slice_range buffer kept (kept + n)) → new.faults ≡ mid.faults
    → kept_now ≡ min (kept + n) 1026
    → BegunSo begun buffer kept_now took_old (took_mid + n) old new
go_on begun buffer_old buffer kept n kept_now took_old took_mid old mid new b same fits limit some t none faults cut = record {
  seen = b.seen ++ slice_range buffer kept (kept + n);
  room = omega arith;
  front = ap (λ m. take m buffer) cut ∙ front_kept begun buffer_old buffer b.seen kept n b.room b.front same fits;
  none = NoFeed-append b.seen _ b.none none;
  took = subst (Took old new (b.seen ++ slice_range buffer kept (kept + n))) (ne_eqb n 0 some) (Took-append old mid new b.seen _ (n == 0) b.took t);
  counts = record { sum = omega (arith, length-append b.seen (slice_range buffer kept (kept + n)), length-between buffer kept (kept + n) fits); within = omega arith };
  faults = faults ∙ b.faults;
}

-- the end was answered
pub at_end : (begun buffer_old buffer : List ℕ) (kept n took_old took_mid : ℕ) (old mid new : Supply) → BegunSo begun buffer_old kept took_old took_mid old mid
    → take kept buffer ≡ take kept buffer_old → n ≡ 0
    → Took mid new (slice_range buffer kept (kept + n)) (n == 0) → new.faults ≡ mid.faults
    → ReachedFrom begun buffer took_old took_mid old new (End kept)
at_end begun buffer_old buffer kept n took_old took_mid old mid new b same zero t faults =
    let len : (kept + n) - kept ≡ 0 = omega arith in
    let none : slice_range buffer kept (kept + n) ≡ [] = ap (λ m. take m (drop kept buffer)) len in
    let taken : Took old new (b.seen ++ slice_range buffer kept (kept + n)) (n == 0) = Took-append old mid new b.seen _ (n == 0) b.took t in
    let all : b.seen ++ slice_range buffer kept (kept + n) ≡ b.seen = ap (λ t. b.seen ++ t) none ∙ append-nil b.seen in (
      b.seen,
      b.room,
      same ∙ b.front,
      b.none,
      subst (λ e. Took old new b.seen e) (eq-eqb n 0 zero) (subst (λ bs. Took old new bs (n == 0)) all taken),
      b.counts,
      faults ∙ b.faults,
    )

-- a read failed
pub at_fault : (begun buffer_old buffer : List ℕ) (kept took_old took_mid : ℕ) (old mid new : Supply) → BegunSo begun buffer_old kept took_old took_mid old mid
    → ReadFailed mid new → ReachedFrom begun buffer took_old took_mid old new Failed
at_fault begun buffer_old buffer kept took_old took_mid old mid new b f =
    let nothing : Took mid new [] false = record {
      consumed = Consumes-from_Keeps mid.left new.left f.bytes;
      taken = f.taken ∙ omega arith;
      marked = f.marked ∙ or_false mid.ended;
      none_left = λ e. cc;
    } in (
      b.seen,
      b.none,
      subst (λ bs. Took old new bs false) (append-nil b.seen) (Took-append old mid new b.seen [] false b.took nothing),
      b.counts,
      subst (λ n. Rises n new.faults) b.faults f.faults,
    )

-- a byte came after as many as an input may have
pub at_limit : (begun buffer_old buffer : List ℕ) (kept n took_old took_mid : ℕ) (old mid new : Supply) → BegunSo begun buffer_old kept took_old took_mid old mid
    → kept + n ≤ length buffer → n ≡ 1 → took_mid ≡ 2 ^ 32 - 1
    → Took mid new (slice_range buffer kept (kept + n)) (n == 0) → new.faults ≡ mid.faults
    → ReachedFrom begun buffer took_old (took_mid + n) old new TooLong
at_limit begun buffer_old buffer kept n took_old took_mid old mid new b fits one full t faults =
    let len : (kept + n) - kept ≡ 1 = omega arith in
    let piece : slice_range buffer kept (kept + n) ≡ get_or buffer kept 0 ∷ [] =
    ap (λ m. take m (drop kept buffer)) len ∙ ap (λ xs. take 1 xs) (drop_more buffer kept 0 (omega arith)) in
    let taken : Took old new (b.seen ++ slice_range buffer kept (kept + n)) (n == 0) = Took-append old mid new b.seen _ (n == 0) b.took t in (
      b.seen,
      get_or buffer kept 0,
      b.none,
      subst (λ e. Took old new (b.seen ++ get_or buffer kept 0 ∷ []) e) (ne_eqb n 0 (λ z. omega arith))
          (subst (λ bs. Took old new (b.seen ++ bs) (n == 0)) piece taken),
      record { sum = omega (arith, length-append b.seen (get_or buffer kept 0 ∷ [])); within = omega arith },
      omega arith,
      faults ∙ b.faults,
    )

-- a line feed came
pub at_feed : (begun buffer_old buffer : List ℕ) (kept n feed took_old took_mid : ℕ) (old mid new : Supply) → BegunSo begun buffer_old kept took_old took_mid old mid
    → take kept buffer ≡ take kept buffer_old → kept + n ≤ length buffer → took_mid + n < 2 ^ 32
    → kept ≤ feed → feed < kept + n → NoFeed (slice_range buffer kept feed) → get_or buffer feed 0 ≡ 10
    → Took mid new (slice_range buffer kept (kept + n)) (n == 0) → new.faults ≡ mid.faults
    → ReachedFrom begun buffer took_old (took_mid + n) old new (Feed feed (kept + n))
at_feed begun buffer_old buffer kept n feed took_old took_mid old mid new b same fits limit low high none is t faults =
    let before : List ℕ = slice_range buffer kept feed in
    let behind : List ℕ = slice_range buffer (feed + 1) (kept + n) in
    let some : n ≢ 0 = λ z. omega arith in
    let taken : Took old new (b.seen ++ slice_range buffer kept (kept + n)) (n == 0) = Took-append old mid new b.seen _ (n == 0) b.took t in
    let cut : b.seen ++ slice_range buffer kept (kept + n) ≡ (b.seen ++ before) ++ 10 ∷ behind =
    ap (λ t. b.seen ++ t) (range_at buffer kept feed (kept + n) low high fits is) ∙ sym (append_assoc b.seen before (10 ∷ behind)) in
    let at : kept + (feed - kept) ≡ feed = omega arith in
    let front : KeepsFront (take feed buffer) (begun ++ (b.seen ++ before)) =
    subst (λ m. take 1026 (take m buffer) ≡ take 1026 (begun ++ (b.seen ++ slice_range buffer kept m))) at
    (front_goes_on (begun ++ b.seen) buffer kept (feed - kept) (same ∙ b.front) (omega arith)
    ∙ ap (λ t. take 1026 t) (append_assoc begun b.seen (slice_range buffer kept (kept + (feed - kept))))) in (
      b.seen ++ before,
      high,
      fits,
      front,
      NoFeed-append b.seen before b.none none,
      subst (λ e. Took old new ((b.seen ++ before) ++ 10 ∷ behind) e) (ne_eqb n 0 some) (subst (λ bs. Took old new bs (n == 0)) cut taken),
      record {
        sum = omega (arith, ap length (sym cut), length-append b.seen (slice_range buffer kept (kept + n)), length-between buffer kept (kept + n) fits);
        within = omega arith;
      },
      faults ∙ b.faults,
    )
