-- What each answer of the reader says, from what it came to.
use Rattle.std.proofs.Common.{◌≡◌, ◌<◌, ℕ, ◌+◌, ◌-◌, ◌^◌, ◌≤◌, Bool, true, false, List, [], ◌∷◌, ◌++◌, length, take, sym, ap, subst, ◌∙◌, arith, refl, inl, inr, length-append, append_assoc}
use Rattle.std.proofs.lemmas.List.{append-nil}
use Rattle.std.specs.Prelude.{Option, Some, None, Result, Ok, Err, IfSome, IsSomeAnd, ◌||◌, ◌↔◌, if◌then◌else◌}
use Rattle.std.specs.Str.Lines.{lines, strip_carriage_return}
use Rattle.std.specs.Io.KnownBytes.{Consumes, IsAtEnd, prepend_known}
use Rattle.std.proofs.KnownBytes.{Consumes-nil}
use Rattle.outer_io.proofs.LineCuts.{lines_at_feed, lines_of_last}
use Rattle.outer_io.specs.Supply.{Supply}
use Rattle.outer_io.specs.Seen.{NoFeed}
use Rattle.outer_io.specs.Reading.{Reading, ahead, used, HandsOut, SawNoLine, FaultsAfter, CountsOn, Ends}
use Rattle.outer_io.specs.Advance.{Advances, Moved, IsOver}
use Rattle.outer_io.specs.declared.line_reader.Got.{Got}
use Rattle.outer_io.specs.declared.line_reader.Got.TheVariants.{Line, End}
use Rattle.outer_io.specs.declared.line_reader.ReadStop.{ReadStop}
use Rattle.outer_io.specs.declared.line_reader.ReadStop.TheVariants.{Failed, TooLong}

ahead_unended : (r : Reading) (s : Supply) → r.ended ≡ false → ahead r s ≡ prepend_known r.held s.left
ahead_unended r s e = ap (λ b. if b then Some r.held else prepend_known r.held s.left) e

ahead_ended : (r : Reading) (s : Supply) → r.ended ≡ true → ahead r s ≡ Some r.held
ahead_ended r s e = ap (λ b. if b then Some r.held else prepend_known r.held s.left) e

feed_told : (held_old held_new raw given line : List ℕ) (old new : Option (List ℕ)) → NoFeed raw → held_old ++ given ≡ raw ++ 10 ∷ held_new → Consumes old new given
    → line ≡ take 1025 (strip_carriage_return raw)
    → IfSome (prepend_known held_old old) (λ bytes. IsSomeAnd (prepend_known held_new new) (λ rest. HandsOut bytes line rest false))
feed_told held_old held_new raw given line None new none cut consumed is = tt
feed_told held_old held_new raw given line (Some xs) None none cut consumed is = absurd consumed
feed_told held_old held_new raw given line (Some xs) (Some ys) none cut consumed is =
    let whole : held_old ++ xs ≡ raw ++ 10 ∷ (held_new ++ ys) =
    ap (λ t. held_old ++ t) consumed ∙ sym (append_assoc held_old given ys) ∙ ap (λ t. t ++ ys) cut ∙ append_assoc raw (10 ∷ held_new) ys in
    record {
      content = strip_carriage_return raw;
      first = ap lines whole ∙ lines_at_feed raw (held_new ++ ys) none;
      cut = is;
      place = (raw, none, whole, refl);
    }

last_told : (held given line : List ℕ) (old new : Option (List ℕ)) → NoFeed (held ++ given) → 0 < length (held ++ given) → Consumes old new given → IsAtEnd new
    → line ≡ take 1025 (held ++ given) → IfSome (prepend_known held old) (λ bytes. HandsOut bytes line [] true)
last_told held given line None new none some consumed end is = tt
last_told held given line (Some xs) None none some consumed end is = absurd consumed
last_told held given line (Some xs) (Some ys) none some consumed end is =
    let whole : held ++ given ≡ held ++ xs = ap (λ t. held ++ t) (sym (consumed ∙ ap (λ t. given ++ t) end ∙ append-nil given)) in
    subst (λ bytes. HandsOut bytes line [] true) whole (record {
      content = held ++ given;
      first = lines_of_last (held ++ given) none some;
      cut = is;
      place = (none, some, refl, refl);
    })

end_told : (held given : List ℕ) (old new : Option (List ℕ)) → held ++ given ≡ [] → Consumes old new given → IsAtEnd new → IfSome (prepend_known held old) (λ bytes. bytes ≡ [])
end_told held given None new none consumed end = tt
end_told held given (Some xs) None none consumed end = absurd consumed
end_told held given (Some xs) (Some ys) none consumed end = ap (λ t. held ++ t) (consumed ∙ ap (λ t. given ++ t) end ∙ append-nil given) ∙ none

pub Consumes-prepend : (held given : List ℕ) (old new : Option (List ℕ)) → Consumes old new given → Consumes (prepend_known held old) new (held ++ given)
Consumes-prepend held given None new consumed = tt
Consumes-prepend held given (Some xs) None consumed = absurd consumed
Consumes-prepend held given (Some xs) (Some ys) consumed = ap (λ t. held ++ t) consumed ∙ sym (append_assoc held given ys)

line_told : (r n : Reading) (s t : Supply) (old new : Option (List ℕ)) (last : Bool) → ahead r s ≡ old → ahead n t ≡ new → n.ended ≡ last
    → IfSome old (λ bytes. IsSomeAnd new (λ rest. HandsOut bytes n.line rest last))
    → IfSome (ahead r s) (λ bytes. IsSomeAnd (ahead n t) (λ rest. HandsOut bytes n.line rest n.ended))
line_told r n s t old new last was is ended told =
    subst (λ o. IfSome o (λ bytes. IsSomeAnd (ahead n t) (λ rest. HandsOut bytes n.line rest n.ended))) (sym was)
    (subst (λ o. IfSome old (λ bytes. IsSomeAnd o (λ rest. HandsOut bytes n.line rest n.ended))) (sym is)
    (subst (λ b. IfSome old (λ bytes. IsSomeAnd new (λ rest. HandsOut bytes n.line rest b))) (sym ended) told))

-- the first line of what was ahead is handed out
pub line_handed_out : (r n : Reading) (s t : Supply) (result : Result Got ReadStop) → Advances r n s t result → result ≡ Ok Line
    → IfSome (ahead r s) (λ bytes. IsSomeAnd (ahead n t) (λ rest. HandsOut bytes n.line rest n.ended))
line_handed_out r n s t (Ok Line) (inl p) e =
    line_told r n s t (prepend_known r.held s.left) (prepend_known n.held t.left) false (ahead_unended r s p.moved.unended) (ahead_unended n t p.moved.ended) p.moved.ended
    (feed_told r.held n.held p.raw p.given n.line s.left t.left p.none p.cut p.moved.took.consumed p.line)
line_handed_out r n s t (Ok Line) (inr p) e =
    line_told r n s t (prepend_known r.held s.left) (Some []) true (ahead_unended r s p.moved.unended) (ahead_ended n t p.moved.ended ∙ ap Some p.held) p.moved.ended
    (last_told r.held p.given n.line s.left t.left p.none p.some p.moved.took.consumed (p.moved.took.none_left refl) p.line)
line_handed_out r n s t (Ok End) a e = cc
line_handed_out r n s t (Err stop) a e = cc

-- at the end nothing is ahead
pub end_reached : (r n : Reading) (s t : Supply) (result : Result Got ReadStop) → Advances r n s t result → result ≡ Ok End → IfSome (ahead r s) (λ bytes. bytes ≡ [])
end_reached r n s t (Ok End) (inl p) e =
    subst (λ o. IfSome o (λ bytes. bytes ≡ [])) (sym (ahead_unended r s p.moved.unended))
    (end_told r.held p.given s.left t.left p.none p.moved.took.consumed (p.moved.took.none_left refl))
end_reached r n s t (Ok End) (inr p) e = subst (λ o. IfSome o (λ bytes. bytes ≡ [])) (sym (ahead_ended r s p.over ∙ ap Some p.held)) refl
end_reached r n s t (Ok Line) a e = cc
end_reached r n s t (Err stop) a e = cc

saw_none : (r n : Reading) (s t : Supply) (given last : List ℕ) → NoFeed (r.held ++ given) → Moved r n s t (given ++ last) false → SawNoLine r n s t last
saw_none r n s t given last none moved = record {
  seen = r.held ++ given;
  none = none;
  count = moved.counted ∙ omega (arith, moved.held, length-append given last, length-append (r.held ++ given) last, length-append r.held given);
  bytes = subst (λ o. Consumes o t.left ((r.held ++ given) ++ last)) (sym (ahead_unended r s moved.unended))
      (subst (λ bs. Consumes (prepend_known r.held s.left) t.left bs) (sym (append_assoc r.held given last))
      (Consumes-prepend r.held (given ++ last) s.left t.left moved.took.consumed));
}

-- at a fault no line feed was seen
pub no_line_before_fault : (r n : Reading) (s t : Supply) (result : Result Got ReadStop) → Advances r n s t result → result ≡ Err Failed → SawNoLine r n s t []
no_line_before_fault r n s t (Err Failed) p e = saw_none r n s t p.given [] p.none (subst (λ bs. Moved r n s t bs false) (sym (append-nil p.given)) p.moved)
no_line_before_fault r n s t (Err TooLong) a e = cc
no_line_before_fault r n s t (Ok got) a e = cc

-- nor before a byte too many
pub no_line_before_limit : (r n : Reading) (s t : Supply) (result : Result Got ReadStop) → Advances r n s t result → result ≡ Err TooLong
    → (extra : ℕ) × SawNoLine r n s t (extra ∷ [])
no_line_before_limit r n s t (Err TooLong) p e = (p.extra, saw_none r n s t p.given (p.extra ∷ []) p.none p.moved)
no_line_before_limit r n s t (Err Failed) a e = cc
no_line_before_limit r n s t (Ok got) a e = cc

pub faults_after : (r n : Reading) (s t : Supply) (result : Result Got ReadStop) → Advances r n s t result → FaultsAfter result s.faults t.faults
faults_after r n s t (Ok Line) (inl p) = p.faults
faults_after r n s t (Ok Line) (inr p) = p.faults
faults_after r n s t (Ok End) (inl p) = p.faults
faults_after r n s t (Ok End) (inr p) = ap (λ x. x.faults) p.source
faults_after r n s t (Err Failed) p = p.faults
faults_after r n s t (Err TooLong) p = p.faults

moved_counts : (r n : Reading) (s t : Supply) (given : List ℕ) (end : Bool) → Moved r n s t given end → n.took ≤ 2 ^ 32 → length n.held ≤ n.took → CountsOn r n s t
moved_counts r n s t given end m within held = record {
  given = given;
  bytes = m.took.consumed;
  counted = m.counted;
  taken = m.took.taken;
  within = within;
  held = held;
}

-- a reader that was at its end takes nothing
over_counts : (r n : Reading) (s t : Supply) → IsOver r n s t → CountsOn r n s t
over_counts r n s t p = record {
  given = [];
  bytes = subst (λ (x : Supply). Consumes s.left x.left []) (sym p.source) (Consumes-nil s.left);
  counted = omega (arith, p.took);
  taken = ap (λ (x : Supply). x.taken) p.source ∙ omega arith;
  within = omega (arith, p.limit);
  held = omega (arith, ap length p.stops.held);
}

pub counts_on : (r n : Reading) (s t : Supply) (result : Result Got ReadStop) → Advances r n s t result → CountsOn r n s t
counts_on r n s t (Ok Line) (inl p) = moved_counts r n s t p.given false p.moved (omega (arith, p.limit))
    (omega (arith, ap length p.cut, length-append r.held p.given, length-append p.raw (10 ∷ n.held), p.moved.held, p.moved.counted))
counts_on r n s t (Ok Line) (inr p) = moved_counts r n s t p.given true p.moved (omega (arith, p.limit)) (omega (arith, ap length p.held))
counts_on r n s t (Ok End) (inl p) = moved_counts r n s t p.given true p.moved (omega (arith, p.limit)) (omega (arith, ap length p.stops.held))
counts_on r n s t (Ok End) (inr p) = over_counts r n s t p
counts_on r n s t (Err Failed) p = moved_counts r n s t p.given false p.moved (omega (arith, p.limit)) (omega (arith, ap length p.stops.held))
counts_on r n s t (Err TooLong) p = moved_counts r n s t (p.given ++ p.extra ∷ []) false p.moved (omega (arith, p.limit)) (omega (arith, ap length p.stops.held))

-- only a byte too many passes the limit
pub limit_passed : (r n : Reading) (s t : Supply) (result : Result Got ReadStop) → Advances r n s t result → (result ≡ Err TooLong) ↔ (n.took ≡ 2 ^ 32)
limit_passed r n s t (Ok Line) (inl p) = (λ e. cc, λ e. absurd (omega (arith, p.limit)))
limit_passed r n s t (Ok Line) (inr p) = (λ e. cc, λ e. absurd (omega (arith, p.limit)))
limit_passed r n s t (Ok End) (inl p) = (λ e. cc, λ e. absurd (omega (arith, p.limit)))
limit_passed r n s t (Ok End) (inr p) = (λ e. cc, λ e. absurd (omega (arith, p.limit)))
limit_passed r n s t (Err Failed) p = (λ e. cc, λ e. absurd (omega (arith, p.limit)))
limit_passed r n s t (Err TooLong) p = (λ e. p.limit, λ e. refl)

-- each line uses up a byte at least
pub uses_up : (r n : Reading) (s t : Supply) (result : Result Got ReadStop) → Advances r n s t result → result ≡ Ok Line → used r < used n
uses_up r n s t (Ok Line) (inl p) e =
    omega (arith, ap length p.cut, length-append r.held p.given, length-append p.raw (10 ∷ n.held), p.moved.held, p.moved.counted)
uses_up r n s t (Ok Line) (inr p) e =
    omega (arith, ap length p.held, length-append r.held p.given, p.some, p.moved.held, p.moved.counted)
uses_up r n s t (Ok End) a e = cc
uses_up r n s t (Err stop) a e = cc

moved_ends : (r n : Reading) (s t : Supply) (given : List ℕ) (end : Bool) → Moved r n s t given end → (n.ended ≡ true → n.held ≡ []) → Ends r n s t
moved_ends r n s t given end m held = record {
  marked = λ _. m.took.marked ∙ ap (λ b. s.ended || b) (sym m.ended);
  none_left = λ _ e. m.took.none_left (sym m.ended ∙ e);
  none_held = held;
  stays = λ e. cc;
}

pub ends_marked : (r n : Reading) (s t : Supply) (result : Result Got ReadStop) → Advances r n s t result → Ends r n s t
ends_marked r n s t (Ok Line) (inl p) = moved_ends r n s t p.given false p.moved (λ e. cc)
ends_marked r n s t (Ok Line) (inr p) = moved_ends r n s t p.given true p.moved (λ _. p.held)
ends_marked r n s t (Ok End) (inl p) = moved_ends r n s t p.given true p.moved (λ _. p.stops.held)
ends_marked r n s t (Ok End) (inr p) = record { marked = λ e. cc; none_left = λ e. cc; none_held = λ _. p.stops.held; stays = λ _. p.ended }
ends_marked r n s t (Err Failed) p = moved_ends r n s t p.given false p.moved (λ _. p.stops.held)
ends_marked r n s t (Err TooLong) p = moved_ends r n s t (p.given ++ p.extra ∷ []) false p.moved (λ _. p.stops.held)

pub end_answered : (r n : Reading) (s t : Supply) (result : Result Got ReadStop) → Advances r n s t result → result ≡ Ok End → n.ended ≡ true
end_answered r n s t (Ok End) (inl p) e = p.moved.ended
end_answered r n s t (Ok End) (inr p) e = p.ended
end_answered r n s t (Ok Line) a e = cc
end_answered r n s t (Err stop) a e = cc

pub stops_exactly : (r n : Reading) (s t : Supply) (result : Result Got ReadStop) → Advances r n s t result → (n.stopped ≡ false) ↔ (result ≡ Ok Line)
stops_exactly r n s t (Ok Line) (inl p) = (λ _. refl, λ _. p.going)
stops_exactly r n s t (Ok Line) (inr p) = (λ _. refl, λ _. p.going)
stops_exactly r n s t (Ok End) (inl p) = (λ e. let s = p.stops.stopped in cc, λ e. cc)
stops_exactly r n s t (Ok End) (inr p) = (λ e. let s = p.stops.stopped in cc, λ e. cc)
stops_exactly r n s t (Err Failed) p = (λ e. let s = p.stops.stopped in cc, λ e. cc)
stops_exactly r n s t (Err TooLong) p = (λ e. let s = p.stops.stopped in cc, λ e. cc)

pub empty_when_stopped : (r n : Reading) (s t : Supply) (result : Result Got ReadStop) → Advances r n s t result → n.stopped ≡ true → (n.held ≡ []) × (n.line ≡ [])
empty_when_stopped r n s t (Ok Line) (inl p) e = let g = p.going in cc
empty_when_stopped r n s t (Ok Line) (inr p) e = let g = p.going in cc
empty_when_stopped r n s t (Ok End) (inl p) e = (p.stops.held, p.stops.line)
empty_when_stopped r n s t (Ok End) (inr p) e = (p.stops.held, p.stops.line)
empty_when_stopped r n s t (Err Failed) p e = (p.stops.held, p.stops.line)
empty_when_stopped r n s t (Err TooLong) p e = (p.stops.held, p.stops.line)

pub over_is_end : (r n : Reading) (s t : Supply) (result : Result Got ReadStop) → Advances r n s t result → r.ended ≡ true → result ≡ Ok End
over_is_end r n s t (Ok End) a e = refl
over_is_end r n s t (Ok Line) (inl p) e = let u = p.moved.unended in cc
over_is_end r n s t (Ok Line) (inr p) e = let u = p.moved.unended in cc
over_is_end r n s t (Err Failed) p e = let u = p.moved.unended in cc
over_is_end r n s t (Err TooLong) p e = let u = p.moved.unended in cc
