-- What several writes in a row do to a sink.
use Rattle.std.proofs.Common.{◌≡◌, ℕ, ◌-◌, ◌++◌, List, [], ◌∙◌, refl, sym, ap, subst, append_assoc, append-nil, arith, inl, inr, length, take, drop, take-append-drop, length-drop}
use Rattle.std.specs.Prelude.{◌⊎◌}
use Rattle.std.specs.Io.KnownBytes.{Appends}
use Rattle.std.proofs.KnownBytes.{Appends-nil, Appends-trans}
use Rattle.std.proofs.lemmas.List.{take_all}
use Rattle.outer_io.specs.Receipt.{Receipt, IsFlushed, Wrote}
use Rattle.mops_run.specs.Output.{WritesText, WritesTextFront, FailsIn}

-- a front of the text is written, and the rest is not, without a fault
pub record WroteFront (old new : Receipt) (text rest : List ℕ) : Type 0 where
  pub bytes : (front : List ℕ) × (text ≡ front ++ rest) × Appends old.written new.written front
  pub faults : new.faults ≡ old.faults

-- one more write of the rest
pub WroteFront-more : (old mid new : Receipt) (text rest : List ℕ) (n : ℕ) → WroteFront old mid text rest → Wrote mid new rest n
    → WroteFront old new text (take (length rest - n) (drop n rest))
WroteFront-more old mid new text rest n so w =
    let whole : take (length rest - n) (drop n rest) ≡ drop n rest = take_all (length rest - n) (drop n rest) (omega (arith, length-drop n rest)) in
    let parts : text ≡ (so.bytes.0 ++ take n rest) ++ drop n rest =
    so.bytes.1 ∙ ap (λ xs. so.bytes.0 ++ xs) (sym (take-append-drop n rest)) ∙ sym (append_assoc so.bytes.0 (take n rest) (drop n rest)) in
    rw whole (record {
      bytes = (so.bytes.0 ++ take n rest, parts, Appends-trans _ _ _ _ _ so.bytes.2 w.bytes);
      faults = w.faults ∙ so.faults;
    })

-- two texts, one behind the other
pub WritesText-then : (old mid new : Receipt) (text more : List ℕ) → WritesText old mid text → WritesText mid new more → WritesText old new (text ++ more)
WritesText-then old mid new text more a b = record {
  bytes = Appends-trans old.written mid.written new.written text more a.bytes b.bytes;
  whole = elim b.whole [ inl same ↦ subst (λ (r : Receipt). (r ≡ old) ⊎ IsFlushed r) (sym same) a.whole | inr flushed ↦ inr flushed ];
  faults = b.faults ∙ a.faults;
}

-- nothing is written yet
pub WritesText-nothing : (sink : Receipt) → WritesText sink sink []
WritesText-nothing sink = record { bytes = Appends-nil sink.written; whole = inl refl; faults = refl }
