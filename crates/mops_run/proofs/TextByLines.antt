-- Writing a text line by line.
use Rattle.std.proofs.Common.{◌≡◌, ℕ, ◌++◌, List, [], ◌∷◌, ◌∙◌, map, refl, sym, ap, subst, append_assoc, append-nil}
use Rattle.std.proofs.KnownBytes.{Appends-trans}
use Rattle.std.specs.List.{flat_map}
use Rattle.made_sky.specs.MadeSky.{MadeSky, detection_line, made_detection, made_text}
use Rattle.made_sky.specs.Sightings.{sightings}
use Rattle.made_sky.specs.declared.sightings.Sighting.{Sighting}
use Rattle.outer_io.specs.Supply.{Rises}
use Rattle.outer_io.specs.Receipt.{Receipt}
use Rattle.mops_run.specs.Output.{WritesText, WritesTextFront, FailsIn}
use Rattle.mops_run.specs.Promise.{Writes}
use Rattle.mops_run.specs.declared.top.Status.TheVariants.{Done, WriteFault, NoMemory}
use Rattle.mops_run.proofs.Receipts.{WritesText-then, WritesText-nothing}

-- a front of a text is written, and the rest is not yet
pub record WroteSome (old new : Receipt) (text rest : List ℕ) : Type 0 where
  pub front : List ℕ
  pub parts : text ≡ front ++ rest
  pub adds : WritesText old new front

pub WroteSome-none : (sink : Receipt) (text rest : List ℕ) → text ≡ rest → WroteSome sink sink text rest
WroteSome-none sink text rest same = record { front = []; parts = same; adds = WritesText-nothing sink }

-- one more line is written
pub WroteSome-line : (old mid new : Receipt) (text line rest : List ℕ) → WroteSome old mid text (line ++ rest) → WritesText mid new line → WroteSome old new text rest
WroteSome-line old mid new text line rest so adds = record {
  front = so.front ++ line;
  parts = so.parts ∙ sym (append_assoc so.front line rest);
  adds = WritesText-then old mid new so.front line so.adds adds;
}

-- all lines are written
pub Writes-all : (old new : Receipt) (text : List ℕ) → WroteSome old new text [] → Writes Done old new text
Writes-all old new text so =
    let whole : text ≡ so.front = so.parts ∙ append-nil so.front in
    let adds : WritesText old new text = subst (λ t. WritesText old new t) (sym whole) so.adds in
    record { whole = adds; front = (so.front, [], so.parts, so.adds.bytes); faults = so.adds.faults; ends = tt }

-- memory was wanting for the next line
pub Writes-no_memory : (old mid new : Receipt) (text rest : List ℕ) → WroteSome old mid text rest → new ≡ mid → Writes NoMemory old new text
Writes-no_memory old mid new text rest so same = subst (λ (r : Receipt). Writes NoMemory old r text) (sym same)
    (record { whole = tt; front = (so.front, rest, so.parts, so.adds.bytes); faults = so.adds.faults; ends = tt })

-- a write failed in the middle of the next line
pub Writes-failed : (old mid new : Receipt) (text line rest : List ℕ) → WroteSome old mid text (line ++ rest) → FailsIn mid new line → Writes WriteFault old new text
Writes-failed old mid new text line rest so fails =
    let part = fails.bytes in
    let faults : mid.faults ≡ old.faults = so.adds.faults in
    record {
      whole = tt;
      front = (
        so.front ++ part.0,
        part.1 ++ rest,
        so.parts ∙ ap (λ t. so.front ++ (t ++ rest)) part.2 ∙ simp append_assoc,
        Appends-trans old.written mid.written new.written so.front part.0 so.adds.bytes part.3,
      );
      faults = subst (λ n. Rises n new.faults) faults fails.faults;
      ends = tt;
    }

-- ---- the lines of a made sky

-- the lines of some sightings
abbrev pub lines_of : MadeSky → List Sighting → List ℕ
lines_of sky ss = flat_map detection_line (map (λ (s : Sighting). made_detection sky s.night s.exposure s.object) ss)

pub WroteSome-of_sky : (sink : Receipt) (sky : MadeSky) (left : List Sighting) → left ≡ sightings sky.nights sky.objects → WroteSome sink sink (made_text sky) (lines_of sky left)
WroteSome-of_sky sink sky left all = WroteSome-none sink (made_text sky) (lines_of sky left) (ap (lines_of sky) (sym all))

-- the next line of those that are left
pub with_next : (old mid : Receipt) (text : List ℕ) (sky : MadeSky) (left later : List Sighting) (s : Sighting) → left ≡ s ∷ later → WroteSome old mid text (lines_of sky left)
    → WroteSome old mid text (detection_line (made_detection sky s.night s.exposure s.object) ++ lines_of sky later)
with_next old mid text sky left later s is so = subst (λ ss. WroteSome old mid text (lines_of sky ss)) is so
