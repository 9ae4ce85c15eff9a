-- What writing texts to a sink does to it.
use Rattle.std.specs.Prelude.{◌≡◌, ◌⊎◌, ℕ, List, ◌++◌}
use Rattle.std.specs.Io.KnownBytes.{Appends}
use Rattle.std.specs.List.{flat_map}
use Rattle.track_report.specs.Texts.{text_of}
use Rattle.track_report.specs.declared.replies.Reply.{Reply}
use Rattle.outer_io.specs.Supply.{Rises}
use Rattle.outer_io.specs.Receipt.{Receipt, IsFlushed}

-- the texts of replies, one after another
abbrev pub text_of_all : List Reply → List ℕ
text_of_all replies = flat_map text_of replies

-- a text was added, without a fault; a sink that isn't as it was is flushed
pub record WritesText (old new : Receipt) (text : List ℕ) : Type 0 where
  pub bytes : Appends old.written new.written text
  pub whole : (new ≡ old) ⊎ IsFlushed new
  pub faults : new.faults ≡ old.faults

-- a front of a text was added
abbrev pub WritesTextFront : Receipt → Receipt → List ℕ → Type 0
WritesTextFront old new text = (front : List ℕ) × (back : List ℕ) × (text ≡ front ++ back) × Appends old.written new.written front

-- a front of a text was added, and then a call failed
pub record FailsIn (old new : Receipt) (text : List ℕ) : Type 0 where
  pub bytes : WritesTextFront old new text
  pub faults : Rises old.faults new.faults
