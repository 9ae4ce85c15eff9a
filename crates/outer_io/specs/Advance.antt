-- How a reader goes on to the next line, by what it comes to.
use Rattle.std.specs.Prelude.{◌≡◌, ℕ, ◌+◌, ◌^◌, ◌<◌, ◌≤◌, ◌⊎◌, Bool, true, false, List, [], ◌∷◌, ◌++◌, Result, Ok, Err, length, take}
use Rattle.std.specs.Str.Lines.{strip_carriage_return}
use Rattle.outer_io.specs.Supply.{Supply, Rises}
use Rattle.outer_io.specs.Seen.{NoFeed}
use Rattle.outer_io.specs.Reached.{Took}
use Rattle.outer_io.specs.Reading.{Reading}
use Rattle.outer_io.specs.declared.line_reader.Got.{Got}
use Rattle.outer_io.specs.declared.line_reader.Got.TheVariants.{Line, End}
use Rattle.outer_io.specs.declared.line_reader.ReadStop.{ReadStop}
use Rattle.outer_io.specs.declared.line_reader.ReadStop.TheVariants.{Failed, TooLong}

-- a reader that no read had answered the end took these bytes, and then a read answered it or didn't
pub record Moved (reader_old reader_new : Reading) (old new : Supply) (given : List ℕ) (end : Bool) : Type 0 where
  pub took : Took old new given end
  pub unended : reader_old.ended ≡ false
  pub ended : reader_new.ended ≡ end
  pub held : length reader_old.held ≤ reader_old.took
  pub counted : reader_new.took ≡ reader_old.took + length given

-- a line feed came: the line before it is handed out, and what comes behind it is held back
pub record PassesFeed (reader_old reader_new : Reading) (old new : Supply) : Type 0 where
  pub raw : List ℕ
  pub given : List ℕ
  pub none : NoFeed raw
  pub cut : reader_old.held ++ given ≡ raw ++ 10 ∷ reader_new.held
  pub line : reader_new.line ≡ take 1025 (strip_carriage_return raw)
  pub moved : Moved reader_old reader_new old new given false
  pub limit : reader_new.took < 2 ^ 32
  pub going : reader_new.stopped ≡ false
  pub faults : new.faults ≡ old.faults

-- the end came behind a line that no line feed ends
pub record PassesLast (reader_old reader_new : Reading) (old new : Supply) : Type 0 where
  pub given : List ℕ
  pub none : NoFeed (reader_old.held ++ given)
  pub some : 0 < length (reader_old.held ++ given)
  pub line : reader_new.line ≡ take 1025 (reader_old.held ++ given)
  pub held : reader_new.held ≡ []
  pub moved : Moved reader_old reader_new old new given true
  pub limit : reader_new.took < 2 ^ 32
  pub going : reader_new.stopped ≡ false
  pub faults : new.faults ≡ old.faults

-- a reader that stops holds nothing back, and its line is empty
pub record Stops (reader_new : Reading) : Type 0 where
  pub stopped : reader_new.stopped ≡ true
  pub held : reader_new.held ≡ []
  pub line : reader_new.line ≡ []

-- the end came, and nothing before it
pub record ReachesEnd (reader_old reader_new : Reading) (old new : Supply) : Type 0 where
  pub given : List ℕ
  pub none : reader_old.held ++ given ≡ []
  pub moved : Moved reader_old reader_new old new given true
  pub limit : reader_new.took < 2 ^ 32
  pub stops : Stops reader_new
  pub faults : new.faults ≡ old.faults

-- the end had been answered before, so nothing is read
pub record IsOver (reader_old reader_new : Reading) (old new : Supply) : Type 0 where
  pub over : reader_old.ended ≡ true
  pub ended : reader_new.ended ≡ true
  pub held : reader_old.held ≡ []
  pub took : reader_new.took ≡ reader_old.took
  pub limit : reader_new.took < 2 ^ 32
  pub source : new ≡ old
  pub stops : Stops reader_new

-- a read failed, and no line feed was seen
pub record Fails (reader_old reader_new : Reading) (old new : Supply) : Type 0 where
  pub given : List ℕ
  pub none : NoFeed (reader_old.held ++ given)
  pub moved : Moved reader_old reader_new old new given false
  pub limit : reader_new.took < 2 ^ 32
  pub stops : Stops reader_new
  pub faults : Rises old.faults new.faults

-- a byte came behind as many as an input may have, and no line feed was seen before it
pub record Overflows (reader_old reader_new : Reading) (old new : Supply) : Type 0 where
  pub given : List ℕ
  pub extra : ℕ
  pub none : NoFeed (reader_old.held ++ given)
  pub moved : Moved reader_old reader_new old new (given ++ extra ∷ []) false
  pub limit : reader_new.took ≡ 2 ^ 32
  pub stops : Stops reader_new
  pub faults : new.faults ≡ old.faults

-- how a reader and its source went on, by the answer
abbrev pub Advances : Reading → Reading → Supply → Supply → Result Got ReadStop → Type 0
Advances reader_old reader_new old new (Ok Line) = PassesFeed reader_old reader_new old new ⊎ PassesLast reader_old reader_new old new
Advances reader_old reader_new old new (Ok End) = ReachesEnd reader_old reader_new old new ⊎ IsOver reader_old reader_new old new
Advances reader_old reader_new old new (Err Failed) = Fails reader_old reader_new old new
Advances reader_old reader_new old new (Err TooLong) = Overflows reader_old reader_new old new
