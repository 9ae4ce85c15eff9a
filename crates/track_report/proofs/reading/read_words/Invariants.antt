use Rattle.std.proofs.Common.{◌≡◌, ℕ, List, length, true, take, drop}
use Rattle.std.specs.List.{list_all}
use Rattle.track_report.specs.Reading.{is_unparted, from_words}
use Rattle.track_report.proofs.reading.read_words.Given as goal

abbrev pub invariant-loop : goal.invariant-loop
invariant-loop l = (words : List (List ℕ)) (more : List ℕ) → l.fn.count ≡ length words → list_all is_unparted words ≡ true → l.fn.text ≡ from_words words more
    → (l.words ≡ take l.counter words) × (l.text ≡ from_words (drop l.counter words) more)
