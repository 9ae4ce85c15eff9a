-- A line in parts that lend its bytes.
use Rattle.std.specs.Prelude.{◌≡◌, ◌+◌, ◌^◌, ◌<◌, ◌≤◌, List, ◌∷◌, ◌++◌, ℕ, true, not, length, IfSome}
use Rattle.std.specs.List.{list_all, before_first, after_first}
use Rattle.std.specs.Char.{is_ascii_digit}
use Rattle.miti_text.specs.Words.{is_blank}
use Rattle.miti_text.specs.Numerals.{is_dot, numerator}
use Rattle.miti_text.specs.Quantities.{quantity_of, IsKept}
use Rattle.miti_text.specs.Observation.{Observation}
use Rattle.miti_text.specs.declared.quantities.Quantity.TheVariants as quantities
use Rattle.miti_text.specs.declared.reading.Parsed.{Parsed}
use Rattle.miti_text.specs.declared.reading.Seven.{Seven}
use Rattle.miti_text.specs.declared.short_decimals.ShortDecimal.{ShortDecimal}

-- what a line says, its words looked at
abbrev pub seen : Parsed → Observation
seen p = record { id = p.id.now; epoch = p.epoch; ra = p.ra; dec = p.dec; mag = p.mag; site = p.site.now; name = p.name.now }

-- the first seven of some words, the numbers among them read
pub record AreFirst (s : Seven) (words : List (List ℕ)) : Type 0 where
  pub epoch : List ℕ
  pub ra : List ℕ
  pub dec : List ℕ
  pub mag : List ℕ
  pub more : List (List ℕ)
  pub words_are : words ≡ s.id.now ∷ epoch ∷ ra ∷ dec ∷ mag ∷ s.site.now ∷ s.name.now ∷ more
  pub epoch_is : s.epoch ≡ quantity_of quantities.Epoch epoch
  pub ra_is : s.ra ≡ quantity_of quantities.RightAscension ra
  pub dec_is : s.dec ≡ quantity_of quantities.Declination dec
  pub mag_is : s.mag ≡ quantity_of quantities.Magnitude mag

-- the numbers that were read lie in their ranges
pub record HaveRanges (s : Seven) : Type 0 where
  pub epoch : IfSome s.epoch (IsKept quantities.Epoch)
  pub ra : IfSome s.ra (IsKept quantities.RightAscension)
  pub dec : IfSome s.dec (IsKept quantities.Declination)
  pub mag : IfSome s.mag (IsKept quantities.Magnitude)

-- a text begins with digits, and behind a dot with more digits: what they write, and what follows them
pub record BeginsWith (text : List ℕ) (d : ShortDecimal) : Type 0 where
  pub front : List ℕ
  pub text_is : text ≡ front ++ d.rest.now
  pub unparted : list_all (λ byte. not (is_blank byte)) front ≡ true
  pub whole : list_all is_ascii_digit (before_first is_dot front) ≡ true
  pub fraction : list_all is_ascii_digit (after_first is_dot front) ≡ true
  pub digits : d.digits ≡ length (before_first is_dot front) + length (after_first is_dot front)
  pub places : d.places ≡ length (after_first is_dot front)
  pub value : d.value ≡ numerator (before_first is_dot front) (after_first is_dot front)
  pub few : d.places ≤ 12
  pub small : d.value < 10 ^ 18
