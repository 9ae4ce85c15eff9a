-- Worked examples: what lines and their words say, by computing.
use Rattle.std.specs.Prelude.{◌≡◌, ℕ, List, [], ◌∷◌, ◌++◌, codes, replicate, Some, None, Ok, Err, pos, neg_ℤ, refl, Result, ℤ, Option}
use Rattle.std.specs.Fmt.{digits}
use Rattle.miti_text.specs.Words.{words}
use Rattle.miti_text.specs.Numerals.{number_of}
use Rattle.miti_text.specs.Quantities.{quantity_of}
use Rattle.miti_text.specs.Observation.{Observation}
use Rattle.miti_text.specs.Lines.{detection_of, fields_of}
use Rattle.miti_text.specs.Written.{line_of}
use Rattle.miti_text.specs.declared.quantities.Quantity.TheVariants as quantities
use Rattle.miti_text.specs.declared.errors.LineError.{LineError}
use Rattle.miti_text.specs.declared.errors.LineError.TheVariants as errors

abbrev read : List ℕ → Result Observation LineError
read = detection_of

-- a plain detection under some id, site and name
abbrev named : List ℕ → List ℕ → List ℕ → Observation
named id site name = record { id = id; epoch = pos 59001250000; ra = pos 10000000; dec = pos 5000000; mag = pos 20000; site = site; name = name }

abbrev plain : Observation
plain = named (codes "a") (codes "568") (codes "o")

-- the text of a decimal read as a declination and so on
abbrev epoch : List ℕ → Option ℤ
epoch = quantity_of quantities.Epoch

abbrev ra : List ℕ → Option ℤ
ra = quantity_of quantities.RightAscension

abbrev dec : List ℕ → Option ℤ
dec = quantity_of quantities.Declination

abbrev mag : List ℕ → Option ℤ
mag = quantity_of quantities.Magnitude

further_fields : read (codes "23456789 59000.2500004 10.00000049 +5. 20.12 F51 NS 1.25 93.4")
    ≡ Ok (record { id = codes "23456789"; epoch = pos 59000250000; ra = pos 10000000; dec = pos 5000000; mag = pos 20120; site = codes "F51"; name = codes "NS" })
unfolding detection_of fields_of quantity_of words
further_fields = refl

written : line_of (record { id = codes "23456789"; epoch = pos 59000250000; ra = pos 10000000; dec = pos 5000000; mag = pos 20120; site = codes "F51"; name = codes "NS" })
    ≡ codes "23456789 59000.250000 10.000000 5.000000 20.120 F51 NS"
unfolding line_of digits
written = refl

blanks : (read (codes "a 59001.25 10 5 20 568 o") ≡ Ok plain) × (read (codes "  a 59001.25   10 5 20 568 o ") ≡ Ok plain)
    × (read (9 ∷ codes "a" ++ 9 ∷ 9 ∷ codes "59001.25 10 5 20 568" ++ 9 ∷ codes "o" ++ 9 ∷ []) ≡ Ok plain)
unfolding detection_of fields_of quantity_of words
blanks = (refl, refl, refl)

few_fields : (read [] ≡ Err errors.Fields) × (read (codes "   ") ≡ Err errors.Fields) × (read (codes "a 59001.25 10 5 20 568") ≡ Err errors.Fields)
unfolding detection_of fields_of quantity_of words
few_fields = (refl, refl, refl)

ids : (read (codes "!a 59001.25 10 5 20 568 o") ≡ Err errors.Id) × (read (codes " #a 59001.25 10 5 20 568 o") ≡ Err errors.Id)
    × (read (codes "a!# 59001.25 10 5 20 568 o") ≡ Ok (named (codes "a!#") (codes "568") (codes "o")))
    × (read (replicate 64 97 ++ codes " 59001.25 10 5 20 568 o") ≡ Ok (named (replicate 64 97) (codes "568") (codes "o")))
    × (read (replicate 65 97 ++ codes " 59001.25 10 5 20 568 o") ≡ Err errors.Id)
unfolding detection_of fields_of quantity_of words
ids = (refl, refl, refl, refl, refl)

sites : (read (codes "a 59001.25 10 5 20 12345678 o") ≡ Ok (named (codes "a") (codes "12345678") (codes "o")))
    × (read (codes "a 59001.25 10 5 20 123456789 o") ≡ Err errors.Site)
unfolding detection_of fields_of quantity_of words
sites = (refl, refl)

names : (read (codes "a 59001.25 10 5 20 568 " ++ replicate 64 111) ≡ Ok (named (codes "a") (codes "568") (replicate 64 111)))
    × (read (codes "a 59001.25 10 5 20 568 " ++ replicate 65 111) ≡ Err errors.Name)
unfolding detection_of fields_of quantity_of words
names = (refl, refl)

-- 1,024 bytes and one more, also of blanks alone
lengths : (read (codes "a 59001.25 10 5 20 568 o " ++ replicate 999 120) ≡ Ok plain)
    × (read (codes "a 59001.25 10 5 20 568 o " ++ replicate 1000 120) ≡ Err errors.Long) × (read (replicate 1025 32) ≡ Err errors.Long)
unfolding detection_of fields_of quantity_of words
lengths = (refl, refl, refl)

foreign_bytes : (read (codes "a 59001.25 10 5 20 568 o" ++ 127 ∷ []) ≡ Err errors.Byte) × (read (codes "a 59001.25 10 5 20 568 " ++ 255 ∷ []) ≡ Err errors.Byte)
    × (read (codes "a 59001.25 10 5 20 568 o" ++ 13 ∷ []) ≡ Err errors.Byte) × (read (31 ∷ []) ≡ Err errors.Byte)
    × (read (codes "~ 59001.25 10 5 20 568 ~") ≡ Ok (named (codes "~") (codes "568") (codes "~")))
unfolding detection_of fields_of quantity_of words
foreign_bytes = (refl, refl, refl, refl, refl)

-- the first rule that is broken counts
first_rule : (read (replicate 1025 200) ≡ Err errors.Long) × (read (200 ∷ []) ≡ Err errors.Byte)
    × (read (codes "! x x x x 123456789 o") ≡ Err errors.Id) × (read (codes "a x x x x 123456789 o") ≡ Err errors.Epoch)
    × (read (codes "a 1 x x x 123456789 o") ≡ Err errors.Ra) × (read (codes "a 1 1 x x 123456789 o") ≡ Err errors.Dec)
    × (read (codes "a 1 1 1 x 123456789 o") ≡ Err errors.Mag) × (read (codes "a 1 1 1 1 123456789 " ++ replicate 65 111) ≡ Err errors.Site)
unfolding detection_of fields_of quantity_of words
first_rule = (refl, refl, refl, refl, refl, refl, refl, refl)

not_decimals : (mag (codes "+") ≡ None) × (mag (codes "-") ≡ None) × (mag (codes ".") ≡ None) × (mag (codes "-.") ≡ None)
    × (mag (codes "5e4") ≡ None) × (mag (codes "1.2.3") ≡ None) × (mag (codes "+-1") ≡ None) × (mag (codes "--1") ≡ None)
    × (mag (codes "1.-2") ≡ None) × (mag (codes "1,5") ≡ None) × (mag (codes "0x1") ≡ None) × (mag [] ≡ None)
unfolding quantity_of
not_decimals = (refl, refl, refl, refl, refl, refl, refl, refl, refl, refl, refl, refl)

decimals : (mag (codes "5") ≡ Some (pos 5000)) × (mag (codes "+5.") ≡ Some (pos 5000)) × (mag (codes "-.5") ≡ Some (neg_ℤ (pos 500)))
    × (mag (codes "-007.0") ≡ Some (neg_ℤ (pos 7000))) × (mag (codes "-0") ≡ Some (pos 0)) × (mag (codes "-0.0004") ≡ Some (pos 0))
unfolding quantity_of
decimals = (refl, refl, refl, refl, refl, refl)

-- to the nearest, a tie away from zero
ties : (dec (codes "-.0000005") ≡ Some (neg_ℤ (pos 1))) × (dec (codes "-.00000049999") ≡ Some (pos 0)) × (dec (codes ".0000015") ≡ Some (pos 2))
    × (mag (codes "0.0005") ≡ Some (pos 1)) × (mag (codes "-0.0025") ≡ Some (neg_ℤ (pos 3))) × (ra (codes "10.00000049") ≡ Some (pos 10000000))
unfolding quantity_of
ties = (refl, refl, refl, refl, refl, refl)

-- ranges hold of what is written
ranges : (epoch (codes "200000.0") ≡ Some (pos 200000000000)) × (epoch (codes "200000.00000001") ≡ None) × (epoch (codes "-0.0000001") ≡ None)
    × (epoch (codes "-0.000000") ≡ Some (pos 0)) × (ra (codes "360.0") ≡ Some (pos 0)) × (ra (codes "359.9999999") ≡ Some (pos 0))
    × (ra (codes "359.9999994") ≡ Some (pos 359999999)) × (ra (codes "360.0000001") ≡ None) × (ra (codes "-0") ≡ Some (pos 0))
    × (dec (codes "90") ≡ Some (pos 90000000)) × (dec (codes "-90.0") ≡ Some (neg_ℤ (pos 90000000))) × (dec (codes "90.0000001") ≡ None)
    × (dec (codes "-90.000001") ≡ None) × (mag (codes "1000") ≡ Some (pos 1000000)) × (mag (codes "-1000.00001") ≡ None)
unfolding quantity_of
ranges = (refl, refl, refl, refl, refl, refl, refl, refl, refl, refl, refl, refl, refl, refl, refl)

-- texts of a thousand digits
long_digits : (mag (replicate 1000 48 ++ codes "20") ≡ Some (pos 20000)) × (mag (codes "20." ++ replicate 1000 57) ≡ Some (pos 21000))
    × (mag (replicate 1000 57) ≡ None) × (ra (codes "0." ++ replicate 1000 48 ++ codes "1") ≡ Some (pos 0)) × (ra (codes "360." ++ replicate 1000 48 ++ codes "1") ≡ None)
unfolding quantity_of
long_digits = (refl, refl, refl, refl, refl)

numbers : (number_of (codes "0") ≡ Some (pos 0)) × (number_of (codes "-0") ≡ Some (pos 0)) × (number_of (codes "-007") ≡ Some (neg_ℤ (pos 7)))
    × (number_of (codes "999999999999999999") ≡ Some (pos 999999999999999999)) × (number_of (codes "0999999999999999999") ≡ None)
    × (number_of (codes "-000000000000000001") ≡ Some (neg_ℤ (pos 1))) × (number_of (codes "+1") ≡ None) × (number_of (codes "-") ≡ None)
    × (number_of [] ≡ None) × (number_of (codes "1.5") ≡ None) × (number_of (codes "--1") ≡ None)
unfolding number_of
numbers = (refl, refl, refl, refl, refl, refl, refl, refl, refl, refl, refl)
