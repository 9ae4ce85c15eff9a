-- An exposure's place against those of other nights.
use Rattle.std.proofs.Common.{◌≡◌, ℤ, ◌<ℤ◌, List, ℕ, true, refl, ap, arith}
use Rattle.std.specs.Ordering.{int_cmp, is_eq, nat_cmp, ordering_then}
use Rattle.std.specs.Cmp.Lexicographic.{slice_cmp}
use Rattle.std.specs.declared.cmp.Ordering.{Ordering}
use Rattle.std.specs.declared.cmp.Ordering.TheVariants.{Less, Equal, Greater}
use Rattle.std.proofs.lemmas.Cmp.{int_ranked}
use Rattle.std.proofs.lemmas.Int.{by_lt_z, ints}
use Rattle.sky_math.specs.Night.{night_at}
use Rattle.sky_math.proofs.Days.{nights_dont_fall}
use Rattle.exposure_log.specs.declared.numbered.NumberedExposure.{NumberedExposure}
use Rattle.exposure_log.specs.Numbered.{numbered_cmp}

earlier_epoch : (shift a b : ℤ) → night_at shift a <ℤ night_at shift b → a <ℤ b
earlier_epoch shift a b h = by_lt_z a b (λ less. less) (λ not_less. let back = nights_dont_fall shift b a not_less in absurd (omega (arith, ints, h, back)))

cmp_less : (a b : ℤ) (r : Ordering) → r ≡ int_cmp a b → a <ℤ b → r ≡ Less
cmp_less a b Less e h = refl
cmp_less a b Equal e h = let m = int_ranked a b Equal e in absurd (omega (arith, ints, m, h))
cmp_less a b Greater e h = let m = int_ranked a b Greater e in absurd (omega (arith, ints, m, h))

cmp_greater : (a b : ℤ) (r : Ordering) → r ≡ int_cmp a b → b <ℤ a → r ≡ Greater
cmp_greater a b Less e h = let m = int_ranked a b Less e in absurd (omega (arith, ints, m, h))
cmp_greater a b Equal e h = let m = int_ranked a b Equal e in absurd (omega (arith, ints, m, h))
cmp_greater a b Greater e h = refl

-- an exposure of an earlier night stands before the place, and one of a later night behind it
pub stands_before : (shift epoch : ℤ) (site : List ℕ) (g : NumberedExposure) → night_at shift g.epoch <ℤ night_at shift epoch → numbered_cmp epoch site g ≡ Less
stands_before shift epoch site g h = rw (cmp_less g.epoch epoch (int_cmp g.epoch epoch) refl (earlier_epoch shift g.epoch epoch h)) refl

pub stands_behind : (shift epoch : ℤ) (site : List ℕ) (g : NumberedExposure) → night_at shift epoch <ℤ night_at shift g.epoch → numbered_cmp epoch site g ≡ Greater
stands_behind shift epoch site g h = rw (cmp_greater g.epoch epoch (int_cmp g.epoch epoch) refl (earlier_epoch shift epoch g.epoch h)) refl

same_epoch : (a b : ℤ) (r s : Ordering) → r ≡ int_cmp a b → is_eq (ordering_then r s) ≡ true → a ≡ b
same_epoch a b Less s e h = cc
same_epoch a b Equal s e h = int_ranked a b Equal e
same_epoch a b Greater s e h = cc

-- an exposure that stands at the place is of its night
pub same_night : (shift epoch : ℤ) (site : List ℕ) (g : NumberedExposure) → is_eq (numbered_cmp epoch site g) ≡ true → night_at shift g.epoch ≡ night_at shift epoch
same_night shift epoch site g h = ap (night_at shift) (same_epoch g.epoch epoch (int_cmp g.epoch epoch) (slice_cmp nat_cmp g.site site) refl h)
