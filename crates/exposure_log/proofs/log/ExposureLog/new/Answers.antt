use Rattle.std.proofs.Common.{◌≡◌, Some, None, [], arith, refl, to_z, of_z, w64}
use Rattle.std.proofs.lemmas.Int.{ints}
use Rattle.std.proofs.lemmas.List.Elements.{All-nil}
use Rattle.exposure_log.specs.Numbered.{IsNumbered, AreListed}
use Rattle.exposure_log.proofs.Keeping.{nothing_held}
use Rattle.exposure_log.proofs.log.ExposureLog.new.Goals as goal

none_yet : AreListed [] []
none_yet = record {
  in_order = λ i j g ij jn. absurd (omega arith);
  each = All-nil (IsNumbered []);
  none_else = λ n d held. absurd (let no : None ≡ Some d = held in cc);
  count = refl;
  few = omega arith;
}

pub invariant_of-result : goal.invariant_of-result
invariant_of-result c =
    let shift : to_z w64 (of_z w64 c.args.night_shift) ≡ c.args.night_shift = omega (arith, ints) in
    rw (c.new-2.ensures, c.new.ensures, shift) (c.requires, none_yet, nothing_held c.args.night_shift)
