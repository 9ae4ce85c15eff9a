use Rattle.std.proofs.Common.{List, sym, subst, ap, ◌∙◌, to_z, of_z, w64}
use Rattle.std.proofs.lemmas.Int.{to_z-of_z}
use Rattle.tracklet_register.proofs.Entries.{first_is_there, pushed_keeps, pushed_of}
use Rattle.tracklet_register.specs.Entries.{IsFirstOf}
use Rattle.tracklet_register.specs.Registers.{HasNight, numbers_of}
use Rattle.tracklet_register.specs.declared.nights.NightNumbers.{NightNumbers}
use Rattle.tracklet_register.proofs.nights.enter_night.Goals as goal

pub returns-in-Some-clause-there : goal.returns-in-Some-clause-there
returns-in-Some-clause-there c =
    let plain = to_z-of_z w64 c.args.number c.ranges.number in
    first_is_there c.args.nights.now.items c.args.number c.in-Some.field-0 (subst (λ n. IsFirstOf c.args.nights.now.items n c.in-Some.field-0) plain (subst (λ (nights : List NightNumbers). IsFirstOf nights (to_z w64 (of_z w64 c.args.number)) c.in-Some.field-0) c.as_slice.ensures.value c.in-Some.ensures))

pub returns-clause-same : goal.returns-clause-same
returns-clause-same c = λ night. ap (λ (nights : List NightNumbers). numbers_of nights night) c.in_ok-push.ensures.items ∙ pushed_of c.args.nights.now.items _ night c.new.ensures.items

pub returns-clause-entered : goal.returns-clause-entered
returns-clause-entered c = λ night there. subst (λ (nights : List NightNumbers). HasNight nights night) (sym c.in_ok-push.ensures.items) (pushed_keeps c.args.nights.now.items _ night there)
