use Rattle.std.proofs.Common.{◌≡◌, sym, ◌∙◌, Some, None, arith, to_z, of_z, w64}
use Rattle.std.proofs.lemmas.Int.{ints}
use Rattle.exposure_log.specs.Nights.{list_of}
use Rattle.exposure_log.proofs.ByNight.{stands_among, night_is_list, none_at_night, no_listed_of_night}
use Rattle.exposure_log.proofs.nights.HeldNights.of_night.Goals as goal

pub returns-in-Some : goal.returns-in-Some
returns-in-Some c =
    let night : to_z w64 (of_z w64 c.args.night) ≡ c.args.night = omega (arith, ints) in
    let found : list_of c.self.inside.by_night.entries c.args.night ≡ Some c.in-Some.listed.now = rw night at (sym c.in-Some.ensures.value) in
    let among = stands_among c.self.inside.shift c.args.night c.self.inside.by_night.entries c.in-Some.listed.now c.self.invariant found in
    rw (← c.self.view_is) (c.as_slice.ensures.value ∙ sym (night_is_list c.self.inside.shift c.args.night c.self.inside.by_night.entries c.in-Some.listed.now among))

pub returns-in-None : goal.returns-in-None
returns-in-None c =
    let night : to_z w64 (of_z w64 c.args.night) ≡ c.args.night = omega (arith, ints) in
    let missing : list_of c.self.inside.by_night.entries c.args.night ≡ None = rw night at (sym c.in-None.ensures.value) in
    rw (← c.self.view_is) (sym (no_listed_of_night c.self.inside.shift c.args.night _ (none_at_night c.self.inside.shift c.args.night c.self.inside.by_night.entries c.self.invariant.under_their_night missing)))
