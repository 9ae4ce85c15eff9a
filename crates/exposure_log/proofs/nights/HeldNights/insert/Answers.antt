use Rattle.std.proofs.Common.{◌≡◌, sym, Some, arith}
use Rattle.exposure_log.specs.Nights.{list_of}
use Rattle.exposure_log.proofs.NightEdits.{insert_by_night, free_in_list, put_in_night}
use Rattle.exposure_log.proofs.ByNight.{none_some}
use Rattle.exposure_log.proofs.nights.HeldNights.insert.Goals as goal
use Rattle.exposure_log.proofs.nights.HeldNights.insert.Goals.{in-Some, in_default}

pub insert-requires-clause-within : goal.insert-requires-clause-within
insert-requires-clause-within c =
    let found : list_of c.self.inside.by_night.entries c.args.place.night ≡ Some c.in-Some.listed.now = sym c.in-Some.ensures.value in
    let free = rw (← c.self.view_is) at c.requires.free in
    let within = (free_in_list c.self.inside.shift c.args.place.night c.self.inside.by_night.entries c.in-Some.listed.now c.self.invariant found c.args.numbered.epoch c.args.numbered.site c.args.place.index free).0 in
    omega (arith, within)

pub invariant_of-self : goal.invariant_of-self
invariant_of-self c =
    elim c.match-get_mut.branch [
      | in-Some w ↦
          let found : list_of c.self.inside.by_night.entries c.args.place.night ≡ Some w.in-Some.listed.now = sym w.in-Some.ensures.value in
          let night = rw (← c.self.view_is) at c.requires.night in
          let written = (c.get_mut.follows.holds w.insert.new.listed).0 in
          rw (w.self-inside-is, written) (insert_by_night c.self.inside.shift c.args.place.night c.self.inside.by_night.entries w.in-Some.listed.now c.self.invariant found c.args.numbered c.args.place.index w.insert.new.listed night w.insert.ensures)
      | in_default w ↦
          let room = rw (← c.self.view_is) at c.requires.room in
          absurd (none_some (list_of c.self.inside.by_night.entries c.args.place.night) room.0 (sym w.in_default.ensures.value) room.1)
    ]

pub returns-clause-listed : goal.returns-clause-listed
returns-clause-listed c =
    elim c.match-get_mut.branch [
      | in-Some w ↦
          let found : list_of c.self.inside.by_night.entries c.args.place.night ≡ Some w.in-Some.listed.now = sym w.in-Some.ensures.value in
          let night = rw (← c.self.view_is) at c.requires.night in
          let free = rw (← c.self.view_is) at c.requires.free in
          let written = (c.get_mut.follows.holds w.insert.new.listed).0 in
          rw (← c.self.view_is, w.self-inside-is, written) (put_in_night c.self.inside.shift c.args.place.night c.self.inside.by_night.entries w.in-Some.listed.now c.self.invariant found c.args.numbered c.args.place.index w.insert.new.listed night w.insert.ensures free)
      | in_default w ↦
          let room = rw (← c.self.view_is) at c.requires.room in
          absurd (none_some (list_of c.self.inside.by_night.entries c.args.place.night) room.0 (sym w.in_default.ensures.value) room.1)
    ]
