use Rattle.std.proofs.Common.{◌≡◌, ℕ, ◌++◌, None, List, sym, ap, ap₂, ◌∙◌, rules}
use Rattle.night_tree.specs.Nights.{tracklets_of_each}
use Rattle.sky_units.specs.Tracks.{numbers_of}
use Rattle.kept_nights.specs.KeptNights.{nights_of}
use Rattle.kept_nights.proofs.HeldNights.{nights_follow}
use Rattle.window_incr.specs.Asked.{labels, number_around, number_of_track}
use Rattle.window_incr.specs.LinkerState.{LinkerState}
use Rattle.window_incr.proofs.AskedTracks.{covered}
use Rattle.window_incr.proofs.asking.track.Goals as goal

pub listed-requires : goal.listed-requires
listed-requires c = (c.args.settings.now, record { sound = c.requires.sound; are = c.requires.kept; sets = c.requires.sets })

pub unreachable-requires : goal.unreachable-requires
unreachable-requires c =
    let s : LinkerState = record { settings = c.args.settings.now; log = c.args.log.now } in
    let numbers : c.push_numbers.new.numbers.items ≡ numbers_of c.requires.track.set =
    c.in_ok-push_numbers.ensures ∙ (ap (λ (xs : List ℕ). xs ++ labels c.args.spots.now) c.in_ok-numbers.ensures.items ∙ ap labels c.requires.track.spots_are) in
    let none : c.in_ok-number.field-0 ≡ None = search rules in
    let same = sym (c.in_ok-number.ensures ∙ ap₂ number_of_track c.as_slice.ensures.value (c.as_slice-2.ensures.value ∙ numbers)) ∙ none in
    let around = sym (c.in_ok-number-2.ensures ∙ ap₂ number_around c.as_slice-3.ensures.value (c.as_slice-4.ensures.value ∙ numbers)) ∙ c.in-None.is in
    covered s.settings (tracklets_of_each (nights_of s)) c.in_ok-list.list.items c.requires.track.set (nights_follow s c.requires.sound) (c.in_ok-list.ensures s.settings (record { sound = c.requires.sound; are = c.requires.kept; sets = c.requires.sets })).listed c.requires.track.track same around
