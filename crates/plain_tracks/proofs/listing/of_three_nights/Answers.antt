use Rattle.std.proofs.Common.{◌≡◌, length, rules, tests}
use Rattle.std.proofs.lemmas.Bool.{leb-true, le-leb}
use Rattle.std.proofs.lemmas.List.Elements.{filter_from_retain}
use Rattle.std.proofs.lemmas.List.Sorted.{Contains-permutation, IsPermutation-sym}
use Rattle.std.specs.List.{Contains, filter}
use lib.Dec.{leb}
use Rattle.sky_units.specs.TrackletData.{TrackSetData}
use Rattle.plain_tracks.proofs.Tracks.{filter_exact}
use Rattle.plain_tracks.proofs.listing.of_three_nights.Goals as goal

pub returns : goal.returns
returns c =
    let kept : c.retain.new.self.items ≡ filter (λ (set : TrackSetData). leb 3 (length set)) c.args.sets.items =
    filter_from_retain _ (λ (set : TrackSetData). leb 3 (length set)) (λ p x b q k. search (rules, tests)) _ _ _ c.retain.ensures.filtered in
    let there = IsPermutation-sym c.retain.new.self.items c.reverse.new.self.items c.reverse.ensures.permutation in
    λ set.
    let exact = filter_exact (λ (set : TrackSetData). leb 3 (length set)) c.args.sets.items set in (
      λ k.
          let before : Contains c.retain.new.self.items set = Contains-permutation c.reverse.new.self.items c.retain.new.self.items set there k in
          let w = exact.0 (rw kept at before) in
          (w.0, leb-true 3 (length set) w.1),
      λ w.
          let before : Contains c.retain.new.self.items set = rw kept (exact.1 (w.0, le-leb 3 (length set) w.1)) in
          Contains-permutation c.retain.new.self.items c.reverse.new.self.items set c.reverse.ensures.permutation before,
    )
