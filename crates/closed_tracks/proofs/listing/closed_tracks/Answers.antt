use Rattle.std.proofs.Common.{◌≡◌, ℕ, Vec, Global, length, map, rules, sym, subst, ap, ◌∙◌}
use Rattle.std.proofs.lemmas.List.{length-map}
use Rattle.std.proofs.lemmas.Result.{IfOk-weaker}
use Rattle.std.specs.List.{range_with_len}
use Rattle.night_tree.specs.Nights.{tracklets_of_each}
use Rattle.set_grow.specs.Growing.{AreClosedSetsWithOne}
use Rattle.set_grow.specs.Nights.{by_night}
use Rattle.closed_tracks.specs.Candidates.{AreCandidates}
use Rattle.closed_tracks.specs.InOneList.{all_tracklets, numbered_from, tracklets_numbered}
use Rattle.closed_tracks.proofs.Closed.{candidates, of_sets}
use Rattle.closed_tracks.proofs.Standing.{in_place}
use Rattle.closed_tracks.proofs.listing.closed_tracks.Goals as goal

pub numbered-requires : goal.numbered-requires
numbered-requires c =
    let count : c.len.result ≡ length c.in_ok-tracklets.tracklets.items = search rules in
    let size : c.len.result ≡ length (all_tracklets c.args.nights.now) = count ∙ (sym (length-map c.in_ok-tracklets.tracklets.items _) ∙ ap length c.in_ok-tracklets.ensures) in
    c.as_slice.ensures.value ∙ (c.in_ok-numbers.ensures ∙ ap (range_with_len 0) size)

pub grow_numbered-requires : goal.grow_numbered-requires
grow_numbered-requires c =
    record { place = rw (c.as_slice-2.ensures.value, c.in_ok-numbered.ensures, c.as_slice-3.ensures.value, c.in_ok-places.ensures) (in_place c.args.nights.now c.requires.follow c.requires.rising) }

pub tracks_of-requires : goal.tracks_of-requires
tracks_of-requires c =
    let count : c.len.result ≡ length c.in_ok-tracklets.tracklets.items = search rules in
    let size : c.len.result ≡ length (all_tracklets c.args.nights.now) = count ∙ (sym (length-map c.in_ok-tracklets.tracklets.items _) ∙ ap length c.in_ok-tracklets.ensures) in
    let grown : AreClosedSetsWithOne c.args.settings.now (by_night (numbered_from 0 c.args.nights.now)) (range_with_len 0 (length (all_tracklets c.args.nights.now))) (map (λ (set : Vec ℕ Global). set.items) c.in_ok-sets.sets.items) =
    rw (c.as_slice-2.ensures.value, c.in_ok-numbered.ensures, c.as_slice-4.ensures.value, c.in_ok-numbers.ensures, size) at c.in_ok-sets.ensures.sets in
    rw (c.as_slice-5.ensures.value, c.in_ok-tracklets.ensures, c.as_slice-6.ensures.value)
    (of_sets c.args.settings.now c.args.nights.now (map (λ (set : Vec ℕ Global). set.items) c.in_ok-sets.sets.items) c.requires.follow c.requires.rising c.requires.different grown)

pub returns : goal.returns
returns c =
    let count : c.len.result ≡ length c.in_ok-tracklets.tracklets.items = search rules in
    let size : c.len.result ≡ length (all_tracklets c.args.nights.now) = count ∙ (sym (length-map c.in_ok-tracklets.tracklets.items _) ∙ ap length c.in_ok-tracklets.ensures) in
    let grown : AreClosedSetsWithOne c.args.settings.now (by_night (numbered_from 0 c.args.nights.now)) (range_with_len 0 (length (all_tracklets c.args.nights.now))) (map (λ (set : Vec ℕ Global). set.items) c.in_ok-sets.sets.items) =
    rw (c.as_slice-2.ensures.value, c.in_ok-numbered.ensures, c.as_slice-4.ensures.value, c.in_ok-numbers.ensures, size) at c.in_ok-sets.ensures.sets in
    let all : AreCandidates c.args.settings.now (tracklets_of_each c.args.nights.now) (map (tracklets_numbered (all_tracklets c.args.nights.now)) (map (λ (set : Vec ℕ Global). set.items) c.in_ok-sets.sets.items)) =
    candidates c.args.settings.now c.args.nights.now (map (λ (set : Vec ℕ Global). set.items) c.in_ok-sets.sets.items) c.requires.follow c.requires.rising c.requires.different grown c.maximal_tracks_are_closed.ensures in
    let all' = rw (← c.in_ok-tracklets.ensures, ← c.as_slice-5.ensures.value, ← c.as_slice-6.ensures.value) at all in
    IfOk-weaker c.tracks_of.result _ (λ tracks. AreCandidates c.args.settings.now (tracklets_of_each c.args.nights.now) tracks.items)
    (λ tracks e. subst (AreCandidates c.args.settings.now (tracklets_of_each c.args.nights.now)) (sym e) all') c.tracks_of.ensures
