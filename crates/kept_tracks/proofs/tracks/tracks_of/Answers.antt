use Rattle.std.proofs.Common.{[], refl, sym, subst}
use Rattle.std.proofs.lemmas.List.{append-nil}
use Rattle.std.proofs.lemmas.List.Elements.{All-head, All-tail}
use Rattle.std.specs.List.{All}
use Rattle.set_grow.specs.Nights.{by_night}
use Rattle.kept_tracks.proofs.Listed.{one_more}
use Rattle.kept_tracks.specs.Stages.{AreTracksInOrder, HasTracklets}
use Rattle.kept_tracks.proofs.tracks.tracks_of.Goals as goal

pub loop-set-init : goal.loop-set-init
loop-set-init c = rw (c.new-tracks.ensures.items, c.into_iter-set-iterator.ensures.into_iter_gives) (record { good = c.requires.sets; made = λ rest r. r })

pub track_of-requires-clause-set : goal.track_of-requires-clause-set
track_of-requires-clause-set c =
    All-head (HasTracklets (by_night c.args.nights.now)) c.in-Some.set.now c.next.new.self (subst (All (HasTracklets (by_night c.args.nights.now))) c.in-Some.ensures.steps c.loop-set.invariant.good)

pub loop-set-preserved : goal.loop-set-preserved
loop-set-preserved c = rw c.in_ok-push.ensures.items (record {
  good = All-tail (HasTracklets (by_night c.args.nights.now)) c.in-Some.set.now c.next.new.self (subst (All (HasTracklets (by_night c.args.nights.now))) c.in-Some.ensures.steps c.loop-set.invariant.good);
  made = one_more (by_night c.args.nights.now) c.args.sets c.in-Some.set.now c.next.new.self c.loop-set.tracks.items _ c.in_ok-track_of.ensures
      (λ rest r. c.loop-set.invariant.made rest (subst (λ left. AreTracksInOrder (by_night c.args.nights.now) left rest) (sym c.in-Some.ensures.steps) r));
})

pub returns : goal.returns
returns c =
    subst (AreTracksInOrder (by_night c.args.nights.now) c.args.sets) (append-nil c.loop-set.tracks.items)
    (c.loop-set.invariant.made [] (subst (λ left. AreTracksInOrder (by_night c.args.nights.now) left []) (sym c.in-None.ensures.steps.0) refl))
