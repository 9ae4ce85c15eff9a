-- How far a loop over a list has come: one more element is one more step.
use Rattle.std.proofs.Common.{◌≡◌, ℕ, ◌+◌, ◌<◌, List, [], ◌∷◌, ◌++◌, map, length, take, get_or, sym, subst, ap, ◌∙◌, append_assoc}
use Rattle.std.specs.List.{All}
use Rattle.std.proofs.lemmas.List.{map-append}
use Rattle.std.proofs.lemmas.List.Elements.{All-append, All-cons, All-nil}
use Rattle.sky_units.specs.TrackletData.{TrackletData, TrackSetData, spots_of}
use Rattle.sky_units.specs.declared.reports.Track.{Track}
use Rattle.sky_units.proofs.Steps.{taken}
use Rattle.window_incr.specs.Answers.{AreTracksOf, HasValidQuads, IsTrackOf}
use Rattle.window_incr.specs.LinkerState.{LinkerState}

pub map_one_more : {X Y : Type 0} (f : X → Y) (before : List Y) (xs : List X) (i : ℕ) (x : X) → i < length xs → x ≡ get_or xs i x
    → (before ++ map f (take i xs)) ++ f x ∷ [] ≡ before ++ map f (take (i + 1) xs)
map_one_more f before xs i x h same =
    append_assoc before (map f (take i xs)) (f x ∷ []) ∙ ap (λ l. before ++ l) (sym (ap (map f) (taken xs i x h same) ∙ map-append f (take i xs) (x ∷ [])))

tracks_push : (s : LinkerState) (sets : List TrackSetData) (tracks : List Track) (set : TrackSetData) (track : Track) → AreTracksOf s sets tracks → IsTrackOf s set track → AreTracksOf s (sets ++ set ∷ []) (tracks ++ track ∷ [])
tracks_push s [] [] set track all one = (one, tt)
tracks_push s [] (t ∷ tracks) set track all one = absurd all
tracks_push s (u ∷ sets) [] set track all one = absurd all
tracks_push s (u ∷ sets) (t ∷ tracks) set track all one = (all.0, tracks_push s sets tracks set track all.1 one)

-- the tracks so far are those of the sets so far, and have valid quadratics
pub record TellAll (s : LinkerState) (sets : List TrackSetData) (list : List Track) : Type 0 where
  pub tracks : AreTracksOf s sets list
  pub valid : All HasValidQuads list

pub tells_one_more : (s : LinkerState) (sets : List TrackSetData) (so_far : List Track) (i : ℕ) (set : TrackSetData) (track : Track) → i < length sets → set ≡ get_or sets i set
    → TellAll s (take i sets) so_far → IsTrackOf s set track → HasValidQuads track → TellAll s (take (i + 1) sets) (so_far ++ track ∷ [])
tells_one_more s sets so_far i set track h same all one valid = record {
  tracks = subst (λ front. AreTracksOf s front (so_far ++ track ∷ [])) (sym (taken sets i set h same)) (tracks_push s (take i sets) so_far set track all.tracks one);
  valid = All-append HasValidQuads so_far (track ∷ []) all.valid (All-cons HasValidQuads track [] valid (All-nil HasValidQuads));
}
