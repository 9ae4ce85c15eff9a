-- The next of some tracks that are read one after the other.
use Rattle.std.proofs.Common.{◌≡◌, ℕ, zero, suc, ◌+◌, ◌<◌, List, [], ◌∷◌, ◌++◌, length, take, drop, refl, ap, ◌∙◌, arith, subst, Option, Some, None, MatchOption}
use Rattle.std.proofs.Math.Seq.{take-length}
use Rattle.std.specs.List.{All, flat_map, enumerate_from}
use Rattle.sky_units.specs.declared.reports.Track.{Track}
use Rattle.miti_text.specs.ValidReports.{IsValidTrack}
use Rattle.track_report.specs.ReportText.{track_text}

-- the track at place i, and what stands before and behind it
pub record IsNextTrack (tracks : List Track) (i : ℕ) : Type 0 where
  pub track : Track
  pub valid : IsValidTrack track
  pub rest : drop i tracks ≡ track ∷ drop (suc i) tracks
  pub taken : take (suc i) tracks ≡ take i tracks ++ track ∷ []

pub next_track : (tracks : List Track) (i : ℕ) → i < length tracks → All IsValidTrack tracks → IsNextTrack tracks i
next_track [] i within all = absurd (omega (arith, within))
next_track (t ∷ ts) zero within all = record { track = t; valid = all 0 t (omega arith); rest = refl; taken = refl }
next_track (t ∷ ts) (suc i) within all =
    let next = next_track ts i (omega (arith, within)) (λ k d inside. all (suc k) d (omega (arith, inside))) in
    record { track = next.track; valid = next.valid; rest = next.rest; taken = ap (λ xs. t ∷ xs) next.taken }

pub tracks_next : (tracks : List Track) (text : List ℕ) (i : ℕ) (next : IsNextTrack tracks i) → text ≡ flat_map track_text (enumerate_from (1 + i) (drop i tracks))
    → text ≡ track_text (1 + i, next.track) ++ flat_map track_text (enumerate_from (1 + i + 1) (drop (suc i) tracks))
tracks_next tracks text i next is = is ∙ ap (λ ts. flat_map track_text (enumerate_from (1 + i) ts)) next.rest

pub track_pushed : (tracks read : List Track) (item : Track) (i : ℕ) (next : IsNextTrack tracks i) → read ≡ take i tracks → item ≡ next.track → read ++ item ∷ [] ≡ take (i + 1) tracks
track_pushed tracks read item i next before is =
    let one : i + 1 ≡ suc i = omega arith in rw (one, next.taken, before, is) refl

pub tracks_rest : (tracks : List Track) (text : List ℕ) (i : ℕ) → text ≡ flat_map track_text (enumerate_from (1 + i + 1) (drop (suc i) tracks))
    → text ≡ flat_map track_text (enumerate_from (1 + (i + 1)) (drop (i + 1) tracks))
tracks_rest tracks text i is =
    let one : i + 1 ≡ suc i = omega arith in
    let two : 1 + suc i ≡ 1 + i + 1 = omega arith in rw (one, two) is

pub all_taken : (tracks read : List Track) (i : ℕ) → i ≡ length tracks → read ≡ take i tracks → read ≡ tracks
all_taken tracks read i end before = before ∙ ap (λ n. take n tracks) end ∙ take-length tracks

pub none_refused : {X : Type 0} (P : X → Type 0) (o : Option X) → o ≡ None → MatchOption o ⊥ P → ⊥
none_refused P o is found = subst (λ x. MatchOption x ⊥ P) is found

pub some_given : {X : Type 0} (P : X → Type 0) (o : Option X) (x : X) → o ≡ Some x → MatchOption o ⊥ P → P x
some_given P o x is found = subst (λ y. MatchOption y ⊥ P) is found
