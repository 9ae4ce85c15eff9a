-- Sets of places taken from one list into another, one after the other.
use Rattle.std.proofs.Common.{◌≡◌, ℕ, List, [], ◌∷◌, ◌++◌, map, refl, sym, subst, ap, ◌∙◌, append_assoc}
use Rattle.std.proofs.lemmas.List.Elements.{All-head, All-tail}
use Rattle.std.specs.BTreeSet.{insert_key}
use Rattle.std.specs.Cmp.Lexicographic.{slice_cmp}
use Rattle.std.specs.List.{All, filter_map}
use Rattle.std.specs.Ordering.{nat_cmp}
use Rattle.std.specs.Prelude.{Some, None}
use Rattle.std.specs.declared.cmp.Ordering.{Ordering}
use Rattle.std.specs.declared.cmp.Ordering.TheVariants.{Less, Equal, Greater}
use Rattle.sky_units.specs.AtPlaces.{spots_at}
use Rattle.sky_units.specs.SettingsData.{SettingsData}
use Rattle.sky_units.specs.SpotData.{SpotData}
use Rattle.purge.specs.Purging.{purge_of}
use Rattle.night_tree.specs.Nights.{in_order, with_set}
use Rattle.night_tree.specs.Tracklets.{IsGroup, IsSet}

-- ---- groups that are purged
pub record ArePurged (settings : SettingsData) (spots : List SpotData) (groups sets rest : List (List ℕ)) : Type 0 where
  pub same : filter_map (purge_of settings spots) groups ≡ sets ++ filter_map (purge_of settings spots) rest
  pub each : All (IsGroup spots) rest

pub purged_none : (settings : SettingsData) (spots : List SpotData) (groups sets rest : List (List ℕ)) → All (IsGroup spots) groups → sets ≡ [] → rest ≡ groups → ArePurged settings spots groups sets rest
purged_none settings spots groups sets rest each e f = rw (e, f) (record { same = refl; each = each })

pub first_group : (settings : SettingsData) (spots : List SpotData) (groups sets rest others : List (List ℕ)) (group : List ℕ) → ArePurged settings spots groups sets rest → rest ≡ group ∷ others → IsGroup spots group
first_group settings spots groups sets rest others group p e = All-head (IsGroup spots) group others (subst (All (IsGroup spots)) e p.each)

pub purged_one : (settings : SettingsData) (spots : List SpotData) (groups sets rest others new : List (List ℕ)) (group left : List ℕ) → ArePurged settings spots groups sets rest → rest ≡ group ∷ others → purge_of settings spots group ≡ Some left → new ≡ sets ++ left ∷ [] →
    ArePurged settings spots groups new others
purged_one settings spots groups sets rest others new group left p e l n = record {
  same =
      let step : filter_map (purge_of settings spots) (group ∷ others) ≡ left ∷ filter_map (purge_of settings spots) others = rw l refl in
      p.same ∙ ap (λ (r : List (List ℕ)). sets ++ filter_map (purge_of settings spots) r) e ∙ ap (λ (r : List (List ℕ)). sets ++ r) step ∙ sym (append_assoc sets (left ∷ []) (filter_map (purge_of settings spots) others)) ∙ ap (λ (r : List (List ℕ)). r ++ filter_map (purge_of settings spots) others) (sym n);
  each = All-tail (IsGroup spots) group others (subst (All (IsGroup spots)) e p.each);
}

pub purged_away : (settings : SettingsData) (spots : List SpotData) (groups sets rest others : List (List ℕ)) (group : List ℕ) → ArePurged settings spots groups sets rest → rest ≡ group ∷ others → purge_of settings spots group ≡ None → ArePurged settings spots groups sets others
purged_away settings spots groups sets rest others group p e l = record {
  same =
      let step : filter_map (purge_of settings spots) (group ∷ others) ≡ filter_map (purge_of settings spots) others = rw l refl in
      p.same ∙ ap (λ (r : List (List ℕ)). sets ++ filter_map (purge_of settings spots) r) e ∙ ap (λ (r : List (List ℕ)). sets ++ r) step;
  each = All-tail (IsGroup spots) group others (subst (All (IsGroup spots)) e p.each);
}

-- ---- sets put in order, the last one first
abbrev pub into : List (List ℕ) → List (List ℕ) → List (List ℕ)
into [] ordered = ordered
into (set ∷ rest) ordered = with_set set (into rest ordered)

pub into_none : (sets : List (List ℕ)) → into sets [] ≡ in_order sets
into_none [] = refl
into_none (set ∷ rest) = ap (with_set set) (into_none rest)

into_last : (sets : List (List ℕ)) (set : List ℕ) (ordered : List (List ℕ)) → into (sets ++ set ∷ []) ordered ≡ into sets (with_set set ordered)
into_last [] set ordered = refl
into_last (first ∷ rest) set ordered = ap (with_set first) (into_last rest set ordered)

pub into_popped : (sets rest others ordered new : List (List ℕ)) (set : List ℕ) → in_order sets ≡ into rest ordered → rest ≡ others ++ set ∷ [] → new ≡ with_set set ordered → in_order sets ≡ into others new
into_popped sets rest others ordered new set h e n = h ∙ ap (λ (r : List (List ℕ)). into r ordered) e ∙ into_last others set ordered ∙ ap (into others) (sym n)

-- a set of keys is a list in order, each once
pub inserted : {K : Type 0} (places : K → List ℕ) (keys : List K) (key : K) → map places (insert_key (λ a b. slice_cmp nat_cmp (places a) (places b)) keys key) ≡ with_set (places key) (map places keys)
inserted places [] key = refl
inserted places (x ∷ rest) key = by (slice_cmp nat_cmp (places key) (places x)) refl (inserted places rest key)
  where
    by : (order : Ordering) → slice_cmp nat_cmp (places key) (places x) ≡ order → map places (insert_key (λ a b. slice_cmp nat_cmp (places a) (places b)) rest key) ≡ with_set (places key) (map places rest) →
        map places (insert_key (λ a b. slice_cmp nat_cmp (places a) (places b)) (x ∷ rest) key) ≡ with_set (places key) (map places (x ∷ rest))
    by Less e others = rw e refl
    by Equal e others = rw e refl
    by Greater e others = rw e (ap (λ (sets : List (List ℕ)). places x ∷ sets) others)

-- ---- tracklets of sets
pub record AreListed {K : Type 0} (places : K → List ℕ) (spots : List SpotData) (sets : List (List ℕ)) (tracklets : List (List SpotData)) (rest : List K) : Type 0 where
  pub same : map (spots_at spots) sets ≡ tracklets ++ map (spots_at spots) (map places rest)
  pub each : All (IsSet spots) (map places rest)

pub listed_none : {K : Type 0} (places : K → List ℕ) (spots : List SpotData) (sets : List (List ℕ)) (tracklets : List (List SpotData)) (rest : List K) → All (IsSet spots) sets → map places rest ≡ sets → tracklets ≡ [] → AreListed places spots sets tracklets rest
listed_none places spots sets tracklets rest each e t = rw t (record { same = ap (map (spots_at spots)) (sym e); each = subst (All (IsSet spots)) (sym e) each })

pub listed_one : {K : Type 0} (places : K → List ℕ) (spots : List SpotData) (sets : List (List ℕ)) (tracklets new : List (List SpotData)) (rest others : List K) (set : K) (together : List SpotData) → AreListed places spots sets tracklets rest → rest ≡ set ∷ others →
    together ≡ spots_at spots (places set) → new ≡ tracklets ++ together ∷ [] → AreListed places spots sets new others
listed_one places spots sets tracklets new rest others set together a e t n =
    let more : new ≡ tracklets ++ spots_at spots (places set) ∷ [] = n ∙ ap (λ (x : List SpotData). tracklets ++ x ∷ []) t in
    let tail : List (List SpotData) = map (spots_at spots) (map places others) in
    record {
      same =
          a.same ∙ ap (λ (r : List _). tracklets ++ map (spots_at spots) (map places r)) e ∙ sym (append_assoc tracklets (spots_at spots (places set) ∷ []) tail) ∙ ap (λ (r : List (List SpotData)). r ++ tail) (sym more);
      each = All-tail (IsSet spots) (places set) (map places others) (subst (λ (r : List _). All (IsSet spots) (map places r)) e a.each);
    }
