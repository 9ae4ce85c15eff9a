-- Exchanges in a register that can be taken back one by one.
use Rattle.std.proofs.Common.{◌≡◌, ℕ, ℤ, List, [], ◌∷◌, ◌++◌, reverse, sym, subst, ap, ◌∙◌}
use Rattle.std.proofs.lemmas.List.{reverse-append}
use Rattle.std.specs.List.{Contains}
use Rattle.sky_units.specs.TrackletData.{NightTracklets}
use Rattle.tracklet_register.specs.Registers.{AreAlike, HasNight, RegisterData, numbers_of}
use Rattle.tracklet_register.specs.Replacing.{CanReturn, IsReplaced}
use Rattle.kept_tracks.specs.Undoing.{CanBeUndone, IsRestored}
use Rattle.kept_tracks.specs.declared.exchanging.Replacement.{Replacement}
use Rattle.kept_tracks.proofs.Restored.{restored}

abbrev Enters : RegisterData → RegisterData → Type 0
Enters old new = (other : ℤ) → HasNight old.nights other → HasNight new.nights other

both_alike : (first now same : RegisterData) → AreAlike first now → AreAlike now same → AreAlike first same
both_alike first now same a b = record {
  nights = λ night. b.nights night ∙ a.nights night;
  taken = λ number. b.taken number ∙ a.taken number;
}

return_alike : (now same : RegisterData) (night : ℤ) (before came : List ℕ) → AreAlike now same → Enters now same → CanReturn now night before came → CanReturn same night before came
return_alike now same night before came a entered can = record {
  there = entered night can.there;
  few = can.few;
  once = can.once;
  held = λ number c. a.taken number ∙ can.held number c;
  apart = λ other number differ c. can.apart other number differ (subst (λ (list : List ℕ). Contains list number) (a.nights other) c);
  fresh = can.fresh;
  own = λ other number differ c. can.own other number differ (subst (λ (list : List ℕ). Contains list number) (a.nights other) c);
}

restored_alike : (now same back : RegisterData) (night : ℤ) (before came : List ℕ) → AreAlike now same → Enters now same → IsRestored same night before came back → IsRestored now night before came back
restored_alike now same back night before came a entered r = record {
  here = r.here;
  elsewhere = λ other differ. r.elsewhere other differ ∙ a.nights other;
  freed = r.freed;
  others = λ number n. r.others number n ∙ a.taken number;
  entered = λ other h. r.entered other (entered other h);
}

-- in a register that is alike the same can be undone
pub still_undone : (first now same : RegisterData) (done : List Replacement) → AreAlike now same → Enters now same → CanBeUndone first done now → CanBeUndone first done same
still_undone first now same [] a entered c = both_alike first now same c a
still_undone first now same (one ∷ rest) a entered c = (
  return_alike now same one.night one.exchange.before.items one.exchange.came.items a entered c.0,
  λ back r. c.1 back (restored_alike now same back one.night one.exchange.before.items one.exchange.came.items a entered r),
)

-- one exchange more can be undone
pub one_more : (first now new : RegisterData) (one : Replacement) (done : List Replacement) (before after : NightTracklets) → IsReplaced now new one.night before after one.exchange.went.items one.exchange.came.items → one.exchange.before.items ≡ numbers_of now.nights one.night
    → CanReturn new one.night one.exchange.before.items one.exchange.came.items → Enters now new → CanBeUndone first done now → CanBeUndone first (one ∷ done) new
one_more first now new one done before after replaced is can entered c = (
  can,
  λ back r. still_undone first now back done
      (restored now new back one.night before after one.exchange.went.items one.exchange.came.items one.exchange.before.items replaced is r.here r.elsewhere r.freed r.others)
      (λ other h. r.entered other (entered other h)) c,
)

-- the same where it is noted behind the others
pub noted : (first now new : RegisterData) (one : Replacement) (done pushed : List Replacement) (night : ℤ) (before after : NightTracklets) → pushed ≡ done ++ one ∷ [] → night ≡ one.night → IsReplaced now new night before after one.exchange.went.items one.exchange.came.items
    → one.exchange.before.items ≡ numbers_of now.nights night → CanReturn new night one.exchange.before.items one.exchange.came.items → Enters now new → CanBeUndone first (reverse done) now → CanBeUndone first (reverse pushed) new
noted first now new one done pushed night before after is same replaced had can entered undone =
    subst (λ (list : List Replacement). CanBeUndone first list new) (sym (ap reverse is ∙ reverse-append done (one ∷ [])))
    (one_more first now new one (reverse done) before after
    (subst (λ n. IsReplaced now new n before after one.exchange.went.items one.exchange.came.items) same replaced) (had ∙ ap (numbers_of now.nights) same)
    (subst (λ n. CanReturn new n one.exchange.before.items one.exchange.came.items) same can) entered undone)
