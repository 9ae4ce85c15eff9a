use Rattle.std.proofs.Common.{◌≡◌, ◌↔◌, ℕ, ℤ, Vec, Global, List, [], map, sym, subst, ap, ◌∙◌, to_z, of_z, w64}
use Rattle.std.proofs.lemmas.Int.{to_z-of_z}
use Rattle.std.specs.List.{Contains}
use Rattle.kept_nights.specs.KeptNights.{RiseByNumber, without_night}
use Rattle.kept_sets.proofs.Basics.{no_items}
use Rattle.kept_sets.specs.Changes.{IsAfter}
use Rattle.night_tree.specs.Nights.{NightData}
use Rattle.tracklet_register.proofs.Exchanged.{none_of_it}
use Rattle.tracklet_register.specs.Exchanges.{AreExchanged}
use Rattle.tracklet_register.specs.Registers.{IsWithout, is_taken, numbers_of, with_numbers}
use Rattle.tracklet_register.specs.declared.nights.NightNumbers.{NightNumbers}
use Rattle.kept_tracks.proofs.LeftNights.{AreOfThem, forgotten, is_without, ready_to_forget, without_left}
use Rattle.kept_tracks.specs.KeptFor.{AreKeptFor, KeptData}
use Rattle.kept_tracks.proofs.keeping.KeptTracks.let_go.Goals as goal

abbrev Goes : ℤ → ℤ → Type 0
Goes number other = other ≡ number

-- what the register told
are_its : (kept : KeptData) (nights : List NightData) (asked number : ℤ) (went : List ℕ) → RiseByNumber nights → asked ≡ number → ((n : ℕ) → Contains went n ↔ Contains (numbers_of kept.register.nights asked) n)
    → ((old new : List NightData) → IsWithout asked old new → AreExchanged went [] (with_numbers kept.register.nights old) (with_numbers kept.register.nights new)) → AreOfThem kept (Goes number) nights (without_night number nights) went
are_its kept nights asked number went rise is exactly exchanged = record {
  exactly = λ n. (
    λ c. (asked, is, (exactly n).0 c),
    λ w. (exactly n).1 (subst (λ night. Contains (numbers_of kept.register.nights night) n) (w.1 ∙ sym is) w.2),
  );
  exchanged = exchanged nights (without_night number nights) (subst (λ n. IsWithout n nights (without_night number nights)) (sym is) (is_without number nights rise));
}

pub change-requires-clause-ready : goal.change-requires-clause-ready
change-requires-clause-ready c =
    let kept : AreKeptFor c.requires.kept.0 c.args.nights.now.items (record { register = c.self.inside.register; sets = c.self.inside.sets }) = subst (AreKeptFor c.requires.kept.0 c.args.nights.now.items) (sym c.self.view_is) c.requires.kept.1 in
    let number : to_z w64 (of_z w64 c.args.number) ≡ c.args.number = to_z-of_z w64 c.args.number c.ranges.number in
    let its = are_its (record { register = c.self.inside.register; sets = c.self.inside.sets }) c.args.nights.now.items _ c.args.number c.in_ok-went.went.items c.requires.rising number c.in_ok-went.ensures.exactly c.in_ok-went.ensures.exchanged in
    rw (c.as_slice.ensures.value, c.new.ensures.items) (ready_to_forget (Goes c.args.number) c.requires.kept.0 c.args.nights.now.items (without_night c.args.number c.args.nights.now.items) (record { register = c.self.inside.register; sets = c.self.inside.sets }) c.in_ok-went.went.items kept c.requires.rising c.requires.follow its
    (without_left c.args.number c.args.nights.now.items c.requires.rising) c.requires.now)

pub change-requires-clause-came : goal.change-requires-clause-came
change-requires-clause-came c = no_items

pub release-requires : goal.release-requires
release-requires c = λ night number d.
    none_of_it c.self.inside.register.nights c.forget_night.new.self.nights _ c.in_ok-went.went.items c.in_ok-went.ensures.apart c.forget_night.ensures.gone c.forget_night.ensures.kept night number (subst (λ list. Contains list number) c.as_slice-2.ensures.value d)

pub returns-clause-ok : goal.returns-clause-ok
returns-clause-ok c = λ settings k.
    let kept : AreKeptFor settings c.args.nights.now.items (record { register = c.self.inside.register; sets = c.self.inside.sets }) = subst (AreKeptFor settings c.args.nights.now.items) (sym c.self.view_is) k in
    let number : to_z w64 (of_z w64 c.args.number) ≡ c.args.number = to_z-of_z w64 c.args.number c.ranges.number in
    let its = are_its (record { register = c.self.inside.register; sets = c.self.inside.sets }) c.args.nights.now.items _ c.args.number c.in_ok-went.went.items c.requires.rising number c.in_ok-went.ensures.exactly c.in_ok-went.ensures.exchanged in
    let left : c.let_go.new.nights.items ≡ without_night c.args.number c.args.nights.now.items = subst (λ n. c.let_go.new.nights.items ≡ without_night n c.args.nights.now.items) number c.let_go.ensures in
    let changed : (set : List ℕ) → Contains c.change.new.self set ↔ IsAfter c.in_ok-went.went.items [] c.self.inside.sets [] set =
    subst (λ (went : List ℕ). (set : List ℕ) → Contains c.change.new.self set ↔ IsAfter went [] c.self.inside.sets [] set) c.as_slice.ensures.value
    (subst (λ (items : List (Vec ℕ Global)). (set : List ℕ) → Contains c.change.new.self set ↔ IsAfter c.as_slice.result.now [] c.self.inside.sets (map (λ (set : Vec ℕ Global). set.items) items) set) c.new.ensures.items c.in_ok-change.ensures.changed) in
    let now : AreKeptFor settings (without_night c.args.number c.args.nights.now.items) (record { register = c.release.new.self; sets = c.change.new.self }) =
    forgotten (Goes c.args.number) settings c.args.nights.now.items (without_night c.args.number c.args.nights.now.items) (record { register = c.self.inside.register; sets = c.self.inside.sets }) c.in_ok-went.went.items kept c.requires.rising c.requires.follow its
    (without_left c.args.number c.args.nights.now.items c.requires.rising) c.requires.now
    (record { register = c.release.new.self; sets = c.change.new.self })
    (λ night is. subst (λ (list : List NightNumbers). numbers_of list night ≡ []) (sym c.release.ensures.nights) (ap (numbers_of c.forget_night.new.self.nights) (is ∙ sym number) ∙ c.forget_night.ensures.gone))
    (λ night differ. subst (λ (list : List NightNumbers). numbers_of list night ≡ numbers_of c.self.inside.register.nights night) (sym c.release.ensures.nights) (c.forget_night.ensures.kept night (λ is. differ (is ∙ number))))
    (λ n d. c.release.ensures.went n (subst (λ list. Contains list n) (sym c.as_slice-2.ensures.value) d))
    (λ n d. c.release.ensures.others n (λ l. d (subst (λ list. Contains list n) c.as_slice-2.ensures.value l)) ∙ ap (λ t. is_taken t n) c.forget_night.ensures.taken)
    c.change.ensures.once changed in
    subst (AreKeptFor settings c.let_go.new.nights.items) (sym c.compact.ensures) (subst (λ (list : List NightData). AreKeptFor settings list (record { register = c.release.new.self; sets = c.change.new.self })) (sym left) now)
