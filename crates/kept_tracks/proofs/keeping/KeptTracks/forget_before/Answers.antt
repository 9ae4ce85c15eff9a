use Rattle.std.proofs.Common.{◌≡◌, ◌↔◌, ℕ, ℤ, ◌<ℤ◌, Vec, Global, List, [], map, sym, subst, ap, ◌∙◌, to_z, of_z, w64}
use Rattle.std.proofs.lemmas.Int.{to_z-of_z}
use Rattle.std.specs.List.{Contains}
use Rattle.kept_nights.specs.KeptNights.{RiseByNumber}
use Rattle.kept_sets.proofs.Basics.{no_items}
use Rattle.kept_sets.specs.Changes.{IsAfter}
use Rattle.night_tree.specs.Nights.{NightData}
use Rattle.tracklet_register.proofs.Exchanged.{none_left}
use Rattle.tracklet_register.specs.Exchanges.{AreExchanged}
use Rattle.tracklet_register.specs.Registers.{IsBefore, IsCutBefore, is_taken, numbers_of, with_numbers}
use Rattle.tracklet_register.specs.declared.nights.NightNumbers.{NightNumbers}
use Rattle.kept_tracks.proofs.LeftNights.{AreOfThem, cut_before, forgotten, ready_to_forget, since_left}
use Rattle.kept_tracks.specs.KeptFor.{AreKeptFor, KeptData, since}
use Rattle.kept_tracks.proofs.keeping.KeptTracks.forget_before.Goals as goal

abbrev Goes : ℤ → ℤ → Type 0
Goes first number = number <ℤ first

-- what the register told
are_before : (kept : KeptData) (nights : List NightData) (asked first : ℤ) (went : List ℕ) → RiseByNumber nights → asked ≡ first → ((number : ℕ) → Contains went number ↔ IsBefore kept.register.nights asked number)
    → ((old new : List NightData) → IsCutBefore asked old new → AreExchanged went [] (with_numbers kept.register.nights old) (with_numbers kept.register.nights new)) → AreOfThem kept (Goes first) nights (since first nights) went
are_before kept nights asked first went rise is exactly exchanged = record {
  exactly = subst (λ n. (number : ℕ) → Contains went number ↔ IsBefore kept.register.nights n number) is exactly;
  exchanged = exchanged nights (since first nights) (subst (λ n. IsCutBefore n nights (since first nights)) (sym is) (cut_before first nights rise));
}

pub change-requires-clause-ready : goal.change-requires-clause-ready
change-requires-clause-ready c =
    let kept : AreKeptFor c.requires.kept.0 c.args.nights.now.items (record { register = c.self.inside.register; sets = c.self.inside.sets }) = subst (AreKeptFor c.requires.kept.0 c.args.nights.now.items) (sym c.self.view_is) c.requires.kept.1 in
    let first : to_z w64 (of_z w64 c.args.first) ≡ c.args.first = to_z-of_z w64 c.args.first c.ranges.first in
    let before = are_before (record { register = c.self.inside.register; sets = c.self.inside.sets }) c.args.nights.now.items _ c.args.first c.in_ok-went.went.items c.requires.rising first c.in_ok-went.ensures.exactly c.in_ok-went.ensures.exchanged in
    rw (c.as_slice.ensures.value, c.new.ensures.items) (ready_to_forget (Goes c.args.first) c.requires.kept.0 c.args.nights.now.items (since c.args.first c.args.nights.now.items) (record { register = c.self.inside.register; sets = c.self.inside.sets }) c.in_ok-went.went.items kept c.requires.rising c.requires.follow before
    (since_left c.args.first c.args.nights.now.items c.requires.rising) c.requires.now)

pub change-requires-clause-came : goal.change-requires-clause-came
change-requires-clause-came c = no_items

pub release-requires : goal.release-requires
release-requires c = λ night number d.
    none_left c.self.inside.register.nights c.forget_before.new.self.nights _ c.in_ok-went.went.items c.in_ok-went.ensures.apart c.forget_before.ensures.gone c.forget_before.ensures.kept night number (subst (λ list. Contains list number) c.as_slice-2.ensures.value d)

pub returns-clause-ok : goal.returns-clause-ok
returns-clause-ok c = λ settings k.
    let kept : AreKeptFor settings c.args.nights.now.items (record { register = c.self.inside.register; sets = c.self.inside.sets }) = subst (AreKeptFor settings c.args.nights.now.items) (sym c.self.view_is) k in
    let first : to_z w64 (of_z w64 c.args.first) ≡ c.args.first = to_z-of_z w64 c.args.first c.ranges.first in
    let before = are_before (record { register = c.self.inside.register; sets = c.self.inside.sets }) c.args.nights.now.items _ c.args.first c.in_ok-went.went.items c.requires.rising first c.in_ok-went.ensures.exactly c.in_ok-went.ensures.exchanged in
    let left : c.forget_before-2.new.nights.items ≡ since c.args.first c.args.nights.now.items = subst (λ n. c.forget_before-2.new.nights.items ≡ since n c.args.nights.now.items) first c.forget_before-2.ensures in
    let changed : (set : List ℕ) → Contains c.change.new.self set ↔ IsAfter c.in_ok-went.went.items [] c.self.inside.sets [] set =
    subst (λ (went : List ℕ). (set : List ℕ) → Contains c.change.new.self set ↔ IsAfter went [] c.self.inside.sets [] set) c.as_slice.ensures.value
    (subst (λ (items : List (Vec ℕ Global)). (set : List ℕ) → Contains c.change.new.self set ↔ IsAfter c.as_slice.result.now [] c.self.inside.sets (map (λ (set : Vec ℕ Global). set.items) items) set) c.new.ensures.items c.in_ok-change.ensures.changed) in
    let now : AreKeptFor settings (since c.args.first c.args.nights.now.items) (record { register = c.release.new.self; sets = c.change.new.self }) =
    forgotten (Goes c.args.first) settings c.args.nights.now.items (since c.args.first c.args.nights.now.items) (record { register = c.self.inside.register; sets = c.self.inside.sets }) c.in_ok-went.went.items kept c.requires.rising c.requires.follow before
    (since_left c.args.first c.args.nights.now.items c.requires.rising) c.requires.now
    (record { register = c.release.new.self; sets = c.change.new.self })
    (λ night l. subst (λ (list : List NightNumbers). numbers_of list night ≡ []) (sym c.release.ensures.nights) (c.forget_before.ensures.gone night (subst (λ n. night <ℤ n) (sym first) l)))
    (λ night late. subst (λ (list : List NightNumbers). numbers_of list night ≡ numbers_of c.self.inside.register.nights night) (sym c.release.ensures.nights) (c.forget_before.ensures.kept night (λ l. late (subst (λ n. night <ℤ n) first l))))
    (λ n d. c.release.ensures.went n (subst (λ list. Contains list n) (sym c.as_slice-2.ensures.value) d))
    (λ n d. c.release.ensures.others n (λ l. d (subst (λ list. Contains list n) c.as_slice-2.ensures.value l)) ∙ ap (λ t. is_taken t n) c.forget_before.ensures.taken)
    c.change.ensures.once changed in
    subst (AreKeptFor settings c.forget_before-2.new.nights.items) (sym c.compact.ensures) (subst (λ (list : List NightData). AreKeptFor settings list (record { register = c.release.new.self; sets = c.change.new.self })) (sym left) now)
