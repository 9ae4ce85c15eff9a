use Rattle.std.proofs.Common.{◌≡◌, List, inl, inr, map, refl, sym, subst}
use Rattle.std.specs.List.{Contains}
use Rattle.kept_nights.proofs.Renewal.{rise_all}
use Rattle.kept_nights.specs.KeptNights.{RiseByNumber}
use Rattle.kept_nights.specs.Renewed.{with_nights}
use Rattle.kept_sets.specs.Kept.{AreKept}
use Rattle.night_tree.specs.Nights.{NightData}
use Rattle.set_grow.specs.Costs.{IsBounded}
use Rattle.set_grow.specs.Fitting.{FitsByNumber}
use Rattle.set_grow.specs.Nights.{by_night}
use Rattle.tracklet_register.specs.Registers.{HasNumbersOf, with_numbers}
use Rattle.kept_tracks.proofs.Released.{exchange_of, few_tests, nothing_came, now_kept}
use Rattle.kept_tracks.proofs.Restored.{on_err, still_kept}
use Rattle.kept_tracks.proofs.SeveralNights.{numbered_but}
use Rattle.kept_tracks.specs.Costs.{AreFewTests}
use Rattle.kept_tracks.specs.KeptFor.{AreKeptFor, KeptData, StandAlike}
use Rattle.kept_tracks.specs.Stages.{IsExchangeOf}
use Rattle.kept_tracks.proofs.keeping.KeptTracks.exchange_all.Goals as goal

pub exchange_tracklets-requires-clause-numbered : goal.exchange_tracklets-requires-clause-numbered
exchange_tracklets-requires-clause-numbered c =
    let kept : AreKeptFor c.args.settings.now c.args.nights.now (record { register = c.self.inside.register; sets = c.self.inside.sets }) = subst (AreKeptFor c.args.settings.now c.args.nights.now) (sym c.self.view_is) c.requires.kept in
    numbered_but c.args.settings.now c.args.nights.now (record { register = c.self.inside.register; sets = c.self.inside.sets }) kept

pub returns-in_err-exchanged-clause-still : goal.returns-in_err-exchanged-clause-still
returns-in_err-exchanged-clause-still c =
    let kept : AreKeptFor c.args.settings.now c.args.nights.now (record { register = c.self.inside.register; sets = c.self.inside.sets }) = subst (AreKeptFor c.args.settings.now c.args.nights.now) (sym c.self.view_is) c.requires.kept in
    let still : AreKeptFor c.args.settings.now c.args.nights.now (record { register = c.exchange_tracklets.new.register; sets = c.self.inside.sets }) =
    still_kept c.args.settings.now c.args.nights.now (record { register = c.self.inside.register; sets = c.self.inside.sets }) (record { register = c.exchange_tracklets.new.register; sets = c.self.inside.sets }) (record { register = c.in_err-exchanged.ensures.same; sets = refl }) kept in
    on_err c.from_residual-in_err-exchanged.result still

pub change_sets-changed_sets-requires-clause-numbered : goal.change_sets-changed_sets-requires-clause-numbered
change_sets-changed_sets-requires-clause-numbered c =
    let lent : map (λ night. night.now) c.as_slice.result.now ≡ with_nights c.args.changed.now c.args.nights.now = rw c.as_slice.ensures.value c.in_ok-lent.ensures in
    subst (HasNumbersOf c.exchange_tracklets.new.register.nights) (sym lent) c.in_ok-exchanged.ensures.ok.now.numbered

pub change_sets-changed_sets-requires-clause-rising : goal.change_sets-changed_sets-requires-clause-rising
change_sets-changed_sets-requires-clause-rising c =
    let lent : map (λ night. night.now) c.as_slice.result.now ≡ with_nights c.args.changed.now c.args.nights.now = rw c.as_slice.ensures.value c.in_ok-lent.ensures in
    subst RiseByNumber (sym lent) (rise_all c.args.changed.now c.args.nights.now c.requires.rising)

pub change_sets-changed_sets-requires-clause-exchange : goal.change_sets-changed_sets-requires-clause-exchange
change_sets-changed_sets-requires-clause-exchange c =
    let kept : AreKeptFor c.args.settings.now c.args.nights.now (record { register = c.self.inside.register; sets = c.self.inside.sets }) = subst (AreKeptFor c.args.settings.now c.args.nights.now) (sym c.self.view_is) c.requires.kept in
    let lent : map (λ night. night.now) c.as_slice.result.now ≡ with_nights c.args.changed.now c.args.nights.now = rw c.as_slice.ensures.value c.in_ok-lent.ensures in
    subst (λ (nights : List NightData). IsExchangeOf c.args.settings.now c.in_ok-exchanged.exchanged.change.went.items c.in_ok-exchanged.exchanged.change.came.items c.self.inside.sets (with_numbers c.exchange_tracklets.new.register.nights nights)) (sym lent)
    (exchange_of c.args.settings.now c.args.nights.now c.args.changed.now (record { register = c.self.inside.register; sets = c.self.inside.sets }) c.exchange_tracklets.new.register c.in_ok-exchanged.exchanged.change.went.items c.in_ok-exchanged.exchanged.change.came.items c.in_ok-exchanged.ensures.ok kept c.requires.rising c.requires.follow)

pub returns-in-Err-clause-still : goal.returns-in-Err-clause-still
returns-in-Err-clause-still c =
    let same : StandAlike c.args.self.now (record { register = c.restore_all.new.register; sets = c.change_sets-changed_sets.new.sets }) =
    subst (λ (old : KeptData). StandAlike old (record { register = c.restore_all.new.register; sets = c.change_sets-changed_sets.new.sets })) c.self.view_is (record { register = c.restore_all.ensures c.self.inside.register c.in_ok-exchanged.ensures.back; sets = c.in-Err.ensures.err }) in
    still_kept c.args.settings.now c.args.nights.now c.args.self.now (record { register = c.restore_all.new.register; sets = c.change_sets-changed_sets.new.sets }) same c.requires.kept

pub returns-in-Err-clause-tests : goal.returns-in-Err-clause-tests
returns-in-Err-clause-tests c = elim c.in-Err.ensures.tests [
  | inl same ↦ inl same
  | inr w ↦
      let lent : map (λ night. night.now) c.as_slice.result.now ≡ with_nights c.args.changed.now c.args.nights.now = rw c.as_slice.ensures.value c.in_ok-lent.ensures in
      inr (subst (λ (kept : KeptData). AreFewTests c.args.settings.now kept.register.nights c.args.nights.now (with_nights c.args.changed.now c.args.nights.now) c.args.tally.now.tests c.change_sets-changed_sets.new.tally.tests) c.self.view_is
      (few_tests c.args.settings.now c.args.nights.now c.args.changed.now (record { register = c.self.inside.register; sets = c.self.inside.sets }) c.exchange_tracklets.new.register c.in_ok-exchanged.exchanged.change.went.items c.in_ok-exchanged.exchanged.change.came.items c.in_ok-exchanged.ensures.ok w.0 c.args.tally.now.tests c.change_sets-changed_sets.new.tally.tests
      (subst (λ (nights : List NightData). IsBounded (record { settings = c.args.settings.now; nights = with_numbers c.exchange_tracklets.new.register.nights nights; table = w.0 }) c.in_ok-exchanged.exchanged.change.came.items c.args.tally.now.tests c.change_sets-changed_sets.new.tally.tests) lent w.1)))
]

pub returns-in-Err-clause-calm : goal.returns-in-Err-clause-calm
returns-in-Err-clause-calm c = λ nothing. c.in-Err.ensures.calm
    (nothing_came c.args.settings.now c.args.nights.now c.args.changed.now (record { register = c.self.inside.register; sets = c.self.inside.sets }) c.exchange_tracklets.new.register c.in_ok-exchanged.exchanged.change.went.items c.in_ok-exchanged.exchanged.change.came.items c.in_ok-exchanged.ensures.ok nothing)

pub release-requires : goal.release-requires
release-requires c = λ night number d. c.in_ok-exchanged.ensures.ok.now.gone night number (subst (λ list. Contains list number) c.as_slice-2.ensures.value d)

pub returns-clause-ok : goal.returns-clause-ok
returns-clause-ok c =
    let lent : map (λ night. night.now) c.as_slice.result.now ≡ with_nights c.args.changed.now c.args.nights.now = rw c.as_slice.ensures.value c.in_ok-lent.ensures in
    now_kept c.args.settings.now (with_nights c.args.changed.now c.args.nights.now) c.exchange_tracklets.new.register c.in_ok-exchanged.exchanged.change.went.items (record { register = c.release.new.self; sets = c.change_sets-changed_sets.new.sets }) c.in_ok-exchanged.ensures.ok.now c.release.ensures.nights
    (λ n d. c.release.ensures.went n (subst (λ list. Contains list n) (sym c.as_slice-2.ensures.value) d))
    (λ n d. c.release.ensures.others n (λ l. d (subst (λ list. Contains list n) c.as_slice-2.ensures.value l)))
    (subst (λ (nights : List NightData). AreKept (FitsByNumber c.args.settings.now (by_night (with_numbers c.exchange_tracklets.new.register.nights nights))) c.change_sets-changed_sets.new.sets) lent c.in_default.ensures.ok)

pub returns-clause-tests : goal.returns-clause-tests
returns-clause-tests c = elim c.in_default.ensures.tests [
  | inl same ↦ inl same
  | inr w ↦
      let lent : map (λ night. night.now) c.as_slice.result.now ≡ with_nights c.args.changed.now c.args.nights.now = rw c.as_slice.ensures.value c.in_ok-lent.ensures in
      inr (subst (λ (kept : KeptData). AreFewTests c.args.settings.now kept.register.nights c.args.nights.now (with_nights c.args.changed.now c.args.nights.now) c.args.tally.now.tests c.change_sets-changed_sets.new.tally.tests) c.self.view_is
      (few_tests c.args.settings.now c.args.nights.now c.args.changed.now (record { register = c.self.inside.register; sets = c.self.inside.sets }) c.exchange_tracklets.new.register c.in_ok-exchanged.exchanged.change.went.items c.in_ok-exchanged.exchanged.change.came.items c.in_ok-exchanged.ensures.ok w.0 c.args.tally.now.tests c.change_sets-changed_sets.new.tally.tests
      (subst (λ (nights : List NightData). IsBounded (record { settings = c.args.settings.now; nights = with_numbers c.exchange_tracklets.new.register.nights nights; table = w.0 }) c.in_ok-exchanged.exchanged.change.came.items c.args.tally.now.tests c.change_sets-changed_sets.new.tally.tests) lent w.1)))
]

pub returns-clause-calm : goal.returns-clause-calm
returns-clause-calm c = λ nothing. c.in_default.ensures.calm
    (nothing_came c.args.settings.now c.args.nights.now c.args.changed.now (record { register = c.self.inside.register; sets = c.self.inside.sets }) c.exchange_tracklets.new.register c.in_ok-exchanged.exchanged.change.went.items c.in_ok-exchanged.exchanged.change.came.items c.in_ok-exchanged.ensures.ok nothing)
