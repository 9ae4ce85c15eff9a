use Rattle.std.proofs.Common.{sym, subst}
use Rattle.std.specs.List.{All}
use Rattle.sky_units.specs.declared.reports.Report.{Report}
use Rattle.window_incr.specs.Answers.{AreTracksOf, CanBeTold, IsReport}
use Rattle.window_incr.specs.LinkerState.{LinkerState}
use Rattle.window_incr.proofs.Kept.{results_of}
use Rattle.window_incr.proofs.TracksTold.{can_be_told}
use Rattle.window_incr.proofs.Valid.{valid}
use Rattle.window_incr.proofs.state.Linker.report.Goals as goal

pub listed-requires : goal.listed-requires
listed-requires c =
    let s : LinkerState = record { settings = c.self.inside.settings; log = c.self.inside.log } in
    (s.settings, (results_of s.settings s.log c.self.inside.nights.items c.as_slice.result.now c.self.inside.kept c.self.invariant.0 c.window-window.ensures.orderly c.self.invariant.2 c.self.invariant.3 c.as_slice.ensures.value))

pub tracks_of-requires : goal.tracks_of-requires
tracks_of-requires c =
    let s : LinkerState = record { settings = c.self.inside.settings; log = c.self.inside.log } in
    record { told = subst (All (CanBeTold s.settings)) (sym c.as_slice-2.ensures.value) (can_be_told s c.in_ok-list.list.items c.window-window.ensures.orderly (c.in_ok-list.ensures s.settings (results_of s.settings s.log c.self.inside.nights.items c.as_slice.result.now c.self.inside.kept c.self.invariant.0 c.window-window.ensures.orderly c.self.invariant.2 c.self.invariant.3 c.as_slice.ensures.value))) }

pub returns-clause-valid : goal.returns-clause-valid
returns-clause-valid c =
    let s : LinkerState = record { settings = c.self.inside.settings; log = c.self.inside.log } in
    let report : Report = record { window = c.window-window.result; tracks = c.in_ok-tracks.tracks } in
    let is : IsReport s report = record {
      list = c.in_ok-list.list.items;
      is_list = c.in_ok-list.ensures s.settings (results_of s.settings s.log c.self.inside.nights.items c.as_slice.result.now c.self.inside.kept c.self.invariant.0 c.window-window.ensures.orderly c.self.invariant.2 c.self.invariant.3 c.as_slice.ensures.value);
      window = c.window-window.ensures.value;
      tracks = subst (λ sets. AreTracksOf s sets c.in_ok-tracks.tracks) c.as_slice-2.ensures.value c.in_ok-tracks.ensures.tracks;
    } in
    valid s report c.window-window.ensures.orderly c.self.invariant.1 is c.in_ok-tracks.ensures.valid

pub returns-clause-report : goal.returns-clause-report
returns-clause-report c =
    let s : LinkerState = record { settings = c.self.inside.settings; log = c.self.inside.log } in
    let report : Report = record { window = c.window-window.result; tracks = c.in_ok-tracks.tracks } in
    let is : IsReport s report = record {
      list = c.in_ok-list.list.items;
      is_list = c.in_ok-list.ensures s.settings (results_of s.settings s.log c.self.inside.nights.items c.as_slice.result.now c.self.inside.kept c.self.invariant.0 c.window-window.ensures.orderly c.self.invariant.2 c.self.invariant.3 c.as_slice.ensures.value);
      window = c.window-window.ensures.value;
      tracks = subst (λ sets. AreTracksOf s sets c.in_ok-tracks.tracks) c.as_slice-2.ensures.value c.in_ok-tracks.ensures.tracks;
    } in
    rw (← c.self.view_is) is
