use Rattle.std.proofs.Common.{w64, rules}
use mir.Facts.{to_z-of_z}
use mir.Val.{SFits}
use Rattle.mops_run.proofs.Steps.{links_some}
use Rattle.mops_run.proofs.Works.{work_to_link}
use Rattle.mops_run.proofs.linking.link_all.Goals as goal

pub returns-clause-replies : goal.returns-clause-replies
returns-clause-replies c =
    let fits : SFits w64 c.in-Some.night = search rules in
    links_some _ _ _ _ (record {
      night = c.in-Some.night;
      least = rw (c.settings.ensures.value, c.as_slice.ensures.value) at c.in-Some.ensures.least;
      window = c.in_ok-window.window;
      between = c.set_window.new.linker.state;
      set = simp to_z-of_z at c.in_ok-window.ensures.reply;
      delivered = c.in_ok-delivered.delivered.items;
      delivery = c.in_ok-delivered.ensures.replies;
      given_is = rw c.in_ok-replies.ensures at c.in_ok-append.ensures.items;
    })

pub returns-in_err-delivered-clause-work : goal.returns-in_err-delivered-clause-work
returns-in_err-delivered-clause-work c =
    let fits : SFits w64 c.in-Some.night = search rules in
    work_to_link _ _ _ c.in-Some.night c.in_ok-window.window _ _ _ (rw (c.settings.ensures.value, c.as_slice.ensures.value) at c.in-Some.ensures.least) (simp to_z-of_z at c.in_ok-window.ensures.reply)
    c.set_window.ensures.tally c.deliver.ensures.work

pub returns-in_err-append-clause-work : goal.returns-in_err-append-clause-work
returns-in_err-append-clause-work c =
    let fits : SFits w64 c.in-Some.night = search rules in
    work_to_link _ _ _ c.in-Some.night c.in_ok-window.window _ _ _ (rw (c.settings.ensures.value, c.as_slice.ensures.value) at c.in-Some.ensures.least) (simp to_z-of_z at c.in_ok-window.ensures.reply)
    c.set_window.ensures.tally c.deliver.ensures.work

pub returns-clause-work : goal.returns-clause-work
returns-clause-work c =
    let fits : SFits w64 c.in-Some.night = search rules in
    work_to_link _ _ _ c.in-Some.night c.in_ok-window.window _ _ _ (rw (c.settings.ensures.value, c.as_slice.ensures.value) at c.in-Some.ensures.least) (simp to_z-of_z at c.in_ok-window.ensures.reply)
    c.set_window.ensures.tally c.deliver.ensures.work
