use Rattle.std.proofs.Common.{◌≡◌, ◌++◌, drop, map}
use Rattle.std.specs.Int.Signed.{lt_z}
use Rattle.std.specs.List.{filter}
use Rattle.night_tree.specs.Nights.{NightData}
use Rattle.kept_tracks.proofs.numbering.push_behind.Given as goal

abbrev pub invariant-loop-kept : goal.invariant-loop-kept
invariant-loop-kept l = map (λ night. night.now) l.lent.items ++ filter (λ (kept : NightData). lt_z l.number kept.number) (map (λ night. night.now) (drop l.kept-index l.nights))
    ≡ map (λ night. night.now) l.initial.lent.items ++ filter (λ (kept : NightData). lt_z l.number kept.number) (map (λ night. night.now) l.nights)
