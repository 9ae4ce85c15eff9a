use Rattle.std.proofs.Common.{◌≡◌, ◌++◌, [], filter, map, subst, ◌∙◌, to_z, of_z, w64}
use Rattle.std.proofs.lemmas.Int.{to_z-of_z}
use Rattle.std.specs.Int.Signed.{lt_z}
use Rattle.night_tree.specs.Nights.{NightData}
use Rattle.kept_tracks.proofs.Lent.{joined}
use Rattle.kept_tracks.proofs.numbering.lent_with_one.Goals as goal

pub returns : goal.returns
returns c =
    let first : to_z w64 (of_z w64 c.number.result) ≡ c.args.night.now.number = to_z-of_z w64 c.number.result (record { sfits = c.number.type_inv }) ∙ c.number.ensures in
    let second : to_z w64 (of_z w64 c.number-2.result) ≡ c.args.night.now.number = to_z-of_z w64 c.number-2.result (record { sfits = c.number-2.type_inv }) ∙ c.number-2.ensures in
    let front : map (λ night. night.now) c.push_before.new.lent.items ≡ [] ++ filter (λ (kept : NightData). lt_z kept.number c.args.night.now.number) (map (λ night. night.now) c.args.nights.now) =
    subst (λ n. map (λ night. night.now) c.push_before.new.lent.items ≡ [] ++ filter (λ (kept : NightData). lt_z kept.number n) (map (λ night. night.now) c.args.nights.now)) first (rw c.new-lent.ensures.items at c.in_ok-push_before.ensures) in
    let behind : map (λ night. night.now) c.push_behind.new.lent.items ≡ map (λ night. night.now) c.push.new.self.items ++ filter (λ (kept : NightData). lt_z c.args.night.now.number kept.number) (map (λ night. night.now) c.args.nights.now) =
    subst (λ n. map (λ night. night.now) c.push_behind.new.lent.items ≡ map (λ night. night.now) c.push.new.self.items ++ filter (λ (kept : NightData). lt_z n kept.number) (map (λ night. night.now) c.args.nights.now)) second c.in_ok-push_behind.ensures in
    joined (λ night. night.now) _ _ c.args.night _ _ _ front c.in_ok-push.ensures.items behind
