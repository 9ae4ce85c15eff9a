use Rattle.std.proofs.Common.{rules, sym}
use Rattle.std.specs.Cmp.Lexicographic.{bytes_decides}
use Rattle.exposure_log.proofs.Cutting.{same_site}
use Rattle.exposure_log.proofs.canonical.compare_sites.Goals as goal

pub returns-then-eq : goal.returns-then-eq
returns-then-eq c = sym (same_site c.args.first.now c.args.second.now ((bytes_decides c.args.first.now c.args.second.now).0 (search rules)))
