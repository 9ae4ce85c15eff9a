use Rattle.collapse.proofs.Filing.{pushed}
use Rattle.collapse.proofs.strips.file.Goals as goal

pub returns : goal.returns
returns c = pushed (λ list. list.items) c.args.strips.now.items c.args.strip c.index_mut.result.now c.push.new.self c.args.entry c.requires c.index_mut.ensures.value c.in_ok-push.ensures.items
