use Rattle.tracklet_register.proofs.Linking.{are_numbered}
use Rattle.tracklet_register.proofs.laws.numbered_nights_are_numbered.Goals as goal

pub returns : goal.returns
returns c = λ register table nights size place different. are_numbered table register nights size place different
