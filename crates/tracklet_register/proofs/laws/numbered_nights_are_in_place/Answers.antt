use Rattle.tracklet_register.proofs.Linking.{in_place}
use Rattle.tracklet_register.proofs.laws.numbered_nights_are_in_place.Goals as goal

pub returns : goal.returns
returns c = λ register table nights size follow rise leads. in_place table register nights leads size follow rise
