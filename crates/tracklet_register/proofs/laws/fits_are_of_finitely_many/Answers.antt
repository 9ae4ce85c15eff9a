use Rattle.tracklet_register.proofs.Linking.{of_finitely_many}
use Rattle.tracklet_register.proofs.laws.fits_are_of_finitely_many.Goals as goal

pub returns : goal.returns
returns c = of_finitely_many
