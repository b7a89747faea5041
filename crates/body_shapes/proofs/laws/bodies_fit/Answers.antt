use Rattle.body_shapes.proofs.ShapeLemmas.{fits}
use Rattle.body_shapes.proofs.laws.bodies_fit.Goals as goal

pub returns : goal.returns
returns c = fits
