use Rattle.plan_cells.proofs.KnownLemmas.{completes, told_so}
use Rattle.plan_cells.proofs.laws.told_is_so.Goals as goal

pub returns : goal.returns
returns g c = λ m n q t w h i r. told_so _ w q (completes m n w h i q t) r
