use Rattle.std.proofs.Common.{arith}
use Rattle.bicep_placed.proofs.FrontLemmas.{front_short}
use Rattle.bicep_placed.proofs.kinds.begins.Goals as goal

pub returns-then-front-whole : goal.returns-then-front-whole
returns-then-front-whole c = front_short c.args.front.now c.args.whole.now (omega arith)
