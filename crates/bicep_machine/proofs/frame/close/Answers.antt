use Rattle.bicep_machine.proofs.StackLemmas.{popped}
use Rattle.bicep_machine.proofs.frame.close.Goals as goal

pub returns-clause-frames : goal.returns-clause-frames
returns-clause-frames c = popped c.pop.result _ _ _ _ c.pop.ensures.items c.args.stack.now.ok.0 c.pop.ensures.cases
