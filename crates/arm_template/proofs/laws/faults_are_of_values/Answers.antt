use Rattle.arm_template.proofs.ProperLemmas.{never_memory}
use Rattle.arm_template.proofs.laws.faults_are_of_values.Goals as goal

pub returns : goal.returns
returns c = never_memory
