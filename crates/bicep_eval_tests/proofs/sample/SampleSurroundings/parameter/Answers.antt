use Rattle.arm_value.specs.View.{json}
use Rattle.bicep_eval_tests.proofs.SampleLemmas.{no_parameter}
use Rattle.bicep_eval_tests.proofs.sample.SampleSurroundings.parameter.Goals as goal

pub returns : goal.returns
returns c = no_parameter (json c.args.self.now.state) c.args.self.now.place c.args._number
