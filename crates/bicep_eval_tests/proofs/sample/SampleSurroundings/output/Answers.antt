use Rattle.arm_value.specs.View.{json}
use Rattle.bicep_eval_tests.proofs.SampleLemmas.{no_output}
use Rattle.bicep_eval_tests.proofs.sample.SampleSurroundings.output.Goals as goal

pub returns : goal.returns
returns c = λ r h. no_output (json c.args.self.now.state) c.args.self.now.place c.args._target c.args._number r
