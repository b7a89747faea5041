use Rattle.arm_ids.specs.Id.{folded}
use Rattle.arm_value.specs.View.{json}
use Rattle.bicep_eval_tests.proofs.SampleLemmas.{has_state}
use Rattle.bicep_eval_tests.proofs.sample.SampleSurroundings.state.Goals as goal

pub returns : goal.returns
returns c = has_state (json c.args.self.now.state) (folded c.args._id.now)
