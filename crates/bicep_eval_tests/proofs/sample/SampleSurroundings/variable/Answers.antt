use Rattle.std.proofs.Common.{ℕ, List, [], subst}
use Rattle.arm_value.specs.View.{json}
use Rattle.reading.specs.Knowledge.{told}
use Rattle.deploy_cells.specs.Cells.{count}
use Rattle.bicep_outcomes.specs.Outcomes.{Gives}
use Rattle.bicep_eval_tests.specs.Sample.{variable_value, known_of}
use Rattle.bicep_eval_tests.specs.declared.sample.Slot.{Slot}
use Rattle.bicep_eval_tests.proofs.sample.SampleSurroundings.variable.Goals as goal

pub returns : goal.returns
returns c =
    let state = json c.args.self.now.state in
    subst (λ (xs : List Slot). Gives (λ (n : ℕ). count [] n) (λ v. json v.now) c.variable_of.result
    (told (known_of state) (variable_value xs c.args.number))) c.as_slice.ensures.value (c.variable_of.ensures state)
