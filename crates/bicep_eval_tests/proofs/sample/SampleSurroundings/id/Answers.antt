use Rattle.std.proofs.Common.{Some, ap, sym, ◌∙◌}
use Rattle.arm_ids.specs.declared.id.ResourceId.{ResourceId}
use Rattle.arm_value.specs.View.{json}
use Rattle.deploy_cells.specs.Cells.{Cell}
use Rattle.reading.specs.Knowledge.{Told, value}
use Rattle.bicep_outcomes.proofs.OutcomeLemmas.{told-done}
use Rattle.bicep_eval_tests.specs.Sample.{known_of}
use Rattle.bicep_eval_tests.proofs.sample.SampleSurroundings.id.Goals as goal

pub returns-in-Ok : goal.returns-in-Ok
returns-in-Ok c =
    λ fs h. told-done (known_of (json c.args.self.now.state)) (Some c.args.self.now.id)
    ∙ ap (λ (i : ResourceId). let t : Told Cell ResourceId = value i in t) (sym c.in-Ok.ensures)
