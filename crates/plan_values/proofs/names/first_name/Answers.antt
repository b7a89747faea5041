use Rattle.arm_value.specs.View.{json}
use Rattle.deploy_cells.specs.Cells.{step, name}
use Rattle.plan_table.specs.Found.{scope_at}
use Rattle.plan_sight.proofs.LookLemmas.{found_some}
use Rattle.plan_deployments.proofs.GatherLemmas.{no_copy}
use Rattle.plan_values.proofs.names.first_name.Goals as goal
use Rattle.plan_deployments.proofs.ItemLemmas.{read_of_line}

pub returns-in-Ok-Some : goal.returns-in-Ok-Some
returns-in-Ok-Some c =
    let t = c.args.table.now in
    read_of_line (λ v. json v.now) t c.args.frame (name (scope_at t c.args.frame).position (step c.args.number 0))
    c.in-Ok-Some.at c.read_at.result
    (found_some _ c.in-Ok-Some.field-0 c.in-Ok-Some.at c.in-Ok-Some.field-0-is c.in-Ok-Some.ensures.found)
    c.read_at.ensures

pub unreachable-requires : goal.unreachable-requires
unreachable-requires c =
    no_copy c.args.table.now c.args.frame c.args.number 0 c.requires.ready c.requires.there c.requires.number
    c.requires.copy c.in-Ok-None.field-0 c.in-Ok-None.field-0-is c.in-Ok-None.ensures.missing
