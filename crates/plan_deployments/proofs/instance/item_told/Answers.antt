use Rattle.arm_value.specs.View.{json}
use Rattle.deploy_cells.specs.Cells.{step}
use Rattle.plan_table.specs.Found.{scope_at}
use Rattle.plan_deployments.proofs.ItemLemmas.{item_made, no_name, no_inclusion}
use Rattle.plan_deployments.proofs.instance.item_told.Goals as goal

pub returns-in-Ok-inclusion_of : goal.returns-in-Ok-inclusion_of
returns-in-Ok-inclusion_of c =
    let t = c.args.table.now in
    item_made t (scope_at t c.args.frame).position (step c.args.number c.args.copy) (json c.in-Ok.name.now)
    (json c.in-Ok-inclusion_of.included.now) c.item_by.result c.in-Ok.ensures c.in-Ok-inclusion_of.ensures
    c.item_by.ensures

pub returns-in-Err-inclusion_of : goal.returns-in-Err-inclusion_of
returns-in-Err-inclusion_of c =
    let t = c.args.table.now in
    no_inclusion t (scope_at t c.args.frame).position (step c.args.number c.args.copy) (json c.in-Ok.name.now)
    c.in-Err-inclusion_of.lack c.in-Ok.ensures c.in-Err-inclusion_of.ensures

pub returns-in-Err : goal.returns-in-Err
returns-in-Err c =
    let t = c.args.table.now in
    no_name t (scope_at t c.args.frame).position (step c.args.number c.args.copy) c.in-Err.lack c.in-Err.ensures
