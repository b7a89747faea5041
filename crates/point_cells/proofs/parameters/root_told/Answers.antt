use Rattle.arm_value.specs.Look.{fold}
use Rattle.point_cells.proofs.CellNowLemmas.{bound_shown, bound_nothing}
use Rattle.point_cells.proofs.parameters.root_told.Goals as goal

pub returns-in-Some : goal.returns-in-Some
returns-in-Some c =
    bound_shown c.args.register.now.table c.args.later.now (fold c.args.parameter.now.name) c.args.parameter.now
    c.bound_told.result
    c.in-Some.bound.now c.as_slice.result.now c.as_slice.ensures c.in-Some.ensures c.bound_told.ensures

pub returns-in-None : goal.returns-in-None
returns-in-None c =
    bound_nothing c.args.register.now.table c.args.later.now (fold c.args.parameter.now.name) c.args.parameter.now
    c.as_slice.result.now c.as_slice.ensures c.in-None.ensures
