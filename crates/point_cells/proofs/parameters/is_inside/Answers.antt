use Rattle.plan_values.proofs.BoundLemmas.{position_none, position_some}
use Rattle.point_cells.proofs.parameters.is_inside.Goals as goal

pub returns-then-position-eq0-clause-root : goal.returns-then-position-eq0-clause-root
returns-then-position-eq0-clause-root c =
    λ _.
    position_none c.args.register.now.table c.args.frame c.index.result.now c.as_slice-position.result.now c.requires
    c.index.ensures c.as_slice-position.ensures.value c.if-position-eq0.true

pub returns-else-position-eq0-clause-inside : goal.returns-else-position-eq0-clause-inside
returns-else-position-eq0-clause-inside c =
    λ _.
    position_some c.args.register.now.table c.args.frame c.index.result.now c.as_slice-position.result.now c.requires
    c.index.ensures c.as_slice-position.ensures.value c.if-position-eq0.false
