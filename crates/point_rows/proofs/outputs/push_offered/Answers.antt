use Rattle.plan_nested.proofs.OutputLemmas.{pushed_there, pushed_not}
use Rattle.point_rows.proofs.outputs.push_offered.Goals as goal

pub returns-then-offered : goal.returns-then-offered
returns-then-offered c = pushed_there _ _ _ c.args.offered c.push_declared.result c.if-offered.true
    c.push_declared.ensures

pub returns-else-offered : goal.returns-else-offered
returns-else-offered c = pushed_not _ _ c.args.offered c.if-offered.false
