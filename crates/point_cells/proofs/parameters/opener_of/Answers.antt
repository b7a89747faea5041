use Rattle.plan_values.proofs.BoundLemmas.{opener_read}
use Rattle.point_cells.proofs.parameters.opener_of.Goals as goal

pub returns : goal.returns
returns c =
    opener_read c.args.register.now.table c.args.frame c.index.result.now c.as_slice-position.result.now _
    c.requires.there c.index.ensures c.as_slice-position.ensures.value c.requires.inside
