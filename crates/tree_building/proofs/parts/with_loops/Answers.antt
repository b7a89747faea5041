use Rattle.std.proofs.Common.{◌∙◌}
use Rattle.tree_building.proofs.GrownLemmas.{copy_put}
use Rattle.tree_building.proofs.parts.with_loops.Goals as goal

pub returns : goal.returns
returns c =
    copy_put c.args.own c.args.loops c.with_value.result (λ e. c.if-len-eq0.false (c.len.ensures ∙ e))
    c.with_value.ensures
