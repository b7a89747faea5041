use Rattle.std.proofs.Common.{subst}
use Rattle.measured_trees.specs.Extremes.{joined}
use Rattle.measured_trees.specs.Measures.{IsOf}
use Rattle.file_limits.specs.Extremes.{plain, rule_depth, default_in}
use Rattle.file_limits.proofs.measured.measured_parameter.Goals as goal

pub returns : goal.returns
returns c =
    let x = default_in c.args.table.now c.args.number in
    let y = plain (rule_depth c.args.rule.now) in
    c.enclosed.ensures (joined x y)
    (c.with.ensures.both x y c.in_ok-default.ensures
    (subst (λ n. IsOf (plain n) c.plain_measure.result) c.rule_depth.ensures c.plain_measure.ensures))
