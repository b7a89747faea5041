use Rattle.bicep_declared.specs.View.{body_tree}
use Rattle.measured_trees.specs.Extremes.{joined, enclosed}
use Rattle.file_limits.specs.Extremes.{argument_extremes}
use Rattle.file_limits.proofs.measured.measured_properties.Goals as goal

pub returns : goal.returns
returns c = λ x h.
    let a = argument_extremes c.args.table.now c.args.number (body_tree c.args.body.now) in
    c.enclosed-3.ensures (joined (enclosed (enclosed a)) x)
    (c.with.ensures.both (enclosed (enclosed a)) x
    (c.enclosed-2.ensures (enclosed a) (c.enclosed.ensures a c.in_ok-arguments.ensures)) h)
