use Rattle.bicep_declared.specs.View.{body_tree}
use Rattle.measured_trees.specs.Extremes.{joined}
use Rattle.file_limits.specs.Extremes.{dependency_extremes, loop_extremes}
use Rattle.file_limits.proofs.measured.measured_needs.Goals as goal

pub returns : goal.returns
returns c =
    let x = dependency_extremes c.args.form c.args.table.now c.args.number in
    let y = loop_extremes (body_tree c.args.body.now).each in
    c.enclosed.ensures (joined x y)
    (c.with.ensures.both x y c.measured_elements-elements.ensures c.measured_loop.ensures)
