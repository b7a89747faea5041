use Rattle.bicep_declared.specs.View.{body_tree}
use Rattle.emitted_templates.specs.Limits.{resource_extremes}
use Rattle.file_limits.specs.Extremes.{needs_extremes}
use Rattle.file_limits.proofs.measured.measured_put.Goals as goal

pub returns : goal.returns
returns c =
    let s = c.args.table.now in
    let n = c.args.number in
    let b = body_tree c.args.body.now in
    c.with.ensures.both (resource_extremes s n b) (needs_extremes c.args.form s n b) c.in_ok-resource.ensures
    c.measured_needs.ensures
