use Rattle.bicep_declared.specs.View.{body_tree}
use Rattle.measured_trees.specs.Extremes.{joined, enclosed}
use Rattle.emitted_templates.specs.Limits.{head_extremes}
use Rattle.emitted_templates.specs.Seen.{whole_in}
use Rattle.file_limits.specs.Extremes.{needs_extremes, properties_extremes}
use Rattle.file_limits.proofs.measured.measured_module.Goals as goal

pub returns : goal.returns
returns c = λ x h.
    let s = c.args.table.now in
    let n = c.args.number in
    let b = body_tree c.args.body.now in
    let y = head_extremes (whole_in s) n b.each in
    let z = needs_extremes c.args.form s n b in
    let p = properties_extremes s n b x in
    c.with-2.ensures.both y (joined z (enclosed p)) c.measured_head.ensures
    (c.with.ensures.both z (enclosed p) c.measured_needs-needs.ensures
    (c.enclosed.ensures p (c.in_ok-properties.ensures x h)))
