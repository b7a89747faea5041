use Rattle.bicep_declared.specs.View.{body_tree}
use Rattle.emitted_values.specs.Templates as t
use Rattle.emitted_values.specs.Seen.{whole_in}
use Rattle.measured_trees.specs.Extremes.{tree_extremes}
use Rattle.emitted_resources.specs.Limits.{head_extremes, members_at}
use Rattle.emitted_resources.proofs.measured.measured_resource.Goals as goal

pub returns : goal.returns
returns c =
    let s = c.args.table.now in
    let n = c.args.number in
    let b = body_tree c.args.body.now in
    c.with.ensures.both (head_extremes (whole_in s) n b.each) (tree_extremes (t.object (members_at s n b)))
    c.measured_head.ensures c.in_ok-members.ensures
