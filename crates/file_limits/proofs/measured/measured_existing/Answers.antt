use Rattle.std.proofs.Common.{sym, subst}
use Rattle.bicep_declared.specs.View.{body_tree}
use Rattle.measured_trees.specs.Extremes.{enclosed, joined}
use Rattle.measured_trees.specs.Measures.{IsOf}
use Rattle.emitted_templates.specs.Limits.{head_extremes}
use Rattle.emitted_templates.specs.Seen.{whole_in}
use Rattle.file_limits.specs.Extremes.{existing_extremes, loop_extremes, metadata_at, noted}
use Rattle.file_limits.proofs.measured.measured_existing.Goals as goal

pub returns-in-One : goal.returns-in-One
returns-in-One c =
    let n = c.args.number in
    let m = metadata_at c.args.metadata.now n in
    subst (λ z. IsOf (existing_extremes z c.args.table.now n (body_tree c.args.body.now) m) c.nothing.result)
    (sym c.in-One.is) c.nothing.ensures.nothing

pub returns-in-Two : goal.returns-in-Two
returns-in-Two c =
    let s = c.args.table.now in
    let n = c.args.number in
    let b = body_tree c.args.body.now in
    let m = metadata_at c.args.metadata.now n in
    let head = head_extremes (whole_in s) n b.each in
    let loop = enclosed (loop_extremes b.each) in
    subst (λ z. IsOf (existing_extremes z s n b m) c.with-in-Two.result) (sym c.in-Two.is)
    (c.with-in-Two.ensures.both (joined head loop) (noted m)
    (c.with.ensures.both head loop c.measured_head.ensures
    (c.enclosed.ensures (loop_extremes b.each) c.measured_loop.ensures)) c.metadata_in.ensures)
