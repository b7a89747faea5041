use Rattle.bicep_declared.specs.View.{body_tree}
use Rattle.file_limits.specs.Extremes.{metadata_at, noted, put_extremes}
use Rattle.file_limits.proofs.measured.noted_put.Goals as goal

pub returns : goal.returns
returns c =
    let n = c.args.number in
    c.with.ensures.both (put_extremes c.args.form c.args.table.now n (body_tree c.args.body.now))
    (noted (metadata_at c.args.metadata.now n)) c.in_ok-put.ensures c.metadata_in.ensures
