use Rattle.bicep_resolved.specs.View.{value_of}
use Rattle.file_limits.specs.Extremes.{content_extremes, metadata_at, noted}
use Rattle.file_limits.proofs.measured.noted_output.Goals as goal

pub returns : goal.returns
returns c =
    c.with.ensures.both (content_extremes c.args.table.now (value_of c.args.declared.now.value))
    (noted (metadata_at c.args.metadata.now c.args.number)) c.in_ok-output.ensures c.metadata_in.ensures
