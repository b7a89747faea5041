use Rattle.bicep_declared.specs.View.{body_tree}
use Rattle.file_limits.specs.Extremes.{metadata_at, module_extremes, noted}
use Rattle.file_limits.proofs.measured.noted_module.Goals as goal

pub returns : goal.returns
returns c = λ x h.
    let n = c.args.number in
    c.with.ensures.both (module_extremes c.args.form c.args.table.now n (body_tree c.args.body.now) x)
    (noted (metadata_at c.args.metadata.now n)) (c.in_ok-object.ensures x h) c.metadata_in.ensures
