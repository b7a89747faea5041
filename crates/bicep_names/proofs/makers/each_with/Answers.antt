use Rattle.std.proofs.Common.{ap, ◌∙◌}
use Rattle.bicep_resolved.specs.declared.source.SourceLoop.{SourceLoop}
use Rattle.bicep_resolved.specs.Source as s
use Rattle.bicep_resolved.specs.View.{source_of}
use Rattle.bicep_resolved.proofs.ViewLemmas.{value_of-Each, loop_of-is}
use Rattle.bicep_names.proofs.makers.each_with.Goals as goal

pub returns : goal.returns
returns c =
    let l : SourceLoop = record { at = c.args.at; over = c.args.over } in
    value_of-Each l c.args.body ∙ ap (λ x. s.each x (source_of c.args.body)) (loop_of-is l)
