use Rattle.bicep_declared.specs.View.{output_tree}
use Rattle.filled_tables.specs.Seen.{file_in, files_in}
use Rattle.emitted_values.proofs.PartLemmas.{is_output}
use Rattle.emitted_values.proofs.outputs.output.Goals as goal

pub returns-in-Ok-clause-output : goal.returns-in-Ok-clause-output
returns-in-Ok-clause-output c =
    let s = c.args.table.now in
    is_output (files_in s) (file_in s) (output_tree c.args.declared.now) c.kind_of.result c.in-Ok.content c.named.result
    c.named.ensures.kind c.named.ensures.content c.named.ensures.condition c.kind_of.ensures c.in-Ok.ensures
