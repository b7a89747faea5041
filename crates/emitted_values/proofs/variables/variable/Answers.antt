use Rattle.bicep_resolved.specs.View.{value_of}
use Rattle.filled_tables.specs.Seen.{file_in, files_in}
use Rattle.emitted_values.proofs.PartLemmas.{is_variable}
use Rattle.emitted_values.proofs.variables.variable.Goals as goal

pub returns-in-Ok-clause-variable : goal.returns-in-Ok-clause-variable
returns-in-Ok-clause-variable c =
    let s = c.args.table.now in
    is_variable (files_in s) (file_in s) c.args.name.now (value_of c.args.value.now) c.in-Ok.content c.named.result
    c.named.ensures.name c.named.ensures.content c.in-Ok.ensures
