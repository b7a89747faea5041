use Rattle.bicep_meaning.specs.Files.{symbol_name}
use Rattle.emitted_values.specs.Seen.{file_in}
use Rattle.file_lists.specs.Lists.{parameter_name, parameter_at, IsCompleted}
use Rattle.file_lists.proofs.PartLemmas.{next_part}
use Rattle.file_lists.proofs.parameter_list.with_rule.Goals as goal

pub returns-in-Ok : goal.returns-in-Ok
returns-in-Ok c =
    let s = c.args.table.now in
    next_part parameter_name (IsCompleted s c.args.rule.now) (symbol_name (file_in s) c.args.number)
    (parameter_at s c.args.number) c.in-Ok.parameter c.args.all c.in-Ok.ensures c.with_optional.result
    c.with_optional.ensures
