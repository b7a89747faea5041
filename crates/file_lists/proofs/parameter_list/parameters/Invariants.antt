use Rattle.emitted_values.specs.Seen.{file_in}
use Rattle.file_lists.specs.Found.{AreListed}
use Rattle.file_lists.specs.Lists.{symbol_text, parameter_name, parameter_at, IsCompleted, rule_at}
use Rattle.file_lists.proofs.parameter_list.parameters.Given as goal

-- what is made of the symbols before
abbrev pub invariant-loop-number : goal.invariant-loop-number
invariant-loop-number l =
    AreListed symbol_text (file_in l.table).symbols (parameter_at l.table) parameter_name
    (λ n q. IsCompleted l.table (rule_at l.table l.rules n) n q) l.number l.all
