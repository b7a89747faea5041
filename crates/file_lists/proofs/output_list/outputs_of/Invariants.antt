use Rattle.emitted_values.specs.Seen.{file_in}
use Rattle.file_lists.specs.Found.{AreListed}
use Rattle.file_lists.specs.Lists.{output_text, output_name, noted_at, IsNoted}
use Rattle.file_lists.proofs.output_list.outputs_of.Given as goal

-- what is made of the declarations before
abbrev pub invariant-loop-number : goal.invariant-loop-number
invariant-loop-number l =
    AreListed output_text (file_in l.table).outputs (noted_at l.table l.metadata) output_name (IsNoted l.table)
    l.number l.all
