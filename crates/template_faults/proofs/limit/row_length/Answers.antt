use Rattle.std.proofs.Common.{sym, ◌∙◌}
use Rattle.template_faults.proofs.limit.row_length.Goals as goal
use Rattle.arm_value.proofs.JsonLemmas.{row_length_row}

pub returns : goal.returns
returns c = c.len.ensures ∙ sym (row_length_row c.args.items.now)
