use Rattle.std.proofs.Common.{Some, ap, ◌∙◌}
use Rattle.arm_value.specs.Json.{bool}
use Rattle.reading.specs.Knowledge.{value}
use Rattle.plan_table.specs.Lines.{name_at}
use Rattle.scope_outputs.specs.Outputs.{names_of}
use Rattle.scope_outputs.proofs.TellLemmas.{condition_lacks, value_lacks}
use Rattle.scope_outputs.proofs.telling.entry_told.Goals as goal

pub returns-in-Err-value_told-clause-lack : goal.returns-in-Err-value_told-clause-lack
returns-in-Err-value_told-clause-lack c =
    let t = c.args.register.now.table in
    value_lacks t c.args.later.now c.args.frame (name_at (names_of t c.args.frame) c.args.number)
    c.in-Err-value_told.lack (c.in-Ok.ensures ∙ ap (λ b. value (Some (bool b))) c.if-truth.true)
    c.in-Err-value_told.ensures

pub returns-in-Err-clause-lack : goal.returns-in-Err-clause-lack
returns-in-Err-clause-lack c =
    let t = c.args.register.now.table in
    condition_lacks t c.args.later.now c.args.frame (name_at (names_of t c.args.frame) c.args.number) c.in-Err.lack
    c.in-Err.ensures
