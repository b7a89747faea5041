use Rattle.arm_value.specs.View.{json}
use Rattle.plan_filling.specs.Rows.{row_at}
use Rattle.plan_filling.specs.declared.sheet.Halt.TheVariants as halt
use Rattle.template_parts.specs.declared.limit.Which.TheVariants as which
use Rattle.plan_table.specs.Whole.{scopes_of, rows_in}
use Rattle.plan_table.proofs.HaltLemmas.{count_halts, exceeded_halts}
use Rattle.plan_table.proofs.table.Table.fill_count.Goals as goal

pub returns-in-Err-clause-halted : goal.returns-in-Err-clause-halted
returns-in-Err-clause-halted c =
    exceeded_halts (rows_in c.args.self.now) (row_at (rows_in c.args.self.now) c.args.at).cell (json c.args.value)
    c.halted.result (halt.Limit which.Count c.in-Err.count) c.halted.ensures.halt
    (count_halts (scopes_of c.args.self.now) c.args.self.now.lines.items c.args.at c.args.frame c.args.resource
    c.in-Err.count (json c.args.value) c.requires.listed c.requires.spot c.in-Err.ensures.beyond
    c.in-Err.ensures.refused)
