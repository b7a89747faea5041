use Rattle.arm_value.specs.View.{json}
use Rattle.plan_filling.specs.Rows.{row_at}
use Rattle.plan_table.specs.Whole.{rows_in}
use Rattle.plan_table.proofs.HaltLemmas.{memory_halts}
use Rattle.plan_table.proofs.table.Table.fill.Goals as goal

pub returns-in-Offered-clause-halted : goal.returns-in-Offered-clause-halted
returns-in-Offered-clause-halted c =
    memory_halts (rows_in c.args.self.now) (row_at (rows_in c.args.self.now) c.args.at).cell (json c.args.value)
    c.fill_offered.result c.fill_offered.ensures.memory

pub returns-in-Included-clause-halted : goal.returns-in-Included-clause-halted
returns-in-Included-clause-halted c =
    memory_halts (rows_in c.args.self.now) (row_at (rows_in c.args.self.now) c.args.at).cell (json c.args.value)
    c.fill_included.result c.fill_included.ensures.memory
