use Rattle.std.proofs.Common.{sym, subst}
use Rattle.foundation.proofs.Options.{if_ok}
use Rattle.plan_filling.specs.Final.{Leads}
use Rattle.plan_filling.specs.Rows.{row_at}
use Rattle.plan_table.specs.declared.line.State.TheVariants as how
use Rattle.plan_table.specs.Whole.{whole_of, rows_in}
use Rattle.lack_faults.specs.Lacks.{known_by_lines}
use Rattle.lack_faults.proofs.LackLemmas.{line_listed, read_late, read_other, value_not, empty_not}
use Rattle.lack_faults.proofs.lacking.late_key.Goals as goal

pub unreachable-requires-in-Value : goal.unreachable-requires-in-Value
unreachable-requires-in-Value c =
    read_other c.args.table.now c.requires.filled c.args.at c.index.result.now (how.Value c.in-Value.field-0)
    (line_listed c.args.table.now c.args.at c.requires.listed) c.index.ensures c.in-Value.is c.requires.missing (λ k e.
    value_not _ k e)

pub unreachable-requires-in-Empty : goal.unreachable-requires-in-Empty
unreachable-requires-in-Empty c =
    read_other c.args.table.now c.requires.filled c.args.at c.index.result.now how.Empty
    (line_listed c.args.table.now c.args.at c.requires.listed) c.index.ensures c.in-Empty.is c.requires.missing (λ k e.
    empty_not k e)

pub returns : goal.returns
returns c =
    let t = c.args.table.now in
    if_ok _ _ c.copy.result c.copy.ensures (λ k e.
    subst (Leads (whole_of t) (known_by_lines t) (row_at (rows_in t) c.args.at).cell) (sym e)
    (read_late t c.requires.filled c.args.at c.index.result.now c.in-Late.key
    (line_listed t c.args.at c.requires.listed) c.index.ensures c.in-Late.is))
