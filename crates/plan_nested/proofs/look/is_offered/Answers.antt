use Rattle.std.proofs.Common.{sym, ap, ◌∙◌}
use Rattle.reading.specs.Knowledge.{value}
use Rattle.plan_table.specs.declared.line.State.TheVariants as how
use Rattle.plan_sight.proofs.LookLemmas.{state_here}
use Rattle.plan_nested.proofs.OutputLemmas.{truth_value, truth_none, truth_waits, line_true}
use Rattle.plan_nested.proofs.look.is_offered.Goals as goal

pub returns-in-Value-clause-told : goal.returns-in-Value-clause-told
returns-in-Value-clause-told c =
    truth_value c.args.table.now c.args.at c.in-Value.value c.requires.ready c.requires.listed
    (state_here c.args.table.now c.args.at c.index.result.now (how.Value c.in-Value.value) c.requires.listed
    c.index.ensures c.in-Value.is) ∙ ap value (sym c.is_true.ensures)

pub returns-in-Value-clause-line : goal.returns-in-Value-clause-line
returns-in-Value-clause-line c =
    line_true c.args.table.now c.args.at c.in-Value.value c.is_true.result
    (state_here c.args.table.now c.args.at c.index.result.now (how.Value c.in-Value.value) c.requires.listed
    c.index.ensures c.in-Value.is) c.is_true.ensures

pub returns-in-Empty-clause-told : goal.returns-in-Empty-clause-told
returns-in-Empty-clause-told c =
    truth_none c.args.table.now c.args.at c.requires.ready c.requires.listed
    (state_here c.args.table.now c.args.at c.index.result.now how.Empty c.requires.listed c.index.ensures
    c.in-Empty.is)

pub returns-in-New-clause-told : goal.returns-in-New-clause-told
returns-in-New-clause-told c =
    truth_waits c.args.table.now c.args.at how.New c.requires.ready c.requires.listed
    (state_here c.args.table.now c.args.at c.index.result.now how.New c.requires.listed c.index.ensures
    c.in-New.is) tt

pub returns-in-Open-clause-told : goal.returns-in-Open-clause-told
returns-in-Open-clause-told c =
    truth_waits c.args.table.now c.args.at how.Open c.requires.ready c.requires.listed
    (state_here c.args.table.now c.args.at c.index.result.now how.Open c.requires.listed c.index.ensures
    c.in-Open.is) tt

pub returns-in-Late-clause-told : goal.returns-in-Late-clause-told
returns-in-Late-clause-told c =
    truth_waits c.args.table.now c.args.at (how.Late c.in-Late.field-0) c.requires.ready c.requires.listed
    (state_here c.args.table.now c.args.at c.index.result.now (how.Late c.in-Late.field-0) c.requires.listed
    c.index.ensures c.in-Late.is) tt
