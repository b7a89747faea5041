use Rattle.plan_table.specs.declared.line.State.TheVariants as how
use Rattle.plan_sight.proofs.LookLemmas.{state_here, reads_value, reads_none, waits_read}
use Rattle.plan_sight.proofs.look.read_at.Goals as goal

pub returns-in-Value : goal.returns-in-Value
returns-in-Value c =
    reads_value c.args.table.now c.args.at c.in-Value.value c.requires.ready c.requires.listed
    (state_here c.args.table.now c.args.at c.index.result.now (how.Value c.in-Value.value) c.requires.listed
    c.index.ensures c.in-Value.is)

pub returns-in-Empty : goal.returns-in-Empty
returns-in-Empty c =
    reads_none c.args.table.now c.args.at c.requires.ready c.requires.listed
    (state_here c.args.table.now c.args.at c.index.result.now how.Empty c.requires.listed c.index.ensures
    c.in-Empty.is)

pub returns-in-New : goal.returns-in-New
returns-in-New c =
    waits_read c.args.table.now c.args.at how.New c.requires.ready c.requires.listed
    (state_here c.args.table.now c.args.at c.index.result.now how.New c.requires.listed c.index.ensures
    c.in-New.is) tt

pub returns-in-Open : goal.returns-in-Open
returns-in-Open c =
    waits_read c.args.table.now c.args.at how.Open c.requires.ready c.requires.listed
    (state_here c.args.table.now c.args.at c.index.result.now how.Open c.requires.listed c.index.ensures
    c.in-Open.is) tt

pub returns-in-Late : goal.returns-in-Late
returns-in-Late c =
    waits_read c.args.table.now c.args.at (how.Late c.in-Late.field-0) c.requires.ready c.requires.listed
    (state_here c.args.table.now c.args.at c.index.result.now (how.Late c.in-Late.field-0) c.requires.listed
    c.index.ensures
    c.in-Late.is) tt
