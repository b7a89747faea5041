use Rattle.std.proofs.Common.{length, ◌≤◌, ◌<◌, subst, sym, ap}
use Rattle.arm_value.specs.View.{json}
use Rattle.plan_filling.specs.Rows.{row_at}
use Rattle.plan_table.specs.Whole.{whole_of, scopes_of, rows_in}
use Rattle.plan_table.specs.Counted.{numbers_of}
use Rattle.plan_table.proofs.CountLemmas.{numbers_more}
use Rattle.plan_table.proofs.HaltLemmas.{count_there, exceeds_halts, exceeded_halts, memory_halts}
use Rattle.plan_table.proofs.table.Table.fill_counted.Goals as goal

pub add_instances-requires-clause-there : goal.add_instances-requires-clause-there
add_instances-requires-clause-there c =
    subst (λ m. c.args.frame < m) (sym c.requires.counted.long)
    (count_there (whole_of c.args.self.now) (scopes_of c.args.self.now) c.args.self.now.index
    c.args.self.now.lines.items c.requires.laid c.requires.distinct c.args.at c.args.frame c.args.resource
    c.args.count (json c.args.value) (numbers_of c.args.self.now) c.requires.listed c.requires.spot
    c.requires.number c.requires.counted)

pub add_instances-requires-clause-few : goal.add_instances-requires-clause-few
add_instances-requires-clause-few c =
    c.requires.counted.few c.args.frame
    (count_there (whole_of c.args.self.now) (scopes_of c.args.self.now) c.args.self.now.index
    c.args.self.now.lines.items c.requires.laid c.requires.distinct c.args.at c.args.frame c.args.resource
    c.args.count (json c.args.value) (numbers_of c.args.self.now) c.requires.listed c.requires.spot
    c.requires.number c.requires.counted)

pub add_instances-requires-clause-within : goal.add_instances-requires-clause-within
add_instances-requires-clause-within c = c.requires.counted.within

pub list_instances-requires-clause-counted : goal.list_instances-requires-clause-counted
list_instances-requires-clause-counted c =
    numbers_more (scopes_of c.args.self.now) c.args.self.now.lines.items c.args.at c.args.frame c.args.resource
    c.args.count c.args.value (numbers_of c.args.self.now) c.requires.listed c.requires.unfinished c.requires.spot
    c.requires.number
    (count_there (whole_of c.args.self.now) (scopes_of c.args.self.now) c.args.self.now.index
    c.args.self.now.lines.items c.requires.laid c.requires.distinct c.args.at c.args.frame c.args.resource
    c.args.count (json c.args.value) (numbers_of c.args.self.now) c.requires.listed c.requires.spot
    c.requires.number c.requires.counted)
    c.requires.counted
    (record { of_scopes = c.add_instances.new.counts.items; of_all = c.add_instances.new.instances })
    c.in-Ok.ensures.counted c.in-Ok.ensures.few c.in-Ok.ensures.all c.in-Ok.ensures.within

pub returns-in-Err-clause-halted : goal.returns-in-Err-clause-halted
returns-in-Err-clause-halted c =
    exceeded_halts (rows_in c.args.self.now) (row_at (rows_in c.args.self.now) c.args.at).cell (json c.args.value)
    c.halted.result c.in-Err.halt c.halted.ensures.halt
    (exceeds_halts (whole_of c.args.self.now) (scopes_of c.args.self.now) c.args.self.now.index
    c.args.self.now.lines.items c.requires.laid c.requires.distinct c.args.at c.args.frame c.args.resource
    c.args.count (json c.args.value) (numbers_of c.args.self.now) c.requires.listed c.requires.spot
    c.requires.number c.requires.counted c.in-Err.halt c.in-Err.ensures.beyond)

pub returns-in-Ok-clause-halted : goal.returns-in-Ok-clause-halted
returns-in-Ok-clause-halted c =
    memory_halts (rows_in c.args.self.now) (row_at (rows_in c.args.self.now) c.args.at).cell (json c.args.value)
    c.list_instances.result c.list_instances.ensures.memory
