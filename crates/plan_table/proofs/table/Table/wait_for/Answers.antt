use Rattle.plan_table.specs.declared.line.State.TheVariants as how
use Rattle.plan_table.specs.Whole.{whole_of, scopes_of}
use Rattle.plan_table.proofs.LaidLemmas.{opens_late}
use Rattle.plan_table.proofs.MarkLemmas.{marked_laid, marked_rows}
use Rattle.plan_table.specs.Counted.{numbers_of}
use Rattle.plan_table.proofs.CountLemmas.{marked_counted}
use Rattle.std.proofs.Common.{refl}
use Rattle.plan_table.proofs.table.Table.wait_for.Goals as goal

pub returns-clause-laid : goal.returns-clause-laid
returns-clause-laid c =
    marked_laid (whole_of c.args.self.now) (scopes_of c.args.self.now) c.args.self.now.index
    c.args.self.now.lines.items c.set_state.new.lines.items c.args.at
    (how.Late c.args.key) c.requires.laid c.requires.listed
    c.set_state.ensures (λ ks s. opens_late (scopes_of c.args.self.now) ks 0 c.args.key s)

pub returns-clause-marked : goal.returns-clause-marked
returns-clause-marked c =
    marked_rows (scopes_of c.args.self.now) c.args.self.now.lines.items c.set_state.new.lines.items c.args.at
    (how.Late c.args.key)
    c.requires.listed c.set_state.ensures

pub returns-clause-counted : goal.returns-clause-counted
returns-clause-counted c =
    marked_counted (scopes_of c.args.self.now) c.args.self.now.lines.items c.set_state.new.lines.items c.args.at
    (numbers_of c.args.self.now) c.requires.listed c.requires.unfinished c.requires.counted (how.Late c.args.key)
    (λ f s. refl)
    c.set_state.ensures
