use Rattle.plan_table.specs.Whole.{whole_of, scopes_of}
use Rattle.plan_table.proofs.FillLemmas.{alone_fills}
use Rattle.plan_table.specs.Counted.{numbers_of}
use Rattle.std.proofs.Common.{arith}
use Rattle.plan_table.proofs.LaidLemmas.{length_rows}
use Rattle.plan_table.proofs.CountLemmas.{alone_counted}
use Rattle.plan_table.proofs.table.Table.fill_alone.Goals as goal

pub returns-clause-laid : goal.returns-clause-laid
returns-clause-laid c =
    (alone_fills (whole_of c.args.self.now) (scopes_of c.args.self.now) c.args.self.now.index
    c.args.self.now.lines.items c.set_state.new.lines.items c.args.at 0 c.args.value c.requires.laid c.requires.listed
    c.requires.alone c.set_state.ensures).laid

pub returns-clause-filled : goal.returns-clause-filled
returns-clause-filled c =
    (alone_fills (whole_of c.args.self.now) (scopes_of c.args.self.now) c.args.self.now.index
    c.args.self.now.lines.items c.set_state.new.lines.items c.args.at 0 c.args.value c.requires.laid c.requires.listed
    c.requires.alone c.set_state.ensures).rows

pub returns-clause-counted : goal.returns-clause-counted
returns-clause-counted c =
    alone_counted (scopes_of c.args.self.now) c.args.self.now.lines.items c.set_state.new.lines.items c.args.at
    (numbers_of c.args.self.now)
    (let n = length_rows (scopes_of c.args.self.now) c.args.self.now.lines.items in
    let l = c.requires.listed in omega (arith, n, l))
    c.requires.unfinished c.requires.counted c.args.value c.requires.alone c.set_state.ensures
