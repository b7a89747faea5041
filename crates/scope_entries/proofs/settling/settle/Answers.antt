use Rattle.std.proofs.Common.{inr, sym, subst}
use Rattle.plan_cells.specs.Children.{Has}
use Rattle.scope_entries.proofs.GoesLemmas.{goes_nowhere}
use Rattle.scope_entries.proofs.settling.settle.Goals as goal

pub lines_of-requires-clause-ready : goal.lines_of-requires-clause-ready
lines_of-requires-clause-ready c = c.requires.complete.ready

pub returns-in_err-lines-clause-goes : goal.returns-in_err-lines-clause-goes
returns-in_err-lines-clause-goes c = goes_nowhere c.args.register.now.table c.args.later.now

pub settle_lines-requires-clause-own : goal.settle_lines-requires-clause-own
settle_lines-requires-clause-own c = c.in_ok-lines.ensures.own

pub settle_lines-requires-clause-covered : goal.settle_lines-requires-clause-covered
settle_lines-requires-clause-covered c = λ e h. inr (subst (Has e) (sym c.in_ok-lines.ensures.cells) h)
