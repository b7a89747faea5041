use Rattle.std.proofs.Common.{Some, get_or, subst}
use Rattle.scope_outputs.specs.Entries.{line_cell}
use Rattle.scope_faults.specs.Circles.{IsLineLack}
use Rattle.scope_faults.proofs.CircleLemmas.{none_begins, none_more, none_ends, one_waits}
use Rattle.scope_faults.proofs.circles.lines_lack.Goals as goal

pub each-init : goal.each-init
each-init c = none_begins c.args.register.now.table c.args.later.now c.args.lines.now

pub each-preserved : goal.each-preserved
each-preserved c =
    let t = c.args.register.now.table in
    none_more t c.args.later.now c.args.lines.now c.each.at-index c.line_lack.result
    (c.line_lack.ensures t c.args.later.now (line_cell t (get_or c.args.lines.now c.each.at-index 0))
    c.in_ok-entry_told.ensures) c.in-None.is c.each.invariant

pub returns-in-Some : goal.returns-in-Some
returns-in-Some c =
    let t = c.args.register.now.table in
    one_waits t c.args.later.now c.args.lines.now c.each.at-index (Some c.in-Some.lack) c.each-test.true
    (subst (IsLineLack t c.args.later.now (line_cell t (get_or c.args.lines.now c.each.at-index 0))) c.in-Some.is
    (c.line_lack.ensures t c.args.later.now (line_cell t (get_or c.args.lines.now c.each.at-index 0))
    c.in_ok-entry_told.ensures)) (λ e. cc)

pub returns : goal.returns
returns c =
    none_ends c.args.register.now.table c.args.later.now c.args.lines.now c.each.at-index c.each-test.false
    c.each.invariant
