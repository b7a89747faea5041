use Rattle.scope_outputs.specs.Entries.{IsOwnLine}
use Rattle.scope_faults.proofs.CircleLemmas.{each_at}
use Rattle.scope_faults.proofs.EntryLemmas.{valued_begins, valued_more, all_valued, first_line}
use Rattle.scope_faults.proofs.entries.first_without.Goals as goal

pub each-init : goal.each-init
each-init c = valued_begins c.args.register.now.table c.args.later.now c.args.lines.now

pub has_value-requires-clause-own : goal.has_value-requires-clause-own
has_value-requires-clause-own c =
    each_at (IsOwnLine c.args.register.now.table c.args.frame) c.args.lines.now c.each.at-index c.each-test.true
    c.requires.own

pub each-preserved : goal.each-preserved
each-preserved c =
    valued_more c.args.register.now.table c.args.later.now c.args.lines.now c.each.at-index c.in_ok-has_value.field-0
    c.if-not-branch.false c.in_ok-has_value.ensures c.each.invariant

pub returns-then-not-branch : goal.returns-then-not-branch
returns-then-not-branch c =
    first_line c.args.register.now.table c.args.later.now c.args.lines.now c.each.at-index c.in_ok-has_value.field-0
    c.each-test.true c.each.invariant c.if-not-branch.true c.in_ok-has_value.ensures

pub returns : goal.returns
returns c =
    all_valued c.args.register.now.table c.args.later.now c.args.lines.now c.each.at-index c.each-test.false
    c.each.invariant
