use Rattle.std.proofs.Common.{◌≡◌, length, arith, rules}
use Rattle.dependency_faults.proofs.CheckLemmas.{no_lines, one_line, none_unknown, none_ambiguous}
use Rattle.dependency_faults.proofs.check.check_lines.Goals as goal

pub lines-init : goal.lines-init
lines-init c = no_lines c.args.register.now.table

pub lines-preserved : goal.lines-preserved
lines-preserved c =
    one_line c.args.register.now.table c.lines.at c.lines.invariant c.in_ok-check_line.ensures.met

pub returns-clause-known : goal.returns-clause-known
returns-clause-known c =
    let n : c.len-at-end.result ≡ length c.args.register.now.table.lines.items = search rules in
    let m = c.lines-test.false in
    none_unknown c.args.register.now.table (λ at h. c.lines.invariant at (omega (arith, n, m, h)))

pub returns-clause-one : goal.returns-clause-one
returns-clause-one c =
    let n : c.len-at-end.result ≡ length c.args.register.now.table.lines.items = search rules in
    let m = c.lines-test.false in
    none_ambiguous c.args.register.now.table (λ at h. c.lines.invariant at (omega (arith, n, m, h)))
