use Rattle.std.proofs.Common.{◌≡◌, length, arith, rules}
use Rattle.argument_faults.proofs.ExtraLemmas.{none_more, none_extra}
use Rattle.argument_faults.proofs.check.check_arguments.Goals as goal

pub frames-preserved : goal.frames-preserved
frames-preserved c =
    none_more c.args.table.now c.frames.frame c.frames.invariant c.in_ok-check_scope.ensures.none

pub returns-clause-none : goal.returns-clause-none
returns-clause-none c =
    let n : c.len-frame-end.result ≡ length c.args.table.now.frames.items = search rules in
    let h = c.frames-test.false in
    none_extra c.args.table.now c.frames.frame c.requires.table (omega (arith, n, h)) c.frames.invariant
