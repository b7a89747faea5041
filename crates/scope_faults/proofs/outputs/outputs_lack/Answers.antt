use Rattle.std.proofs.Common.{Some, arith, subst}
use Rattle.scope_faults.specs.Faults.{output_told, IsOutputLack}
use Rattle.scope_faults.proofs.OutputLemmas.{waits_begins, waits_more, waits_ends, one_waits}
use Rattle.scope_faults.proofs.outputs.outputs_lack.Goals as goal

pub outputs-init : goal.outputs-init
outputs-init c = waits_begins c.args.register.now.table c.args.later.now c.args.frame

pub outputs-preserved : goal.outputs-preserved
outputs-preserved c =
    let t = c.args.register.now.table in
    waits_more t c.args.later.now c.args.frame c.outputs.number c.lack_of.result c.in-None.is
    (c.lack_of.ensures t (output_told t c.args.later.now c.args.frame c.outputs.number) c.in_ok-look.ensures)
    c.outputs.invariant

pub returns-in-Some : goal.returns-in-Some
returns-in-Some c =
    let t = c.args.register.now.table in
    one_waits t c.args.later.now c.args.frame c.outputs.number (Some c.in-Some.lack)
    (omega (arith, c.outputs-test.true, c.output_count-number-end.ensures))
    (subst (IsOutputLack t (output_told t c.args.later.now c.args.frame c.outputs.number)) c.in-Some.is
    (c.lack_of.ensures t (output_told t c.args.later.now c.args.frame c.outputs.number) c.in_ok-look.ensures))
    (λ e. cc)

pub returns : goal.returns
returns c =
    waits_ends c.args.register.now.table c.args.later.now c.args.frame c.outputs.number
    (omega (arith, c.outputs-test.false, c.output_count-number-end.ensures)) c.outputs.invariant
