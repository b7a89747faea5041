use Rattle.std.proofs.Common.{arith}
use Rattle.scope_faults.specs.Faults.{output_told}
use Rattle.scope_faults.proofs.OutputLemmas.{nothing_begins, nothing_more, nothing_here, nothing_ends, first_output}
use Rattle.scope_faults.proofs.outputs.output_fault.Goals as goal

pub outputs-init : goal.outputs-init
outputs-init c = nothing_begins c.args.register.now.table c.args.later.now c.args.frame

pub outputs-preserved : goal.outputs-preserved
outputs-preserved c =
    let t = c.args.register.now.table in
    nothing_more t c.args.later.now c.args.frame c.outputs.number c.is_nothing.result c.if-is_nothing.false
    (c.is_nothing.ensures t (output_told t c.args.later.now c.args.frame c.outputs.number) c.in_ok-look.ensures)
    c.outputs.invariant

pub fault_at-requires-clause-none : goal.fault_at-requires-clause-none
fault_at-requires-clause-none c =
    let t = c.args.register.now.table in
    nothing_here t c.args.later.now c.args.frame c.outputs.number c.is_nothing.result c.if-is_nothing.true
    (c.is_nothing.ensures t (output_told t c.args.later.now c.args.frame c.outputs.number) c.in_ok-look.ensures)

pub returns-then-is_nothing : goal.returns-then-is_nothing
returns-then-is_nothing c =
    let t = c.args.register.now.table in
    first_output t c.args.later.now c.args.frame c.outputs.number
    (omega (arith, c.outputs-test.true, c.output_count-number-end.ensures)) c.outputs.invariant
    (nothing_here t c.args.later.now c.args.frame c.outputs.number c.is_nothing.result c.if-is_nothing.true
    (c.is_nothing.ensures t (output_told t c.args.later.now c.args.frame c.outputs.number) c.in_ok-look.ensures))
    c.in_ok-fault_at.field-0 c.in_ok-fault_at.ensures

pub returns : goal.returns
returns c =
    nothing_ends c.args.register.now.table c.args.later.now c.args.frame c.outputs.number
    (omega (arith, c.outputs-test.false, c.output_count-number-end.ensures)) c.outputs.invariant
