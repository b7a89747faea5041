use Rattle.std.proofs.Common.{◌≤◌, sym, subst}
use Rattle.arm_value.specs.Json.{members_nesting, IsInOrder}
use Rattle.template_written.specs.Parts.{plain_variables}
use Rattle.template_writer.proofs.ListLemmas.{plain_nests, plain_last}
use Rattle.template_writer.proofs.variables.write_plain.Goals as goal

pub with_copy-requires-clause-nests : goal.with_copy-requires-clause-nests
with_copy-requires-clause-nests c =
    plain_nests _ c.loop-variable.members c.as_slice-variable-items.result.now c.loop-variable.variable-index
    c.variable-item.result c.in-Value.value 119 c.loop-variable.invariant c.loop-variable-test.true
    c.variable-item.is c.in-Value.is
    (subst (λ vs. members_nesting (plain_variables vs) ≤ 119) (sym c.as_slice-variable-items.ensures)
    c.requires.nests)

pub with_copy-requires-clause-last : goal.with_copy-requires-clause-last
with_copy-requires-clause-last c =
    plain_last _ c.loop-variable.members c.as_slice-variable-items.result.now c.loop-variable.variable-index
    c.variable-item.result c.in-Value.value c.loop-variable.invariant c.loop-variable-test.true c.variable-item.is
    c.in-Value.is
    (subst (λ vs. IsInOrder (plain_variables vs)) (sym c.as_slice-variable-items.ensures) c.requires.order)
