use Rattle.std.proofs.Common.{◌≤◌, sym, subst}
use Rattle.arm_value.specs.Json.{items_nesting}
use Rattle.template_written.specs.Parts.{variable_loops}
use Rattle.template_writer.proofs.ListLemmas.{loop_nests}
use Rattle.template_writer.proofs.variables.write_loops.Goals as goal

pub with_loop-requires : goal.with_loop-requires
with_loop-requires c =
    loop_nests _ c.loop-variable.loops c.as_slice-variable-items.result.now c.loop-variable.variable-index
    c.variable-item.result c.in-Copy.count c.in-Copy.input 119 c.loop-variable.invariant c.loop-variable-test.true
    c.variable-item.is c.in-Copy.is
    (subst (λ vs. items_nesting (variable_loops vs) ≤ 119) (sym c.as_slice-variable-items.ensures) c.requires)
