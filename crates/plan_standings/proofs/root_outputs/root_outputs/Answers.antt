use Rattle.std.proofs.Common.{[]}
use Rattle.reading.specs.Knowledge.{blanked}
use Rattle.deploy_cells.specs.Cells.{output}
use Rattle.arm_value.specs.Look.{fold}
use Rattle.plan_cells.specs.Resources.{header_in}
use Rattle.plan_table.specs.Whole.{whole_of}
use Rattle.point_rows.specs.Rows.{known_now}
use Rattle.plan_standings.proofs.RootLemmas.{values_begin, declared_here, more_here, end_here}
use Rattle.plan_standings.proofs.root_outputs.root_outputs.Goals as goal

pub each-init : goal.each-init
each-init c =
    values_begin (λ n. blanked (known_now c.args.table.now c.args.later.now) (output [] n))
    (header_in (whole_of c.args.table.now).template).outputs c.new-outputs.result.items c.new-outputs.ensures.items

pub add_output-requires-clause-declared : goal.add_output-requires-clause-declared
add_output-requires-clause-declared c =
    declared_here (λ n. blanked (known_now c.args.table.now c.args.later.now) (output [] n))
    (header_in (whole_of c.args.table.now).template).outputs c.as_slice-declared-items.result.now
    c.as_slice-declared-items.ensures
    c.each.declared-index c.declared-item.result c.each-test.true c.declared-item.is

pub add_output-requires-clause-there : goal.add_output-requires-clause-there
add_output-requires-clause-there c =
    c.requires.there (fold c.declared-item.result.name)
    (declared_here (λ n. blanked (known_now c.args.table.now c.args.later.now) (output [] n))
    (header_in (whole_of c.args.table.now).template).outputs c.as_slice-declared-items.result.now
    c.as_slice-declared-items.ensures
    c.each.declared-index c.declared-item.result c.each-test.true c.declared-item.is)

pub each-preserved : goal.each-preserved
each-preserved c =
    more_here (λ n. blanked (known_now c.args.table.now c.args.later.now) (output [] n))
    (header_in (whole_of c.args.table.now).template).outputs c.as_slice-declared-items.result.now
    c.as_slice-declared-items.ensures
    c.each.outputs.items c.add_output.new.outputs.items c.each.declared-index c.declared-item.result c.each-test.true
    c.declared-item.is c.in_ok-add_output.ensures c.each.invariant

pub returns : goal.returns
returns c =
    end_here (λ n. blanked (known_now c.args.table.now c.args.later.now) (output [] n))
    (header_in (whole_of c.args.table.now).template).outputs c.as_slice-declared-items.result.now
    c.as_slice-declared-items.ensures
    c.each.outputs.items c.each.declared-index c.each-test.false c.each.invariant
