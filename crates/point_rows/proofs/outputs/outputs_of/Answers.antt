use Rattle.std.proofs.Common.{map}
use Rattle.arm_env.specs.Sight.{declared_of}
use Rattle.plan_table.specs.Found.{scope_at}
use Rattle.plan_nested.proofs.OutputLemmas.{outputs_here, output_named_here}
use Rattle.point_rows.proofs.SeenNowLemmas.{outputs_begin, listed_more, listed_stops, listed_ends}
use Rattle.point_rows.proofs.outputs.outputs_of.Goals as goal

pub loop-output-init : goal.loop-output-init
loop-output-init c =
    outputs_begin c.args.table.now c.args.later.now c.args.frame c.as_slice-outputs.result.now
    c.new-listed.result.items c.new-listed.ensures.items
    (outputs_here c.args.table.now c.args.frame c.index.result.now c.as_slice-outputs.result.now c.requires.there
    c.index.ensures c.as_slice-outputs.ensures)

pub offered_in-requires-clause-named : goal.offered_in-requires-clause-named
offered_in-requires-clause-named c =
    output_named_here c.args.table.now c.args.frame c.as_slice-outputs.result.now
    (outputs_here c.args.table.now c.args.frame c.index.result.now c.as_slice-outputs.result.now c.requires.there
    c.index.ensures c.as_slice-outputs.ensures) c.loop-output.output-index c.output-item.result
    c.loop-output-test.true c.output-item.is

pub returns-in-Err : goal.returns-in-Err
returns-in-Err c =
    listed_stops c.args.table.now c.args.later.now (scope_at c.args.table.now c.args.frame).position
    (map declared_of c.loop-output.listed.items) c.as_slice-outputs.result.now c.loop-output.output-index
    c.output-item.result c.in-Err.lack _ c.loop-output-test.true c.output-item.is c.in-Err.ensures
    c.loop-output.invariant

pub loop-output-preserved : goal.loop-output-preserved
loop-output-preserved c =
    listed_more c.args.table.now c.args.later.now (scope_at c.args.table.now c.args.frame).position
    (map declared_of c.loop-output.listed.items) _ c.as_slice-outputs.result.now c.loop-output.output-index
    c.output-item.result c.in-Ok.offered _ c.loop-output-test.true c.output-item.is c.in-Ok.ensures
    c.in_ok-push_offered-in-Ok.ensures c.loop-output.invariant

pub returns : goal.returns
returns c =
    listed_ends c.args.table.now c.args.later.now (scope_at c.args.table.now c.args.frame).position
    (map declared_of c.loop-output.listed.items) c.as_slice-outputs.result.now c.loop-output.output-index _
    c.loop-output-test.false c.loop-output.invariant
