use Rattle.std.proofs.Common.{◌<◌, ◌+◌, drop, length, arith}
use Rattle.foundation.proofs.Lists.{next_item}
use Rattle.bicep_symbols.proofs.OutputLemmas.{fresh, more, at_rest}
use Rattle.bicep_symbols.proofs.outputs.register_outputs.Goals as goal

pub add_output-requires : goal.add_output-requires
add_output-requires c =
    fresh c.args.listed.now (drop c.loop-name.name-index c.args.listed.now) c.loop-name.names c.loop-name.outputs
    c.loop-name.invariant

pub loop-name-preserved : goal.loop-name-preserved
loop-name-preserved c =
    let i : c.loop-name.name-index < length c.args.listed.now = omega arith in
    more c.args.listed.now (drop (c.loop-name.name-index + 1) c.args.listed.now) c.name-item.result
    c.loop-name.names c.in-Ok.more c.loop-name.outputs c.add_output.new.outputs
    (at_rest c.args.listed.now _ _ c.loop-name.names c.loop-name.outputs c.loop-name.invariant
    (next_item c.args.listed.now c.loop-name.name-index c.name-item.result i c.name-item.is))
    c.in-Ok.ensures.fresh c.in-Ok.ensures.names c.in-Ok.ensures.outputs
