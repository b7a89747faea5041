use Rattle.std.proofs.Common.{◌<◌, ◌+◌, drop, length, arith}
use Rattle.foundation.proofs.Lists.{next_item}
use Rattle.bicep_symbols.proofs.SymbolLemmas.{fresh, more, at_rest}
use Rattle.bicep_symbols.proofs.registry.register.Goals as goal

pub add-requires : goal.add-requires
add-requires c =
    fresh c.args.entries.now (drop c.loop-entry.entry-index c.args.entries.now) c.loop-entry.names c.loop-entry.symbols
    c.loop-entry.invariant

pub loop-entry-preserved : goal.loop-entry-preserved
loop-entry-preserved c =
    let i : c.loop-entry.entry-index < length c.args.entries.now = omega arith in
    more c.args.entries.now (drop (c.loop-entry.entry-index + 1) c.args.entries.now) c.entry-item.result
    c.loop-entry.names c.in-Ok-add.more c.loop-entry.symbols c.add.new.symbols
    (at_rest c.args.entries.now _ _ c.loop-entry.names c.loop-entry.symbols c.loop-entry.invariant
    (next_item c.args.entries.now c.loop-entry.entry-index c.entry-item.result i c.entry-item.is))
    c.in-Ok-add.ensures.fresh c.in-Ok-add.ensures.names c.in-Ok-add.ensures.symbols
