use Rattle.std.proofs.Common.{Some, option_map, sym, subst}
use Rattle.bicep_resolved.specs.View.{loop_of}
use Rattle.emitted_values.specs.Values.{AreBoth}
use Rattle.emitted_values.specs.EmittedTrees.{count_of}
use Rattle.emitted_values.specs.Seen.{sight}
use Rattle.emitted_resources.specs.Heads.{IsLoopOf}
use Rattle.emitted_resources.proofs.loops.copy.Goals as goal

pub returns-in_ok-copy_of-in-Some : goal.returns-in_ok-copy_of-in-Some
returns-in_ok-copy_of-in-Some c =
    let count = count_of ((sight c.args.table.now).scope.items c.args.number) in
    let symbol = c.args.symbol.now in
    subst
    (λ o. AreBoth (λ l y. IsLoopOf symbol count c.args.batches y) (option_map loop_of o)
    (Some c.in_ok-copy_of-in-Some.field-0))
    (sym c.in-Some.is) (c.in_ok-copy_of-in-Some.ensures symbol count c.copy.ensures c.count_text.ensures)
