use Rattle.std.proofs.Common.{◌++◌, ◌≡◌, ◌≤◌, length, arith}
use Rattle.foundation.proofs.Options.{if_ok}
use Rattle.bicep_declared.specs.View.{declared_tree}
use Rattle.emitted_values.specs.Seen.{file_in}
use Rattle.file_lists.specs.Lists.{AreVariables, AreDivided, variable_count}
use Rattle.file_lists.proofs.LimitLemmas.{item_is, same_size}
use Rattle.file_lists.proofs.VariableLemmas.{none_so_far, next_so_far, all_variables, are_divided, are_few}
use Rattle.file_lists.proofs.variable_list.variables_of.Goals as goal

pub loop-number-init : goal.loop-number-init
loop-number-init c =
    none_so_far c.args.table.now c.requires.names c.new-plain.result c.new-loops.result c.new-plain.ensures
    c.new-loops.ensures

pub with_declared-requires-clause-declared : goal.with_declared-requires-clause-declared
with_declared-requires-clause-declared c =
    item_is declared_tree c.args.declarations.now (file_in c.args.table.now).declared.declarations c.loop-number.number
    c.index-declarations-number.result c.requires.declared c.loop-number-test.true c.index-declarations-number.is

pub loop-number-preserved : goal.loop-number-preserved
loop-number-preserved c =
    next_so_far c.args.table.now c.requires.names c.loop-number.number c.loop-number.plain c.loop-number.loops
    c.loop-number.invariant c.in-Ok.more.0 c.in-Ok.more.1 c.in-Ok.ensures

pub returns-clause-variables : goal.returns-clause-variables
returns-clause-variables c =
    let s = c.args.table.now in
    let ps = c.loop-number.plain in
    let ls = c.loop-number.loops in
    let a = same_size declared_tree c.args.declarations.now (file_in s).declared.declarations c.requires.declared in
    if_ok (λ xs. xs ≡ ps ++ ls) (AreVariables s) c.joined.result c.joined.ensures
    (λ xs e. all_variables s c.requires.names c.loop-number.number ps ls xs
    (omega (arith, a, c.loop-number-test.false)) e c.loop-number.invariant)

pub returns-clause-divided : goal.returns-clause-divided
returns-clause-divided c =
    let ps = c.loop-number.plain in
    let ls = c.loop-number.loops in
    if_ok (λ xs. xs ≡ ps ++ ls) AreDivided c.joined.result c.joined.ensures
    (λ xs e. are_divided c.args.table.now c.requires.names c.loop-number.number ps ls xs e c.loop-number.invariant)

pub returns-clause-count : goal.returns-clause-count
returns-clause-count c =
    let s = c.args.table.now in
    let ps = c.loop-number.plain in
    let ls = c.loop-number.loops in
    if_ok (λ xs. xs ≡ ps ++ ls) (λ xs. length xs ≤ variable_count s) c.joined.result c.joined.ensures
    (λ xs e. are_few s c.requires.names c.loop-number.number ps ls xs e c.loop-number.invariant)
