use Rattle.std.proofs.Common.{◌≤◌, ◌∙◌, length, map, refl, sym, arith}
use Rattle.std.proofs.lemmas.List.{length-map}
use Rattle.bicep_declared.specs.View.{declared_tree}
use Rattle.declared_table.specs.Seen.{file_in}
use Rattle.file_counts.specs.Counts.{is_entry_at}
use Rattle.file_counts.proofs.CountLemmas.{none_counted, one_counted, all_counted, entries_are}
use Rattle.file_counts.proofs.counts.variables.Goals as goal

pub loop-number-init : goal.loop-number-init
loop-number-init c =
    let xs = c.args.declarations.now in
    none_counted (is_entry_at (file_in c.args.table.now) (map declared_tree xs)) (length xs) 0 refl

pub loop-number-preserved : goal.loop-number-preserved
loop-number-preserved c =
    let xs = c.args.declarations.now in
    one_counted (is_entry_at (file_in c.args.table.now) (map declared_tree xs)) (length xs) c.loop-number.number
    c.loop-number.total c.with_one-total.result c.is_entry_at.result c.loop-number-test.true
    c.is_entry_at.ensures c.with_one-total.ensures c.loop-number.invariant

pub returns : goal.returns
returns c =
    let xs = c.args.declarations.now in
    let f = file_in c.args.table.now in
    let done = c.loop-number-test.false in
    let all : length xs ≤ c.loop-number.number = omega (arith, done) in
    all_counted (is_entry_at (file_in c.args.table.now) (map declared_tree xs)) (length xs) c.loop-number.number
    c.loop-number.total all c.loop-number.invariant
    ∙ entries_are f (map declared_tree xs) (length xs) c.requires (sym (length-map xs declared_tree))
