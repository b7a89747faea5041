use Rattle.std.proofs.Common.{◌≤◌, ◌∙◌, length, map, refl, sym, arith}
use Rattle.std.proofs.lemmas.List.{length-map}
use Rattle.bicep_symbols.specs.Entries.{symbol_of}
use Rattle.declared_table.specs.Seen.{file_in}
use Rattle.file_counts.specs.Counts.{is_parameter_at}
use Rattle.file_counts.proofs.CountLemmas.{none_counted, one_counted, all_counted, parameters_are}
use Rattle.file_counts.proofs.counts.parameters.Goals as goal

pub loop-number-init : goal.loop-number-init
loop-number-init c =
    let xs = c.args.entries.now in
    none_counted (is_parameter_at (map symbol_of xs)) (length xs) 0 refl

pub loop-number-preserved : goal.loop-number-preserved
loop-number-preserved c =
    let xs = c.args.entries.now in
    one_counted (is_parameter_at (map symbol_of xs)) (length xs) c.loop-number.number
    c.loop-number.total c.with_one-total.result c.is_parameter_at.result c.loop-number-test.true
    c.is_parameter_at.ensures c.with_one-total.ensures c.loop-number.invariant

pub returns : goal.returns
returns c =
    let xs = c.args.entries.now in
    let f = file_in c.args.table.now in
    let done = c.loop-number-test.false in
    let all : length xs ≤ c.loop-number.number = omega (arith, done) in
    all_counted (is_parameter_at (map symbol_of xs)) (length xs) c.loop-number.number
    c.loop-number.total all c.loop-number.invariant
    ∙ parameters_are f (map symbol_of xs) (length xs) c.requires (sym (length-map xs symbol_of))
