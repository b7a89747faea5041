use Rattle.std.proofs.Common.{◌+◌, [], None, get_or, drop, map}
use Rattle.std.specs.Str.{chars}
use Rattle.function_numbers.proofs.WordLemmas.{is_folded}
use Rattle.arm_functions.proofs.TableLemmas.{Spelled, counted, row_apart, no_row_left, row_found, row_passed, no_row}
use Rattle.arm_functions.proofs.table.find.Goals as goal

pub returns-then-folded_eq-clause-row : goal.returns-then-folded_eq-clause-row
returns-then-folded_eq-clause-row c =
    let rows = c.args.entries.now in
    let i = c.loop-entry.entry-index in
    let d : Spelled = (record { ref_ptr = (0, 0); now = [] }, 0, None, None) in
    row_found (chars c.args.name.now) (counted (get_or rows i d)) (map counted (drop (i + 1) rows))
    (map counted (drop i rows)) _ (row_apart rows i d c.loop-entry-test.true)
    (is_folded _ _ _ c.if-folded_eq.ensures) c.loop-entry.invariant

pub loop-entry-preserved : goal.loop-entry-preserved
loop-entry-preserved c =
    let rows = c.args.entries.now in
    let i = c.loop-entry.entry-index in
    let d : Spelled = (record { ref_ptr = (0, 0); now = [] }, 0, None, None) in
    row_passed (chars c.args.name.now) (counted (get_or rows i d)) (map counted (drop (i + 1) rows))
    (map counted (drop i rows)) _ (row_apart rows i d c.loop-entry-test.true)
    (is_folded _ _ _ c.if-folded_eq.ensures) c.loop-entry.invariant

pub returns-clause-row : goal.returns-clause-row
returns-clause-row c = no_row (chars c.args.name.now) (map counted (drop c.loop-entry.entry-index c.args.entries.now)) _
    (no_row_left c.args.entries.now c.loop-entry.entry-index c.loop-entry-test.false) c.loop-entry.invariant
