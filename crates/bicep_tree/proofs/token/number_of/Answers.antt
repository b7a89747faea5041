use Rattle.std.proofs.Common.{◌≤◌, ◌^◌, ◌+◌, ◌-◌, ◌*◌, get_or, drop, arith}
use Rattle.std.proofs.lemmas.List.{at_drop_more}
use Rattle.std.proofs.lemmas.Bool.Decides.{nat_tests}
use Rattle.bicep_lexer.specs.Bytes.{number_from}
use Rattle.bicep_lexer.proofs.Scans.{number_from-grows}
use Rattle.bicep_tree.proofs.NumberLemmas.{too_large}
use Rattle.bicep_tree.proofs.token.number_of.Goals as goal

pub returns-in-None : goal.returns-in-None
returns-in-None c =
    let ds = c.args.digits.now in
    let i = c.loop-digit.digit-index in
    let n = c.loop-digit.number in
    let e = at_drop_more (number_from n) ds i 0 c.loop-digit-test.true in
    let g = number_from-grows (10 * n + (get_or ds i 0 - 48)) (drop (i + 1) ds) in
    let large : 2 ^ 63 ≤ number_from 0 ds = grind (arith, nat_tests, e, c.loop-digit.invariant, g, c.in-None.ensures) in
    too_large (number_from 0 ds) large

pub returns-in-None-checked_add : goal.returns-in-None-checked_add
returns-in-None-checked_add c =
    let ds = c.args.digits.now in
    let i = c.loop-digit.digit-index in
    let n = c.loop-digit.number in
    let e = at_drop_more (number_from n) ds i 0 c.loop-digit-test.true in
    let g = number_from-grows (10 * n + (get_or ds i 0 - 48)) (drop (i + 1) ds) in
    let large : 2 ^ 63 ≤ number_from 0 ds =
    grind (
      arith,
      nat_tests,
      e,
      c.loop-digit.invariant,
      g,
      c.in-None-checked_add.ensures,
      c.in-Some.ensures,
      c.saturating_sub-unit.ensures,
      c.from.ensures,
    ) in
    too_large (number_from 0 ds) large
