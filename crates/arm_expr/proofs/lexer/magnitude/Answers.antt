use Rattle.std.proofs.Common.{◌+◌, ◌-◌, ◌*◌, get_or, drop, arith}
use Rattle.std.proofs.lemmas.List.{at_drop_more}
use Rattle.arm_expr.specs.Grammar.{value_from}
use Rattle.arm_expr.proofs.LexerLemmas.{value_from-grows}
use Rattle.arm_expr.proofs.lexer.magnitude.Goals as goal

pub returns-in-None : goal.returns-in-None
returns-in-None c =
    let ds = c.args.digits.now in
    let i = c.loop-d.d-index in
    let d = c.d-item.result in
    let e = at_drop_more (value_from c.loop-d.n) ds i d (omega arith) in
    omega (
      arith,
      e,
      c.loop-d.invariant,
      value_from-grows (10 * c.loop-d.n + (get_or ds i d - 48)) (drop (i + 1) ds),
      c.in-None.ensures,
    )

pub returns-in-None-checked_add : goal.returns-in-None-checked_add
returns-in-None-checked_add c =
    let ds = c.args.digits.now in
    let i = c.loop-d.d-index in
    let d = c.d-item.result in
    let e = at_drop_more (value_from c.loop-d.n) ds i d (omega arith) in
    omega (
      arith,
      e,
      c.loop-d.invariant,
      value_from-grows (10 * c.loop-d.n + (get_or ds i d - 48)) (drop (i + 1) ds),
      c.in-None-checked_add.ensures,
      c.in-Some.ensures,
      c.saturating_sub-unit.ensures,
      c.from-in-loop-d.ensures,
      c.d-item.is,
    )
