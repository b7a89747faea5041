use Rattle.std.proofs.Common.{◌∙◌, sym, ap, arith}
use Rattle.bicep_lexer.specs.Escapes.{hexadecimal}
use Rattle.bicep_lexer.proofs.Scans.{hexadecimal_step, hexadecimal_grows, hexadecimal_fits}
use Rattle.bicep_lexer.proofs.escapes.closed_number.Goals as goal

pub overflow_mul-number : goal.overflow_mul-number
overflow_mul-number c =
    let inv = c.loop-byte.invariant in
    omega (
      arith,
      hexadecimal_fits c.loop-byte.digits c.loop-byte.number c.in-Some.digit (omega arith) inv.within
          inv.small c.in-Some.ensures.bound,
    )

pub overflow_add-number : goal.overflow_add-number
overflow_add-number c =
    let inv = c.loop-byte.invariant in
    omega (
      arith,
      hexadecimal_fits c.loop-byte.digits c.loop-byte.number c.in-Some.digit (omega arith) inv.within
          inv.small c.in-Some.ensures.bound,
    )

pub loop-byte-preserved : goal.loop-byte-preserved
loop-byte-preserved c =
    let inv = c.loop-byte.invariant in
    record {
      same =
          sym (hexadecimal_step c.loop-byte.digits c.loop-byte.number c.in-Some.digit c.args.bytes.now
          c.loop-byte.byte-index c.loop-byte-test.true (omega arith) c.if-byte-eq125.false
          (sym (ap hexadecimal c.from.ensures) ∙ sym c.hexadecimal.ensures.value ∙ c.in-Some.is)) ∙ inv.same;
      within = omega arith;
      small = hexadecimal_grows c.loop-byte.digits c.loop-byte.number c.in-Some.digit (omega arith) inv.within
          inv.small c.in-Some.ensures.bound;
    }
