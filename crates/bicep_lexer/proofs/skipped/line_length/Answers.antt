use Rattle.std.proofs.Common.{arith, ◌∙◌, sym, ap}
use Rattle.bicep_lexer.proofs.Scans.{line_step, tail_is}
use Rattle.bicep_lexer.specs.Skipped.{newline_length}
use Rattle.bicep_lexer.proofs.skipped.line_length.Goals as goal

pub loop-at-preserved : goal.loop-at-preserved
loop-at-preserved c =
    let e =
    line_step c.args.bytes.now c.loop-at.at c.loop-at-test.true
    (sym (ap newline_length (tail_is c.args.bytes.now c.loop-at.at)) ∙ sym c.newline_length.ensures
    ∙ c.if-newline_length-ne0.false) in
    omega (arith, e, c.loop-at.invariant)
