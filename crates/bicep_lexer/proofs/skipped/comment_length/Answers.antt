use Rattle.std.proofs.Common.{◌∙◌, sym, ap}
use Rattle.bicep_lexer.proofs.Scans.{comment_step, tail_is}
use Rattle.bicep_lexer.specs.Skipped.{closes_comment}
use Rattle.bicep_lexer.proofs.skipped.comment_length.Goals as goal

pub loop-at-preserved : goal.loop-at-preserved
loop-at-preserved c =
    sym (comment_step c.args.bytes.now c.loop-at.at c.loop-at-test.true
    (sym (ap closes_comment (tail_is c.args.bytes.now c.loop-at.at)) ∙ sym c.closes_comment.ensures.value
    ∙ c.if-closes_comment.false)) ∙ c.loop-at.invariant
