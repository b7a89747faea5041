use Rattle.std.proofs.Common.{◌∙◌, ◌+◌, sym, true, false}
use Rattle.bicep_lexer.specs.Reader.Scanning.{piece_end}
use Rattle.bicep_lexer.proofs.Scans.{escaped_step, plain_step, escape_step, tail_is, ended_step}
use Rattle.bicep_lexer.proofs.texts.piece_end.Goals as goal
use Rattle.bicep_lexer.proofs.texts.piece_end.Goals.{then-escaped}
use Rattle.bicep_lexer.proofs.texts.piece_end.Goals.{else-escaped+else-byte-eq39+else-is_hole+else-is_break+then-byte-eq92+else-not-is_escape}
use Rattle.bicep_lexer.proofs.texts.piece_end.Goals.{else-escaped+else-byte-eq39+else-is_hole+else-is_break+else-byte-eq92}

pub loop-at-preserved : goal.loop-at-preserved
loop-at-preserved c =
    let bytes = c.args.bytes.now in
    let n = c.loop-at.at in
    let lt = c.loop-at-test.true in
    let step = ended_step bytes n c.loop-at.escaped c.if-escaped.escaped in
    let whole = piece_end false bytes in
    elim c.if-escaped.branch [
      | then-escaped w ↦
          step true false whole w.if-escaped.true w.escaped-is (escaped_step bytes n lt) c.loop-at.invariant
      | else-escaped+else-byte-eq39+else-is_hole+else-is_break+then-byte-eq92+else-not-is_escape w ↦
          step false true whole w.if-escaped.false w.escaped-is
          (escape_step bytes _ n (tail_is bytes (n + 1)) lt w.if-byte-eq39.false (sym w.is_hole.ensures.value
          ∙ w.if-is_hole.false) (sym w.is_break.ensures ∙ w.if-is_break.false) w.if-byte-eq92.true
          (sym w.is_escape.ensures ∙ w.if-not-is_escape.false)) c.loop-at.invariant
      | else-escaped+else-byte-eq39+else-is_hole+else-is_break+else-byte-eq92 w ↦
          step false false whole w.if-escaped.false (w.escaped-is ∙ w.if-escaped.false)
          (plain_step bytes _ n (tail_is bytes (n + 1)) lt w.if-byte-eq39.false (sym w.is_hole.ensures.value
          ∙ w.if-is_hole.false) (sym w.is_break.ensures ∙ w.if-is_break.false) w.if-byte-eq92.false)
          c.loop-at.invariant
    ]
