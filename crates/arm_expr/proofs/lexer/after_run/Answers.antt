use Rattle.std.proofs.Common.{◌∙◌, ap, sym, rules}
use Rattle.std.specs.Str.{chars}
use Rattle.std.specs.Str.Iter.{chars_rest}
use Rattle.std.proofs.lemmas.Str.{IsUtf8-past_char}
use Rattle.arm_expr.specs.Runs.{continues}
use Rattle.arm_expr.proofs.LexerLemmas.{run_stops, run_goes, run_ends, one_shorter}
use Rattle.arm_expr.proofs.lexer.after_run.Goals as goal

pub returns-then-not-continues : goal.returns-then-not-continues
returns-then-not-continues c =
    let l = c.loop-c in
    ap chars l.invariant.1
    ∙ run_stops (continues c.args.run) (chars_rest l.characters) (chars_rest c.next.new.self) c.args.text.now
    c.in-Some.c l.invariant.3 c.in-Some.ensures.steps.0 (sym c.continues.ensures ∙ c.if-not-continues.true)
    l.invariant.2

pub loop-c-smaller : goal.loop-c-smaller
loop-c-smaller c =
    one_shorter (chars_rest c.loop-c.characters) (chars_rest c.next.new.self) c.in-Some.c c.loop-c.invariant.3
    c.in-Some.ensures.steps.0

pub loop-c-preserved : goal.loop-c-preserved
loop-c-preserved c =
    let l = c.loop-c in (
      search rules,
      c.as_str-left.ensures,
      run_goes (continues c.args.run) (chars_rest l.characters) (chars_rest c.next.new.self) c.args.text.now c.in-Some.c
          l.invariant.3 c.in-Some.ensures.steps.0 (sym c.continues.ensures ∙ c.if-not-continues.false) l.invariant.2,
      IsUtf8-past_char (chars_rest l.characters) (chars_rest c.next.new.self) c.in-Some.c l.invariant.3
          c.in-Some.ensures.steps.0,
    )

pub returns : goal.returns
returns c =
    let l = c.loop-c in
    ap chars l.invariant.1
    ∙ run_ends (continues c.args.run) (chars_rest l.characters) c.args.text.now c.in_default.ensures.steps.0.0
    l.invariant.2
