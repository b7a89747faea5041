use Rattle.std.proofs.Common.{◌∙◌, ◌++◌, ap, sym}
use Rattle.std.specs.Str.{chars}
use Rattle.arm_expr.specs.Runs.{continues, front}
use Rattle.arm_expr.proofs.LexerLemmas.{front_and_rest, left_fits, cut_ends, cut_is, left_is}
use Rattle.arm_expr.proofs.lexer.run_of.Goals as goal

pub overflow_sub-text : goal.overflow_sub-text
overflow_sub-text c =
    let w = front (continues c.args.run) (chars c.args.text.now) in
    left_fits c.args.text.now c.after_run-left.result.now w c.utf8.text c.after_run-left.utf8
    (front_and_rest (continues c.args.run) (chars c.args.text.now) ∙ ap (λ r. w ++ r) (sym c.after_run-left.ensures))

pub split_at-requires : goal.split_at-requires
split_at-requires c =
    let w = front (continues c.args.run) (chars c.args.text.now) in
    cut_ends c.args.text.now c.after_run-left.result.now w c.utf8.text c.after_run-left.utf8
    (front_and_rest (continues c.args.run) (chars c.args.text.now) ∙ ap (λ r. w ++ r) (sym c.after_run-left.ensures))

pub returns-clause-front : goal.returns-clause-front
returns-clause-front c =
    let w = front (continues c.args.run) (chars c.args.text.now) in
    ap chars c.split_at.ensures.front
    ∙ cut_is c.args.text.now c.after_run-left.result.now w c.utf8.text c.after_run-left.utf8
    (front_and_rest (continues c.args.run) (chars c.args.text.now) ∙ ap (λ r. w ++ r) (sym c.after_run-left.ensures))

pub returns-clause-rest : goal.returns-clause-rest
returns-clause-rest c =
    let w = front (continues c.args.run) (chars c.args.text.now) in
    ap chars (c.split_at.ensures.back
    ∙ left_is c.args.text.now c.after_run-left.result.now w c.utf8.text c.after_run-left.utf8
    (front_and_rest (continues c.args.run) (chars c.args.text.now) ∙ ap (λ r. w ++ r) (sym c.after_run-left.ensures)))
    ∙ c.after_run-left.ensures
