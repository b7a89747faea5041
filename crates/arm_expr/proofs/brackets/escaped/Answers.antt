use Rattle.std.proofs.Common.{◌∙◌, sym}
use Rattle.arm_expr.proofs.BracketLemmas.{written_in_brackets}
use Rattle.arm_expr.proofs.brackets.escaped.Goals as goal

pub returns-then-is_bracketed : goal.returns-then-is_bracketed
returns-then-is_bracketed c =
    written_in_brackets c.from_string.result _ c.as_str-then-is_bracketed.result.now c.as_str.result.now
    c.args.text.now c.from_string.ensures.characters c.in_ok-written.ensures
    c.as_str-then-is_bracketed.ensures.characters (sym (c.is_bracketed.ensures) ∙ c.if-is_bracketed.true)
    c.as_str.ensures.characters
