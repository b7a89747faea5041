use Rattle.arm_expr.proofs.BracketLemmas.{bracketed_is, is_bracketed-in}
use Rattle.arm_expr.proofs.laws.brackets_are_at_both_ends.Goals as goal

pub returns : goal.returns
returns c t = (bracketed_is t, λ p. is_bracketed-in t p.0 p.1)
