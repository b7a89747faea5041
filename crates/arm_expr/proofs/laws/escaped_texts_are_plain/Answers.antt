use Rattle.arm_expr.proofs.BracketLemmas.{meaning-escaped}
use Rattle.arm_expr.proofs.laws.escaped_texts_are_plain.Goals as goal

pub returns : goal.returns
returns c t = meaning-escaped t
