use Rattle.arm_expr.proofs.NameLemmas.{names-Text}
use Rattle.language_tests.proofs.limits.string_of.Goals as goal

pub returns : goal.returns
returns c = names-Text c.from_string.result
