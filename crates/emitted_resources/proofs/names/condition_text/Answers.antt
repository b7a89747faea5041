use Rattle.emitted_resources.proofs.TextLemmas.{always_is}
use Rattle.arm_expr.specs.View.{tree_of}
use Rattle.emitted_resources.proofs.names.condition_text.Goals as goal

pub returns-then-is_always : goal.returns-then-is_always
returns-then-is_always c = always_is (tree_of c.args.e.now) c.if-is_always.ensures
