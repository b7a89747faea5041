use Rattle.arm_value.proofs.JsonLemmas.{member_nests}
use Rattle.arm_eval.proofs.copying.copy_tree.Goals as goal

pub returns-then-is_copy-clause-nests : goal.returns-then-is_copy-clause-nests
returns-then-is_copy-clause-nests c =
    member_nests c.args.fields.now c.loop-field.field-index c.field-item.result c.loop-field-test.true c.field-item.is
