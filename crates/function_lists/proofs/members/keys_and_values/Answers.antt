use Rattle.std.proofs.Common.{arith}
use Rattle.arm_value.proofs.JsonLemmas.{member_nests}
use Rattle.function_lists.proofs.members.keys_and_values.Goals as goal

pub key_and_value-requires : goal.key_and_value-requires
key_and_value-requires c =
    omega (
      arith,
      c.requires,
      member_nests c.args.fields.now c.loop-field.field-index c.field-item.result c.loop-field-test.true
          c.field-item.is,
    )
