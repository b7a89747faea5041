use Rattle.std.proofs.Common.{map, take, subst}
use Rattle.arm_value.specs.View.{member}
use Rattle.arm_eval.specs.Trees.{names_of}
use Rattle.arm_eval.specs.Free.{AreNames}
use Rattle.arm_eval.proofs.NameLemmas.{front_names}
use Rattle.arm_eval.proofs.names.names_in.Goals as goal

pub loop-field-preserved : goal.loop-field-preserved
loop-field-preserved c =
    let so_far = names_of (map member (take c.loop-field.field-index c.args.fields.now)) in
    subst (AreNames c.add_name.new.names)
    (front_names c.args.fields.now c.loop-field.field-index c.field-item.result c.loop-field-test.true
    c.field-item.is) (c.in_ok-add_name.ensures.added so_far c.loop-field.invariant)
