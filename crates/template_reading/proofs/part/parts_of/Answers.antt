use Rattle.arm_value.specs.View.{member}
use Rattle.template_reading.proofs.LoopLemmas.{part_all}
use Rattle.template_reading.proofs.part.parts_of.Goals as goal

pub returns : goal.returns
returns g c =
    part_all member g.T.Part.part_of c.loop-field.parts c.args.fields.now c.loop-field.field-index
    c.loop-field-test.false c.loop-field.invariant
