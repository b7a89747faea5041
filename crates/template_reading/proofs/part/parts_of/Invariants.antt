use Rattle.std.proofs.Common.{◌≡◌, take, map}
use Rattle.arm_value.specs.View.{member}
use Rattle.template_reading.proofs.part.parts_of.Given as goal

abbrev pub invariant-loop-field : goal.invariant-loop-field
invariant-loop-field g l = l.parts ≡ map (λ f. g.T.Part.part_of (member f)) (take l.field-index l.fields)
