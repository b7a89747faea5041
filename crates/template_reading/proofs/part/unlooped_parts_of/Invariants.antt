use Rattle.std.proofs.Common.{◌≡◌, ◌++◌, drop, map}
use Rattle.arm_value.specs.View.{member}
use Rattle.template_meaning.specs.Parts.{unlooped}
use Rattle.template_reading.proofs.part.unlooped_parts_of.Given as goal

abbrev pub invariant-loop-field : goal.invariant-loop-field
invariant-loop-field g l =
    map g.T.Part.part_of (unlooped (map member l.fields))
    ≡ l.parts ++ map g.T.Part.part_of (unlooped (map member (drop l.field-index l.fields)))
