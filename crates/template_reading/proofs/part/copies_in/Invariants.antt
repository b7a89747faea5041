use Rattle.std.proofs.Common.{◌≡◌, drop, map}
use Rattle.arm_value.specs.View.{member}
use Rattle.template_meaning.specs.Parts.{copies_in}
use Rattle.template_reading.proofs.part.copies_in.Given as goal

abbrev pub invariant-loop-field : goal.invariant-loop-field
invariant-loop-field l = copies_in (map member l.fields) ≡ copies_in (map member (drop l.field-index l.fields))
