use Rattle.std.proofs.Common.{◌≡◌, ◌++◌, drop, map}
use Rattle.arm_value.specs.Json.{IsInOrder}
use Rattle.arm_value.specs.View.{member}
use Rattle.template_meaning.specs.Resources.{body_of}
use Rattle.template_build.proofs.body.body_of.Given as goal

abbrev pub invariant-loop-field : goal.invariant-loop-field
invariant-loop-field l = record {
  all : body_of l.symbol (map member l.field-items)
      ≡ l.body ++ body_of l.symbol (map member (drop l.field-index l.field-items));
  ordered : IsInOrder (l.body ++ map member (drop l.field-index l.field-items));
}
