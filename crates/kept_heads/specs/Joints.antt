-- Two expressions that become one: a name after that of a parent, and a condition with that of a parent.
use Rattle.std.specs.Prelude.{codes}
use Rattle.arm_expr.specs.Tree.{Tree, call}
use Rattle.arm_expr.specs.Tree as tree
use Rattle.bicep_emission.specs.Emitted.{two}
use Rattle.emitted_declarations.specs.Declared.{with_slash}
use Rattle.kept_heads.specs.declared.joints.Joint.{Joint}
use Rattle.kept_heads.specs.declared.joints.Joint.TheVariants as joint

abbrev pub joined : Joint → Tree → Tree → Tree
joined joint.Slash a b = with_slash a b
joined joint.And a b = call (codes "and") (two a b)

-- the condition of a resource that has none
abbrev pub always : Tree
always = call (codes "true") tree.none
