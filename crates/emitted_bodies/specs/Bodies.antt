-- The members of a resource of a template that its fields become.
use Rattle.std.specs.Prelude.{List}
use Rattle.bicep_resolved.specs.Source.{PropertyTrees}
use Rattle.bicep_meaning.specs.Instances.{body_fields}
use Rattle.measured_expressions.specs.Emitted.{Frame}
use Rattle.emitted_expressions.specs.Sight.{Sight}
use Rattle.tree_building.specs.Templates.{TemplateMembers}
use Rattle.tree_building.specs.Sight as spec

-- all fields but `name`, `parent` and `dependsOn`
abbrev pub body_members : Sight → PropertyTrees → List Frame → TemplateMembers
body_members s ps fs = spec.members s (body_fields ps) fs
