-- Nested deployments of a template that modules become.
use Rattle.std.specs.Prelude.{◌≡◌, ℕ}
use Rattle.template_parts.specs.declared.mode.Scope.TheVariants.{Inner}
use Rattle.template_tree.specs.Tree.{TemplateTree}
use Rattle.template_tree.specs.Tree as template
use Rattle.bicep_declared.specs.Declarations.{BodyTree}
use Rattle.bicep_meaning.specs.Instances.{Put, module_kind}
use Rattle.emitted_resources.specs.Files.{frames_around}
use Rattle.emitted_resources.specs.Seen.{Shape, whole_in}
use Rattle.emitted_resources.specs.Filled.{emission_sight}
use Rattle.emitted_resources.specs.declared.needs.Needs.{Needs}
use Rattle.emitted_modules.specs.Arguments.{arguments_in, AreArguments}

-- what the declaration of a resource or a module does not say of it
abbrev pub Needed : Type 0
Needed = Needs

-- the module of a number that has this body
abbrev pub module_put : ℕ → BodyTree → Put
module_put n b = record { number = n; body = b; kind = module_kind }

-- a nested deployment of the inner scope, with the arguments of a module and this template
abbrev pub IsDeployment : Shape → ℕ → BodyTree → TemplateTree → template.BodyTree → Type 0
IsDeployment s n b u (template.body_members ms) = ⊥
IsDeployment s n b u (template.deployment scope args v) =
    (scope ≡ Inner)
    × (AreArguments (emission_sight s) (frames_around (whole_in s) n b.each) (arguments_in b.fields) args × (v ≡ u))
