-- Resources of a template that are built.
use Rattle.std.specs.Prelude.{◌≡◌, ℕ, false, List, Option}
use Rattle.arm_value.specs.Json.{object, pairs}
use Rattle.arm_value.specs.View.{json}
use Rattle.template_parts.specs.declared.declaration.Declaration.{Declaration}
use Rattle.template_tree.specs.Tree as template
use Rattle.deploy_cells.specs.Puts.{Kind}
use Rattle.bicep_resolved.specs.Source.{LoopTree}
use Rattle.bicep_declared.specs.Declarations.{BodyTree}
use Rattle.bicep_meaning.specs.Files.{SourceFile}
use Rattle.bicep_meaning.specs.Instances.{Put, resource_kind}
use Rattle.emitted_declarations.specs.Declared.{Emission}
use Rattle.emitted_values.specs.Templates.{TemplateMembers}
use Rattle.emitted_values.specs.Templates as t
use Rattle.emitted_values.specs.Written.{tree_json}
use Rattle.emitted_values.specs.Values.{AreBoth, plain_or_expression}
use Rattle.emitted_resources.specs.Heads.{whole_name, whole_condition, loop_count, IsConditionText, IsLoopOf}
pub use Rattle.emitted_resources.specs.declared.needs.Needs.{Needs}

-- what declares the resource or the module of a number and a kind
pub record IsHead (e : Emission) (n : ℕ) (l : Option LoopTree) (k : Kind) (x : List ℕ) (needs : Needs)
    (d : Declaration) : Type 0 where
  pub kind : d.kind ≡ k.type
  pub api : d.api_version ≡ k.api
  pub name : json d.name ≡ tree_json (plain_or_expression (whole_name e n l))
  pub condition : IsConditionText (whole_condition e n l) d.condition
  -- a loop has the name of the symbol
  pub loop : AreBoth (λ l c. IsLoopOf x (loop_count e n) needs.batches c) l d.copy
  pub symbol : d.symbol ≡ needs.symbol
  pub depends_on : d.depends_on ≡ needs.depends_on
  pub existing : d.existing ≡ false
  pub metadata : d.metadata ≡ needs.metadata

-- the resource of a number that has this body
abbrev pub resource_put : SourceFile → ℕ → BodyTree → Put
resource_put f n b = record { number = n; body = b; kind = resource_kind f n }

-- a body of these members
abbrev pub HasMembers : TemplateMembers → template.BodyTree → Type 0
HasMembers ms (template.body_members xs) = object (pairs xs) ≡ tree_json (t.object ms)
HasMembers ms (template.deployment scope args u) = ⊥
