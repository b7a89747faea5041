-- Existing resources of a template in the second form (Microsoft Learn, "Resource declaration in ARM templates").
use Rattle.std.specs.Prelude.{◌≡◌, ℕ, true, List, []}
use Rattle.template_parts.specs.declared.declaration.Declaration.{Declaration}
use Rattle.template_tree.specs.Tree.{BodyTree as Body, body_members}
use Rattle.bicep_declared.specs.Declarations.{BodyTree}
use Rattle.emitted_resources.specs.declared.needs.Needs.{Needs}
pub use Rattle.std.specs.Prelude.{IfOk}
pub use Rattle.template_tree.specs.View.{body_tree as template_body}
pub use Rattle.bicep_declared.specs.View.{body_tree}
pub use Rattle.bicep_meaning.specs.Files.{type_of}
pub use Rattle.bicep_meaning.specs.Instances.{resource_kind}
pub use Rattle.emitted_resources.specs.Filled.{IsFilled}
pub use Rattle.emitted_resources.specs.Resources.{IsHead}
pub use Rattle.emitted_resources.specs.Seen.{Shape, file_in, whole_in}

-- what declares the resource of a number, as if it were put
abbrev pub IsDeclared : Shape → ℕ → BodyTree → List ℕ → Needs → Declaration → Type 0
IsDeclared s n b x needs d = IsHead (whole_in s) n b.each (resource_kind (file_in s) n) x needs d

-- what declares an existing resource: the same, but that it exists
pub record IsExistingHead (s : Shape) (n : ℕ) (b : BodyTree) (x : List ℕ) (needs : Needs) (d : Declaration)
    : Type 0 where
  pub declaration : Declaration
  pub head : IsDeclared s n b x needs declaration
  pub is : d ≡ record declaration { existing = true }

-- a body without members
abbrev pub IsEmpty : Body → Type 0
IsEmpty b = b ≡ body_members []
