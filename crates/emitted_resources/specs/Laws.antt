-- What holds of resources that are built.
use Rattle.std.specs.Prelude.{◌≡◌, ℕ, List, Some, None}
use Rattle.bicep_declared.specs.Declarations.{BodyTree}
use Rattle.bicep_meaning.specs.Files.{symbol_name}
use Rattle.bicep_meaning.specs.Instances.{resource_kind}
use Rattle.template_parts.specs.declared.declaration.Declaration.{Declaration}
use Rattle.template_tree.specs.Tree as template
use Rattle.plan_cells.specs.Resources.{listed_at}
use Rattle.measured_trees.specs.Limits.{IsBeyond}
use Rattle.emitted_values.specs.Files.{IsResource}
use Rattle.emitted_values.specs.Seen.{Shape, file_in, files_in, whole_in}
use Rattle.emitted_resources.specs.Limits.{ResourceIsWithin, MembersFit, members_at, resource_extremes}
use Rattle.emitted_resources.specs.Resources.{IsHead, HasMembers, resource_put}
use Rattle.emitted_resources.specs.declared.needs.Needs.{Needs}

-- a resource that is built, is no child, and whose expressions are within the limits of templates, is that of its
-- declaration
abbrev pub BuiltResourcesAreEmitted : Type 0
BuiltResourcesAreEmitted =
    (s : Shape) (n : ℕ) (b : BodyTree) (symbol : List ℕ) (needs : Needs) (d : Declaration) (x : template.BodyTree)
    → symbol_name (file_in s) n ≡ Some symbol → needs.batches ≡ (file_in s).batches n
    → IsHead (whole_in s) n b.each (resource_kind (file_in s) n) symbol needs d → HasMembers (members_at s n b) x
    → ResourceIsWithin s n b → IsResource (files_in s) (file_in s) (resource_put (file_in s) n b) (listed_at None d x)

-- the members of a resource that is beyond no limit can be built
abbrev pub MeasuredMembersFit : Type 0
MeasuredMembersFit =
    (s : Shape) (n : ℕ) (b : BodyTree) (around : ℕ) → IsBeyond around (resource_extremes s n b) None
    → MembersFit (members_at s n b)
