-- What holds of modules that are built.
use Rattle.std.specs.Prelude.{◌≡◌, ℕ, List, Some, None}
use Rattle.template_parts.specs.declared.declaration.Declaration.{Declaration}
use Rattle.template_tree.specs.Tree as template
use Rattle.plan_cells.specs.Resources.{listed_at}
use Rattle.bicep_declared.specs.Declarations.{BodyTree, a_module}
use Rattle.bicep_meaning.specs.Files.{declaration, symbol_name}
use Rattle.bicep_meaning.specs.Instances.{module_kind}
use Rattle.emitted_resources.specs.Files.{IsResource}
use Rattle.emitted_resources.specs.Seen.{Shape, file_in, files_in, whole_in}
use Rattle.emitted_resources.specs.Limits.{HeadIsWithin}
use Rattle.emitted_resources.specs.Resources.{IsHead}
use Rattle.emitted_modules.specs.Modules.{Needed, IsDeployment, module_put}

-- a module that is built, is no child, and whose name, condition and count are within the limits of templates, is that
-- of its declaration
abbrev pub BuiltModulesAreEmitted : Type 0
BuiltModulesAreEmitted =
    (s : Shape) (n at : ℕ) (b : BodyTree) (symbol : List ℕ) (needs : Needed) (u : template.TemplateTree)
    (d : Declaration) (x : template.BodyTree) → declaration (file_in s) n ≡ Some (a_module at b)
    → symbol_name (file_in s) n ≡ Some symbol → needs.batches ≡ (file_in s).batches n
    → IsHead (whole_in s) n b.each module_kind symbol needs d → IsDeployment s n b u x
    → HeadIsWithin (whole_in s) n b.each
    → IsResource (files_in s) (file_in s) (module_put n b) (listed_at None d x)
