-- When the resources of the template of a file can be read back.
use Rattle.std.specs.Prelude.{ℕ, true, false, Option, Some}
use Rattle.template_parts.specs.declared.mode.Form.{Form}
use Rattle.template_parts.specs.declared.mode.Form.TheVariants.{One, Two}
use Rattle.bicep_declared.specs.Declarations.{BodyTree, DeclaredTree}
use Rattle.bicep_declared.specs.Declarations as d
use Rattle.bicep_meaning.specs.Files.{declaration}
use Rattle.emitted_dependencies.specs.Dependencies.{dependencies}
use Rattle.emitted_modules.specs.Seen.{Shape, file_in, files_in, whole_in}
use Rattle.emitted_modules.specs.Limits.{HeadIsWithin, ResourceIsWithin}
use Rattle.emitted_dependencies.specs.Elements.{ElementsAreWithin}

-- each element of `dependsOn` is within the limits of templates
abbrev pub DependenciesAreWithin : Form → Shape → ℕ → Type 0
DependenciesAreWithin z s n = ElementsAreWithin (files_in s) (file_in s) z (dependencies (file_in s) n)

-- so is the name of an existing resource, where the template has it
abbrev pub ExistingIsWithin : Form → Shape → ℕ → BodyTree → Type 0
ExistingIsWithin One s n b = Unit {0}
ExistingIsWithin Two s n b = HeadIsWithin (whole_in s) n b.each

-- so is each expression of the resource or the module of a number, by its declaration
abbrev pub IsWithinBy : Form → Shape → ℕ → Option DeclaredTree → Type 0
IsWithinBy z s n (Some (d.a_resource at q false b)) = ResourceIsWithin s n b × DependenciesAreWithin z s n
IsWithinBy z s n (Some (d.a_resource at q true b)) = ExistingIsWithin z s n b
IsWithinBy z s n (Some (d.a_module at b)) = HeadIsWithin (whole_in s) n b.each × DependenciesAreWithin z s n
IsWithinBy z s n o = Unit {0}

abbrev pub IsWithin : Form → Shape → ℕ → Type 0
IsWithin z s n = IsWithinBy z s n (declaration (file_in s) n)
