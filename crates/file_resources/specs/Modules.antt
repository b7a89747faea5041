-- The modules of a file, in the order of its template.
use Rattle.std.specs.Prelude.{ℕ, Bool, true, false, List, Option, Some}
use Rattle.std.specs.List.{filter}
use Rattle.template_parts.specs.declared.mode.Form.{Form}
use Rattle.bicep_declared.specs.Declarations.{DeclaredTree}
use Rattle.bicep_declared.specs.Declarations as d
use Rattle.bicep_meaning.specs.Files.{SourceFile, declaration}
use Rattle.source_worlds.specs.Numbers.{in_template}

-- whether a declaration is that of a module
abbrev pub is_module_by : Option DeclaredTree → Bool
is_module_by (Some (d.a_module at b)) = true
is_module_by o = false

abbrev pub is_module : SourceFile → ℕ → Bool
is_module f n = is_module_by (declaration f n)

-- the numbers of all modules, in the order of the template
abbrev pub modules_in : Form → SourceFile → List ℕ
modules_in z f = filter (is_module f) (in_template z f)
