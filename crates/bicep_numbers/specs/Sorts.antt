-- What sort of declaration a symbol has, and where its name is.
use Rattle.std.specs.Prelude.{ℕ, Option, Some, None}
use Rattle.bicep_resolved.specs.Source.{LoopTree}
use Rattle.bicep_names.specs.declared.kind.Kind.{Kind}
use Rattle.bicep_names.specs.declared.kind.Kind.TheVariants as k
use Rattle.bicep_symbols.specs.Entries.{Symbol}
use Rattle.bicep_circles.specs.Declarations.{DeclaredTree}
use Rattle.bicep_circles.specs.Declarations as d

pub data Sort : Type 0 where
  a_parameter : Sort
  a_variable : Sort
  one_resource : Sort
  -- the resources of a loop
  resources : Sort
  one_module : Sort
  -- the modules of a loop
  modules : Sort

abbrev pub kind_sort : Kind → Sort
kind_sort k.Parameter = a_parameter
kind_sort k.Variable = a_variable
kind_sort (k.Resource inside) = one_resource
kind_sort (k.ResourceLoop inside) = resources
kind_sort (k.Module file) = one_module
kind_sort (k.ModuleLoop file) = modules

-- the offset of the name of a symbol, and its sort
abbrev pub symbol_sort : Symbol → ℕ × Sort
symbol_sort s = (s.0, kind_sort s.2)

abbrev pub resource_sort : Option LoopTree → Sort
resource_sort None = one_resource
resource_sort (Some l) = resources

abbrev pub module_sort : Option LoopTree → Sort
module_sort None = one_module
module_sort (Some l) = modules

-- the offset of the name of a declaration, and its sort
abbrev pub declared_sort : DeclaredTree → ℕ × Sort
declared_sort (d.parameter at t) = (at, a_parameter)
declared_sort (d.parameter_with at t e) = (at, a_parameter)
declared_sort (d.variable at v) = (at, a_variable)
declared_sort (d.a_resource at q existing b) = (at, resource_sort b.each)
declared_sort (d.a_module at b) = (at, module_sort b.each)
