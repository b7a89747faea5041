-- The parameters that a template has for those of a file, without their defaults.
use Rattle.std.specs.Prelude.{◌≡◌, ◌≤◌, ℕ, List, Option, Some, None, is_none, option_map}
use Rattle.std.specs.Prelude.{slice_get}
use Rattle.std.specs.List.{AllByRecursion}
use Rattle.arm_value.specs.Json.{Json}
use Rattle.arm_value.specs.View.{json}
use Rattle.template_parts.specs.declared.parameter.Parameter.{Parameter}
use Rattle.template_parameters.specs.Rule.{breach}
use Rattle.bicep_tree.specs.declared.leaf.TypeName.{TypeName}
use Rattle.bicep_tree.specs.Nesting.{deepest_decorator}
use Rattle.bicep_tree.specs.Tree.{DecoratorTrees, FileTree}
use Rattle.bicep_symbols.specs.Entries.{Symbol}
use Rattle.bicep_declared.specs.Declarations.{DeclaredTree}
use Rattle.bicep_meaning.specs.Files.{SourceFile}
use Rattle.symbol_decorators.specs.Decorators.{decorators_of}
use Rattle.parameter_rules.specs.Metadata.{metadata_of}
use Rattle.parameter_rules.specs.Rules.{type_of, or_no, accepts}

-- no symbol has decorators that nest deeper
abbrev pub AllNest : List DecoratorTrees → Type 0
AllNest xs = AllByRecursion (λ ds. deepest_decorator ds ≤ 119) xs

-- the parameter of that name and type and with these decorators
pub record IsOf (name : List ℕ) (t : TypeName) (ds : DecoratorTrees) (q : Parameter) : Type 0 where
  pub name_is : q.name ≡ name
  pub default : q.default_value ≡ None
  pub rule : (j : Json) → is_none (breach q j) ≡ accepts t ds j
  pub metadata : option_map json q.metadata ≡ metadata_of ds

-- there is one exactly where there is a name
abbrev pub IsNamed : Option (List ℕ) → TypeName → DecoratorTrees → Option Parameter → Type 0
IsNamed (Some x) t ds (Some q) = IsOf x t ds q
IsNamed (Some x) t ds None = ⊥
IsNamed None t ds (Some q) = ⊥
IsNamed None t ds None = Unit {0}

-- what is no parameter has none
abbrev pub IsTyped : Option (List ℕ) → Option TypeName → DecoratorTrees → Option Parameter → Type 0
IsTyped name (Some t) ds o = IsNamed name t ds o
IsTyped name None ds (Some q) = ⊥
IsTyped name None ds None = Unit {0}

-- the parameter of a number, by the symbols, the declarations and the decorators of a file
abbrev pub IsParameter : List Symbol → List DeclaredTree → List DecoratorTrees → ℕ → Option Parameter → Type 0
IsParameter ss ds xs n o =
    IsTyped (option_map (λ s. s.1) (slice_get ss n)) (type_of (slice_get ds n)) (or_no (slice_get xs n)) o

abbrev pub IsParameterAt : FileTree → SourceFile → ℕ → Option Parameter → Type 0
IsParameterAt t f n o = IsParameter f.symbols f.declared.declarations (decorators_of t) n o
