-- The arguments of modules.
use Rattle.std.specs.Prelude.{◌≡◌, ℕ, Bool, List, Option, Some, Result, Ok, Err, codes, is_some, if◌then◌else◌}
use Rattle.std.specs.declared.alloc.AllocError.{AllocError}
use Rattle.arm_value.specs.Look.{fold}
use Rattle.template_parts.specs.declared.content.Argument.{Argument}
use Rattle.named_parts.specs.Found.{found}
use Rattle.named_parts.specs.Order.{AreInOrder, inserted}
use Rattle.bicep_resolved.specs.Source.{PropertyTrees, ValueTree, field_named}
use Rattle.bicep_resolved.specs.Source as s
use Rattle.bicep_meaning.specs.Instances.{argument_named}
use Rattle.bicep_emission.specs.Emitted.{Frame}
use Rattle.emitted_expressions.specs.Sight.{Sight}
use Rattle.emitted_resources.specs.Values.{AreBoth, IsContent}
use Rattle.emitted_trees.specs.Templates.{TemplateValue}
use Rattle.emitted_resources.specs.Buildable.{MayBeBuilt}
use Rattle.emitted_resources.specs.Extremes.{Extremes, nothing, joined, value_extremes}
use Rattle.emitted_resources.specs.Sight as spec

-- the members of an object that is plain; what is none has none
abbrev pub object_members : Option ValueTree → PropertyTrees
object_members (Some (s.plain (s.object at ps))) = ps
object_members o = s.no_property

-- the arguments of a module with these fields
abbrev pub arguments_in : PropertyTrees → PropertyTrees
arguments_in fields = object_members (field_named (codes "params") fields)

-- what an argument becomes: a loop has the name `value`
abbrev pub argument_value : Sight → ValueTree → List Frame → TemplateValue
argument_value w v fs = spec.value w (Some (codes "value")) v fs

abbrev pub argument_name : Argument → List ℕ
argument_name a = a.name

-- whether one of these has the name, but for the case of ASCII letters
abbrev pub has_argument : List ℕ → List Argument → Bool
has_argument x xs = is_some (found argument_name (fold x) xs)

-- these arguments with one more in its place by its name, where none of them has its name
abbrev pub with_first : Argument → List Argument → List Argument
with_first a xs = if has_argument a.name xs then xs else inserted argument_name a xs

abbrev pub IsNext : List Argument → Result Argument AllocError → List Argument → Type 0
IsNext xs (Ok a) bs = bs ≡ with_first a xs
IsNext xs (Err e) bs = ⊥

module _ (w : Sight) (fs : List Frame) where
  -- each argument is within the limits of templates
  abbrev pub ArgumentsFit : PropertyTrees → Type 0
  ArgumentsFit s.no_property = Unit {0}
  ArgumentsFit (s.property at name v ps) = MayBeBuilt (argument_value w v fs) × ArgumentsFit ps

  -- an argument of that name and value
  pub record IsArgumentOf (x : List ℕ) (v : ValueTree) (a : Argument) : Type 0 where
    pub name : a.name ≡ x
    pub content : IsContent (argument_value w v fs) a.content

  -- in byte order of their names, and one for each name that members have, but for the case of ASCII letters: the
  -- first member of a name counts
  pub record AreArguments (ps : PropertyTrees) (xs : List Argument) : Type 0 where
    pub order : AreInOrder argument_name xs
    pub values : (x : List ℕ)
        → AreBoth (λ v a. IsContent (argument_value w v fs) a.content) (argument_named x ps) (found argument_name x xs)

  -- what they take of the limits
  abbrev pub arguments_extremes : PropertyTrees → Extremes
  arguments_extremes s.no_property = nothing
  arguments_extremes (s.property at name v ps) =
      joined (value_extremes (argument_value w v fs)) (arguments_extremes ps)
