-- Which types fit the places of declarations.
use Rattle.std.specs.Prelude.{ℕ, List, Option, Some, None, Result, Ok, Err}
use Rattle.bicep_tree.specs.declared.leaf.TypeName.{TypeName}
use Rattle.bicep_tree.specs.declared.leaf.TypeName.TheVariants as n
use Rattle.bicep_resolved.specs.Source.{SourceTree, SourceTrees, ReachTree, ValueTree, LoopTree}
use Rattle.bicep_resolved.specs.Source as s
use Rattle.bicep_resolved.specs.Place.{offset, value_offset}
use Rattle.bicep_signatures.specs.declared.kinds.Kinds.{Kinds}
use Rattle.bicep_signatures.specs.declared.kinds.Kinds.TheVariants as k
use Rattle.bicep_signatures.specs.declared.value_type.ValueType.{ValueType}
use Rattle.bicep_typing.specs.Typed.{Typed, Fitting, all_fit, before, wanted}
use Rattle.bicep_typing.specs.Names.{Types}
use Rattle.bicep_typing.specs.Typing.{type_of, value_type, reach_fits}

-- the kinds of values of a declared type
abbrev pub kinds_of : TypeName → Kinds
kinds_of n.String = k.Text
kinds_of n.Int = k.Int
kinds_of n.Bool = k.Bool
kinds_of n.Object = k.Object
kinds_of n.Array = k.Array

-- that there is a type
abbrev pub typed : Typed → Fitting
typed x = before x all_fit

-- an expression where kinds of values are taken
abbrev pub expression_fits : Types → Kinds → SourceTree → Fitting
expression_fits ts ks e = typed (wanted ks (offset e) (type_of ts e))

-- a value where kinds of values are taken
abbrev pub value_fits : Types → Kinds → ValueTree → Fitting
value_fits ts ks v = typed (wanted ks (value_offset v) (value_type ts v))

-- a loop runs over an array
abbrev pub loop_fits : Types → Option LoopTree → Fitting
loop_fits ts None = all_fit
loop_fits ts (Some (s.loop at over)) = expression_fits ts k.Array over

-- a condition is a truth value
abbrev pub condition_fits : Types → Option SourceTree → Fitting
condition_fits ts None = all_fit
condition_fits ts (Some e) = expression_fits ts k.Bool e

-- a resource or a module to which another is linked: by its symbol, or an element of a loop
abbrev pub link_fits : Types → ReachTree → Fitting
link_fits ts (s.symbol at x) = all_fit
link_fits ts (s.element at x e) = reach_fits ts (s.element at x e)

-- an expression that may be a resource or a module
abbrev pub linked_fits : Types → SourceTree → Fitting
linked_fits ts (s.instance r) = link_fits ts r
linked_fits ts e = typed (type_of ts e)

abbrev pub all_linked_fit : Types → SourceTrees → Fitting
all_linked_fit ts s.none = all_fit
all_linked_fit ts (s.more e es) = before (linked_fits ts e) (all_linked_fit ts es)

-- the value of `parent`
abbrev pub parent_fits : Types → ValueTree → Fitting
parent_fits ts (s.plain e) = linked_fits ts e
parent_fits ts (s.each l e) = typed (value_type ts (s.each l e))

abbrev pub links_fit : Types → SourceTree → Fitting
links_fit ts (s.array at es) = all_linked_fit ts es
links_fit ts e = typed (type_of ts e)

-- the value of `dependsOn`
abbrev pub dependents_fit : Types → ValueTree → Fitting
dependents_fit ts (s.plain e) = links_fit ts e
dependents_fit ts (s.each l e) = typed (value_type ts (s.each l e))
