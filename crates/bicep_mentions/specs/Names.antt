-- Whether the names of resources and modules read state, and the values of variables.
use Rattle.std.specs.Prelude.{ℕ, ◌||◌, Bool, false, List, [], ◌∷◌, Option, Some, None, codes}
use Rattle.bicep_resolved.specs.Source.{ReachTree, ValueTree, LoopTree, field_named}
use Rattle.bicep_resolved.specs.Source as s
use Rattle.bicep_resolved.specs.Target.{number_of, target_of}
use Rattle.bicep_circles.specs.Kind.{Kind}
use Rattle.bicep_circles.specs.Kind.TheVariants as k
use Rattle.bicep_circles.specs.Resolve.{reach_in}
use Rattle.bicep_circles.specs.Declarations.{BodyTree, DeclaredTree}
use Rattle.bicep_circles.specs.Declarations as d
use Rattle.bicep_mentions.specs.States.{StateReads, reads_state, value_reads, loop_reads}

-- for the loop of a body, where it has one, whether its items read state
abbrev pub body_items : StateReads → Option LoopTree → List Bool
body_items r None = []
body_items r (Some l) = loop_reads r l [] ∷ []

abbrev pub field_value_reads : StateReads → Option ValueTree → List Bool → Bool
field_value_reads r None items = false
field_value_reads r (Some v) items = value_reads r v items

-- the name of a resource or a module; a module without one is named as its symbol
abbrev pub body_name_reads : StateReads → BodyTree → Bool
body_name_reads r b = field_value_reads r (field_named (codes "name") b.fields) (body_items r b.each)

-- the value of a variable, or the name of a resource or a module
abbrev pub own_reads : StateReads → DeclaredTree → Bool
own_reads r (d.parameter at t) = false
own_reads r (d.parameter_with at t e) = false
own_reads r (d.variable at v) = value_reads r v []
own_reads r (d.a_resource at q existing b) = body_name_reads r b
own_reads r (d.a_module at b) = body_name_reads r b

abbrev pub whole_of : StateReads → Option ℕ → Bool
whole_of r None = false
whole_of r (Some n) = r.whole n

-- the resource in which one of that kind is nested
abbrev pub around_reads : StateReads → Kind → Bool
around_reads r k.Parameter = false
around_reads r k.Variable = false
around_reads r (k.Resource inside) = whole_of r inside
around_reads r (k.ResourceLoop inside) = whole_of r inside
around_reads r (k.Module file) = false
around_reads r (k.ModuleLoop file) = false

abbrev pub reach_whole : StateReads → Option ReachTree → Bool
reach_whole r None = false
reach_whole r (Some x) = r.whole (number_of (target_of x))

-- the resource of the field `parent`
abbrev pub parent_value : StateReads → ValueTree → List Bool → Bool
parent_value r (s.plain e) items = reach_whole r (reach_in e) || reads_state r e items
parent_value r (s.each l e) items = false

abbrev pub parent_value_reads : StateReads → Option ValueTree → List Bool → Bool
parent_value_reads r None items = false
parent_value_reads r (Some v) items = parent_value r v items

abbrev pub body_parent_reads : StateReads → BodyTree → Bool
body_parent_reads r b = parent_value_reads r (field_named (codes "parent") b.fields) (body_items r b.each)

abbrev pub parent_reads : StateReads → DeclaredTree → Bool
parent_reads r (d.parameter at t) = false
parent_reads r (d.parameter_with at t e) = false
parent_reads r (d.variable at v) = false
parent_reads r (d.a_resource at q existing b) = body_parent_reads r b
parent_reads r (d.a_module at b) = false

-- the name of a resource, and those of its parents
abbrev pub whole_reads : StateReads → Kind → DeclaredTree → Bool
whole_reads r x d = own_reads r d || (around_reads r x || parent_reads r d)
