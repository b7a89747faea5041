-- What `dependsOn` and `parent` may be.
use Rattle.std.specs.Prelude.{ℕ, Bool, true, false, Option, Some, None, if◌then◌else◌}
use Rattle.bicep_resolved.specs.declared.leaf.Target.{Target}
use Rattle.bicep_resolved.specs.declared.leaf.Target.TheVariants as t
use Rattle.bicep_resolved.specs.Place.{offset, loop_offset}
use Rattle.bicep_resolved.specs.Source.{SourceTree, SourceTrees, ReachTree, ValueTree}
use Rattle.bicep_resolved.specs.Source as s
use Rattle.foundation.specs.Options.{or_else}

abbrev pub is_loop : Target → Bool
is_loop (t.Resource n) = false
is_loop (t.ResourceLoop n) = true
is_loop (t.Module n file) = false
is_loop (t.ModuleLoop n file) = true

-- a resource, a module, the symbol of a loop, or an element of a loop
abbrev pub bad_reach : ReachTree → Option ℕ
bad_reach (s.symbol at x) = None
bad_reach (s.element at x e) = if is_loop x then None else Some at

abbrev pub bad_dependency : SourceTree → Option ℕ
bad_dependency (s.instance r) = bad_reach r
bad_dependency e = Some (offset e)

-- the first of these that is none
abbrev pub bad_dependencies : SourceTrees → Option ℕ
bad_dependencies s.none = None
bad_dependencies (s.more e es) = or_else (bad_dependency e) (bad_dependencies es)

abbrev pub bad_list : SourceTree → Option ℕ
bad_list (s.array at es) = bad_dependencies es
bad_list e = Some (offset e)

-- `dependsOn` is an array of these
abbrev pub bad_depends_on : ValueTree → Option ℕ
bad_depends_on (s.plain e) = bad_list e
bad_depends_on (s.each l e) = Some (loop_offset l)

-- a resource that is no loop, or an element of a loop of resources
abbrev pub parent_of_symbol : Target → Option ℕ
parent_of_symbol (t.Resource n) = Some n
parent_of_symbol (t.ResourceLoop n) = None
parent_of_symbol (t.Module n file) = None
parent_of_symbol (t.ModuleLoop n file) = None

abbrev pub parent_of_element : Target → Option ℕ
parent_of_element (t.Resource n) = None
parent_of_element (t.ResourceLoop n) = Some n
parent_of_element (t.Module n file) = None
parent_of_element (t.ModuleLoop n file) = None

abbrev pub parent_reached : ReachTree → Option ℕ
parent_reached (s.symbol at x) = parent_of_symbol x
parent_reached (s.element at x e) = parent_of_element x

abbrev pub parent_in : SourceTree → Option ℕ
parent_in (s.instance r) = parent_reached r
parent_in e = None

-- the number of the resource that a value of `parent` is, where it is one
abbrev pub parent_of : ValueTree → Option ℕ
parent_of (s.plain e) = parent_in e
parent_of (s.each l e) = None
