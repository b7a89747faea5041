-- The type of an expression, or the place of the first part that does not fit.
use Rattle.std.specs.Prelude.{ℕ, suc, Option, Some, None, is_some, Result, Ok, Err, if◌then◌else◌}
use Rattle.bicep_resolved.specs.declared.leaf.Target.{Target}
use Rattle.bicep_resolved.specs.declared.leaf.Target.TheVariants as target
use Rattle.bicep_resolved.specs.Source.{SourceTree, SourceTrees, PieceTrees, ReachTree, PropertyTrees, ValueTree}
use Rattle.bicep_resolved.specs.Source as s
use Rattle.bicep_resolved.specs.Place.{offset, reach_offset}
use Rattle.bicep_resolved.specs.Target.{target_of}
use Rattle.bicep_signatures.specs.declared.kinds.Kinds.TheVariants as kind
use Rattle.bicep_signatures.specs.declared.signature.Signatures.{Signatures}
use Rattle.bicep_signatures.specs.declared.value_type.ValueType.TheVariants as type
use Rattle.bicep_signatures.specs.Signatures.{left_after, result_of}
use Rattle.bicep_signatures.specs.Table.{signatures_of}
use Rattle.bicep_typing.specs.Typed.{Typed, Fitting, all_fit, before, wanted, always, or_place}
use Rattle.bicep_typing.specs.Operators.{literal_type, prefix_type, operator_type, conditional_type, member_type}
use Rattle.bicep_typing.specs.Operators.{element_type, each_type}
use Rattle.bicep_typing.specs.Names.{Types, name_type, field_type, output_type}

-- how many expressions there are
abbrev pub count : SourceTrees → ℕ
count s.none = 0
count (s.more e es) = suc (count es)

-- the ways to call a function that are left, where one takes the argument at a place
abbrev pub some_left : Signatures → ℕ → Result Signatures ℕ
some_left ways at = if is_some (result_of ways) then Ok ways else Err at

-- the ways that are left after an argument at a place, where there were some before it
unfoldable pub taken : Result Signatures ℕ → ℕ → Typed → Result Signatures ℕ
taken (Ok ways) at (Ok t) = some_left (left_after ways t) at
taken (Ok ways) at (Err fault) = Err fault
taken (Err fault) at x = Err fault

-- the type of the values of a function that is called at a place in one of these ways
unfoldable pub value_of_ways : Result Signatures ℕ → ℕ → Typed
value_of_ways (Ok ways) at = or_place (result_of ways) at
value_of_ways (Err fault) at = Err fault

-- the ways to call a function at a place, where there are some
unfoldable pub ways_at : Option Signatures → ℕ → Result Signatures ℕ
ways_at (Some ways) at = Ok ways
ways_at None at = Err at

-- a resource or module by its symbol, which is at a place: one that is no loop
unfoldable pub single : ℕ → Target → Fitting
single at (target.Resource n) = all_fit
single at (target.Module n file) = all_fit
single at (target.ResourceLoop n) = Err at
single at (target.ModuleLoop n file) = Err at

-- the index of an element, which is at a place
abbrev pub indexed : ℕ → Typed → Fitting
indexed at x = before (wanted kind.Int at x) all_fit

-- an element of the loop of a symbol, which is at a place; its index is at another
unfoldable pub element_of : ℕ → Target → ℕ → Typed → Fitting
element_of at (target.ResourceLoop n) b y = indexed b y
element_of at (target.ModuleLoop n file) b y = indexed b y
element_of at (target.Resource n) b y = Err at
element_of at (target.Module n file) b y = Err at

-- Parts are looked at from left to right. A resource or a module by itself has no type.
abbrev mutual
  pub type_of : Types → SourceTree → Typed
  type_of ts (s.name at x) = Ok (name_type ts.symbols x)
  type_of ts (s.literal at v) = Ok (literal_type v)
  type_of ts (s.interpolated at first ps) = always type.Text (holes_fit ts ps)
  type_of ts (s.object at ps) = always type.Object (properties_fit ts ps)
  type_of ts (s.array at es) = always type.Array (members_fit ts es)
  type_of ts (s.call at name es) =
      value_of_ways (arguments_left ts es (ways_at (signatures_of name (count es)) at)) at
  type_of ts (s.instance r) = Err (reach_offset r)
  type_of ts (s.field r at f) = before (reach_fits ts r) (field_type (target_of r) at f)
  type_of ts (s.output r at k) = before (reach_fits ts r) (output_type ts.outputs (target_of r) at k)
  type_of ts (s.member e k n) = member_type k (offset e) (type_of ts e)
  type_of ts (s.index e k i) = element_type k (offset e) (type_of ts e) (offset i) (type_of ts i)
  type_of ts (s.prefixed at p e) = prefix_type p (offset e) (type_of ts e)
  type_of ts (s.binary o a b) = operator_type o (offset a) (type_of ts a) (offset b) (type_of ts b)
  type_of ts (s.conditional c a b) = conditional_type (offset c) (type_of ts c) (type_of ts a) (type_of ts b)

  -- the ways to call a function that are left after its arguments
  pub arguments_left : Types → SourceTrees → Result Signatures ℕ → Result Signatures ℕ
  arguments_left ts s.none ways = ways
  arguments_left ts (s.more e es) ways = arguments_left ts es (taken ways (offset e) (type_of ts e))

  pub members_fit : Types → SourceTrees → Fitting
  members_fit ts s.none = all_fit
  members_fit ts (s.more e es) = before (type_of ts e) (members_fit ts es)

  pub holes_fit : Types → PieceTrees → Fitting
  holes_fit ts s.no_piece = all_fit
  holes_fit ts (s.piece e after ps) = before (type_of ts e) (holes_fit ts ps)

  pub properties_fit : Types → PropertyTrees → Fitting
  properties_fit ts s.no_property = all_fit
  properties_fit ts (s.property at name v ps) = before (value_type ts v) (properties_fit ts ps)

  pub value_type : Types → ValueTree → Typed
  value_type ts (s.plain e) = type_of ts e
  value_type ts (s.each (s.loop at over) e) = each_type (offset over) (type_of ts over) (type_of ts e)

  pub reach_fits : Types → ReachTree → Fitting
  reach_fits ts (s.symbol at x) = single at x
  reach_fits ts (s.element at x e) = element_of at x (offset e) (type_of ts e)
