-- Whether an expression reads state. A field that is not known from a declaration reads it, and so does an output of a
-- module. A variable does where its value does, and the id or the name of a resource or a module where the expressions
-- of these names do.
use Rattle.std.specs.Prelude.{ℕ, ◌||◌, Bool, true, false, List, ◌∷◌, slice_index_or}
use Rattle.bicep_resolved.specs.declared.leaf.Field.{Field}
use Rattle.bicep_resolved.specs.declared.leaf.Field.TheVariants as f
use Rattle.bicep_resolved.specs.declared.leaf.Meaning.{Meaning}
use Rattle.bicep_resolved.specs.declared.leaf.Meaning.TheVariants as m
use Rattle.bicep_resolved.specs.declared.leaf.Target.{Target}
use Rattle.bicep_resolved.specs.declared.leaf.Target.TheVariants as t
use Rattle.bicep_resolved.specs.Source.{SourceTree, SourceTrees, PieceTrees, ReachTree, PropertyTrees, ValueTree}
use Rattle.bicep_resolved.specs.Source.{LoopTree}
use Rattle.bicep_resolved.specs.Source as s
use Rattle.bicep_resolved.specs.Target.{target_of}

-- what is known of the symbols of a file, by their numbers
pub record StateReads : Type 0 where
  -- whether the value of a variable, or the name of a resource or a module, reads state
  pub own : ℕ → Bool
  -- whether the name of a resource reads state, or that of one of its parents
  pub whole : ℕ → Bool

-- a name inside loops; for each of these, the nearest first, whether its items read state
abbrev pub name_reads : StateReads → Meaning → List Bool → Bool
name_reads r (m.Parameter n) items = false
name_reads r (m.Variable n) items = r.own n
name_reads r (m.Item n) items = slice_index_or items n false
name_reads r (m.Index n) items = false

-- a field of the resource of that number
abbrev pub resource_field_reads : StateReads → ℕ → Field → Bool
resource_field_reads r n f.Id = r.whole n
resource_field_reads r n f.Name = r.own n
resource_field_reads r n f.Type = false
resource_field_reads r n f.ApiVersion = false
resource_field_reads r n f.Properties = true
resource_field_reads r n f.Outputs = true
resource_field_reads r n (f.Other name) = true

-- a field of the module of that number; its outputs are no fields
abbrev pub module_field_reads : StateReads → ℕ → Field → Bool
module_field_reads r n f.Id = false
module_field_reads r n f.Name = r.own n
module_field_reads r n f.Type = false
module_field_reads r n f.ApiVersion = false
module_field_reads r n f.Properties = false
module_field_reads r n f.Outputs = false
module_field_reads r n (f.Other name) = false

abbrev pub field_reads : StateReads → Target → Field → Bool
field_reads r (t.Resource n) x = resource_field_reads r n x
field_reads r (t.ResourceLoop n) x = resource_field_reads r n x
field_reads r (t.Module n file) x = module_field_reads r n x
field_reads r (t.ModuleLoop n file) x = module_field_reads r n x

abbrev mutual
  -- an expression inside loops
  pub reads_state : StateReads → SourceTree → List Bool → Bool
  reads_state r (s.name at x) items = name_reads r x items
  reads_state r (s.literal at v) items = false
  reads_state r (s.interpolated at first ps) items = piece_reads r ps items
  reads_state r (s.object at ps) items = property_reads r ps items
  reads_state r (s.array at es) items = any_reads r es items
  reads_state r (s.call at g es) items = any_reads r es items
  reads_state r (s.instance x) items = reach_reads r x items
  reads_state r (s.field x at g) items = reach_reads r x items || field_reads r (target_of x) g
  reads_state r (s.output x at k) items = true
  reads_state r (s.member e k n) items = reads_state r e items
  reads_state r (s.index e k i) items = reads_state r e items || reads_state r i items
  reads_state r (s.prefixed at p e) items = reads_state r e items
  reads_state r (s.binary o a b) items = reads_state r a items || reads_state r b items
  reads_state r (s.conditional c a b) items =
      reads_state r c items || (reads_state r a items || reads_state r b items)

  -- a resource or a module by itself does not; in `s[e]` it does where e does
  pub reach_reads : StateReads → ReachTree → List Bool → Bool
  reach_reads r (s.symbol at x) items = false
  reach_reads r (s.element at x e) items = reads_state r e items

  pub any_reads : StateReads → SourceTrees → List Bool → Bool
  any_reads r s.none items = false
  any_reads r (s.more e es) items = reads_state r e items || any_reads r es items

  pub piece_reads : StateReads → PieceTrees → List Bool → Bool
  piece_reads r s.no_piece items = false
  piece_reads r (s.piece e after ps) items = reads_state r e items || piece_reads r ps items

  pub property_reads : StateReads → PropertyTrees → List Bool → Bool
  property_reads r s.no_property items = false
  property_reads r (s.property at name v ps) items = value_reads r v items || property_reads r ps items

  -- the value of a variable, an output or a property; the items of a loop read state where what it runs over does
  pub value_reads : StateReads → ValueTree → List Bool → Bool
  value_reads r (s.plain e) items = reads_state r e items
  value_reads r (s.each l e) items = loop_reads r l items || reads_state r e (loop_reads r l items ∷ items)

  -- what a loop runs over
  pub loop_reads : StateReads → LoopTree → List Bool → Bool
  loop_reads r (s.loop at over) items = reads_state r over items
