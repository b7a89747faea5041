-- For-expressions in the names of resources and modules.
use Rattle.std.specs.Prelude.{ℕ, Option, Some, None}
use Rattle.bicep_resolved.specs.Place.{loop_offset}
use Rattle.bicep_resolved.specs.Source.{SourceTree, SourceTrees, PropertyTrees, ValueTree}
use Rattle.bicep_resolved.specs.Source as s
use Rattle.foundation.specs.Options.{or_else}

-- The first for-expression in a value, by the offset of its `[`. Only objects and arrays are looked into: anywhere else
-- in a field a for-expression is misplaced, whatever names stand for
abbrev mutual
  pub loop_in : SourceTree → Option ℕ
  loop_in (s.name at x) = None
  loop_in (s.literal at v) = None
  loop_in (s.interpolated at first ps) = None
  loop_in (s.object at ps) = loop_in_members ps
  loop_in (s.array at es) = loop_in_all es
  loop_in (s.call at name es) = None
  loop_in (s.instance r) = None
  loop_in (s.field r at f) = None
  loop_in (s.output r at k) = None
  loop_in (s.member e k n) = None
  loop_in (s.index e k i) = None
  loop_in (s.prefixed at p e) = None
  loop_in (s.binary o a b) = None
  loop_in (s.conditional c a b) = None

  pub loop_in_all : SourceTrees → Option ℕ
  loop_in_all s.none = None
  loop_in_all (s.more e es) = or_else (loop_in e) (loop_in_all es)

  pub loop_in_members : PropertyTrees → Option ℕ
  loop_in_members s.no_property = None
  loop_in_members (s.property at name v ps) = or_else (loop_in_value v) (loop_in_members ps)

  pub loop_in_value : ValueTree → Option ℕ
  loop_in_value (s.plain e) = loop_in e
  loop_in_value (s.each l e) = Some (loop_offset l)
