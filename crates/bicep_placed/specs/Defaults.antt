-- What the default of a parameter may not mention: variables, resources and modules.
use Rattle.std.specs.Prelude.{ℕ, Option, Some, None}
use Rattle.bicep_resolved.specs.declared.leaf.Meaning.{Meaning}
use Rattle.bicep_resolved.specs.declared.leaf.Meaning.TheVariants as m
use Rattle.bicep_resolved.specs.Place.{reach_offset}
use Rattle.bicep_resolved.specs.Source.{SourceTree, SourceTrees, PieceTrees, PropertyTrees, ValueTree, LoopTree}
use Rattle.bicep_resolved.specs.Source as s
use Rattle.foundation.specs.Options.{or_else}

abbrev pub variable_at : ℕ → Meaning → Option ℕ
variable_at at (m.Parameter n) = None
variable_at at (m.Variable n) = Some at
variable_at at (m.Item n) = None
variable_at at (m.Index n) = None

abbrev mutual
  -- the first variable, resource or module that an expression mentions
  pub mention_in : SourceTree → Option ℕ
  mention_in (s.name at x) = variable_at at x
  mention_in (s.literal at v) = None
  mention_in (s.interpolated at first ps) = mention_in_pieces ps
  mention_in (s.object at ps) = mention_in_properties ps
  mention_in (s.array at es) = mention_in_all es
  mention_in (s.call at r es) = mention_in_all es
  mention_in (s.instance r) = Some (reach_offset r)
  mention_in (s.field r at f) = Some (reach_offset r)
  mention_in (s.output r at k) = Some (reach_offset r)
  mention_in (s.member e k n) = mention_in e
  mention_in (s.index e k i) = or_else (mention_in e) (mention_in i)
  mention_in (s.prefixed at p e) = mention_in e
  mention_in (s.binary o a b) = or_else (mention_in a) (mention_in b)
  mention_in (s.conditional c a b) = or_else (mention_in c) (or_else (mention_in a) (mention_in b))

  pub mention_in_all : SourceTrees → Option ℕ
  mention_in_all s.none = None
  mention_in_all (s.more e es) = or_else (mention_in e) (mention_in_all es)

  pub mention_in_pieces : PieceTrees → Option ℕ
  mention_in_pieces s.no_piece = None
  mention_in_pieces (s.piece e after ps) = or_else (mention_in e) (mention_in_pieces ps)

  pub mention_in_properties : PropertyTrees → Option ℕ
  mention_in_properties s.no_property = None
  mention_in_properties (s.property at name v ps) = or_else (mention_in_value v) (mention_in_properties ps)

  pub mention_in_value : ValueTree → Option ℕ
  mention_in_value (s.plain e) = mention_in e
  mention_in_value (s.each l e) = or_else (mention_in_loop l) (mention_in e)

  pub mention_in_loop : LoopTree → Option ℕ
  mention_in_loop (s.loop at over) = mention_in over
