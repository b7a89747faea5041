-- The symbols that a declaration mentions in its expressions, by their numbers, once for each place.
use Rattle.std.specs.Prelude.{ℕ, List, [], ◌∷◌, ◌++◌, Option, Some, None}
use Rattle.bicep_resolved.specs.declared.leaf.Meaning.{Meaning}
use Rattle.bicep_resolved.specs.declared.leaf.Meaning.TheVariants as m
use Rattle.bicep_resolved.specs.Source.{SourceTree, SourceTrees, PieceTrees, ReachTree, PropertyTrees, ValueTree}
use Rattle.bicep_resolved.specs.Source.{LoopTree}
use Rattle.bicep_resolved.specs.Source as s
use Rattle.bicep_resolved.specs.Target.{number_of}
use Rattle.bicep_declared.specs.Declarations.{BodyTree, DeclaredTree}
use Rattle.bicep_declared.specs.Declarations as d

-- a name; the items and the indices of loops are no symbols
abbrev pub name_mentions : Meaning → List ℕ
name_mentions (m.Parameter n) = n ∷ []
name_mentions (m.Variable n) = n ∷ []
name_mentions (m.Item n) = []
name_mentions (m.Index n) = []

abbrev mutual
  -- an expression
  pub mentions : SourceTree → List ℕ
  mentions (s.name at x) = name_mentions x
  mentions (s.literal at v) = []
  mentions (s.interpolated at first ps) = piece_mentions ps
  mentions (s.object at ps) = property_mentions ps
  mentions (s.array at es) = all_mentions es
  mentions (s.call at r es) = all_mentions es
  mentions (s.instance r) = reach_mentions r
  mentions (s.field r at f) = reach_mentions r
  mentions (s.output r at k) = reach_mentions r
  mentions (s.member e k n) = mentions e
  mentions (s.index e k i) = mentions e ++ mentions i
  mentions (s.prefixed at p e) = mentions e
  mentions (s.binary o a b) = mentions a ++ mentions b
  mentions (s.conditional c a b) = mentions c ++ (mentions a ++ mentions b)

  -- a resource or a module, or an element of its loop
  pub reach_mentions : ReachTree → List ℕ
  reach_mentions (s.symbol at x) = number_of x ∷ []
  reach_mentions (s.element at x e) = number_of x ∷ mentions e

  pub all_mentions : SourceTrees → List ℕ
  all_mentions s.none = []
  all_mentions (s.more e es) = mentions e ++ all_mentions es

  pub piece_mentions : PieceTrees → List ℕ
  piece_mentions s.no_piece = []
  piece_mentions (s.piece e after ps) = mentions e ++ piece_mentions ps

  pub property_mentions : PropertyTrees → List ℕ
  property_mentions s.no_property = []
  property_mentions (s.property at name v ps) = value_mentions v ++ property_mentions ps

  -- the value of a variable, an output or a property
  pub value_mentions : ValueTree → List ℕ
  value_mentions (s.plain e) = mentions e
  value_mentions (s.each l e) = loop_mentions l ++ mentions e

  pub loop_mentions : LoopTree → List ℕ
  loop_mentions (s.loop at over) = mentions over

abbrev pub each_mentions : Option LoopTree → List ℕ
each_mentions None = []
each_mentions (Some l) = loop_mentions l

abbrev pub condition_mentions : Option SourceTree → List ℕ
condition_mentions None = []
condition_mentions (Some e) = mentions e

-- the body of a resource or a module
abbrev pub body_mentions : BodyTree → List ℕ
body_mentions b = each_mentions b.each ++ (condition_mentions b.condition ++ property_mentions b.fields)

-- a declaration; resources that are nested in a resource are declarations of their own
abbrev pub declared_mentions : DeclaredTree → List ℕ
declared_mentions (d.parameter at t) = []
declared_mentions (d.parameter_with at t e) = mentions e
declared_mentions (d.variable at v) = value_mentions v
declared_mentions (d.a_resource at q existing b) = body_mentions b
declared_mentions (d.a_module at b) = body_mentions b
