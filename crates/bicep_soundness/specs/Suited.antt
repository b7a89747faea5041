-- Which values the operations of an expression meet: none of a wrong kind, unless the type of its operand is Any.
use Rattle.std.specs.Prelude.{◌≡◌, ◌⊎◌, ℕ, true, List, ◌∷◌, Option, Some, None, is_some, Ok}
use Rattle.arm_value.specs.Json.{Json}
use Rattle.reading.specs.World.{value_in}
use Rattle.deploy_cells.specs.Cells.{World}
use Rattle.bicep_tree.specs.declared.leaf.Operator.{Operator}
use Rattle.bicep_tree.specs.declared.leaf.Operator.TheVariants as o
use Rattle.bicep_tree.specs.declared.leaf.Prefix.{Prefix}
use Rattle.bicep_tree.specs.declared.leaf.Prefix.TheVariants as prefix
use Rattle.bicep_resolved.specs.Source.{SourceTree, SourceTrees, PieceTrees, ReachTree, PropertyTrees, ValueTree}
use Rattle.bicep_resolved.specs.Source as s
use Rattle.bicep_signatures.specs.declared.kinds.Kinds.{Kinds}
use Rattle.bicep_signatures.specs.declared.kinds.Kinds.TheVariants as kind
use Rattle.bicep_signatures.specs.declared.signature.Signatures.{Signatures}
use Rattle.bicep_signatures.specs.declared.value_type.ValueType.{ValueType}
use Rattle.bicep_signatures.specs.declared.value_type.ValueType.TheVariants as type
use Rattle.bicep_signatures.specs.Signatures.{left_after, result_of}
use Rattle.bicep_signatures.specs.Table.{signatures_of}
use Rattle.bicep_typing.specs.Names.{Types}
use Rattle.bicep_typing.specs.Operators.{comparable, named_in, indexed_in, index_into}
use Rattle.bicep_typing.specs.Typing.{type_of, count}
use Rattle.bicep_meaning.specs.Around.{Here, Frame, Around, run_at}
use Rattle.bicep_meaning.specs.Meaning.{value}
use Rattle.bicep_soundness.specs.Values.{type_of_value, IsOfKinds}

-- one of the ways takes the value as its next argument
abbrev pub TakesNext : Signatures → Json → Type 0
TakesNext ways v = is_some (result_of (left_after ways (type_of_value v))) ≡ true

-- an expression in an instance of a file, by the types of its symbols, in a desired state
module _ (ts : Types) (here : Here) (a : Around) (w : World) where
  -- the type of an operand is Any
  abbrev pub IsAny : SourceTree → Type 0
  IsAny e = type_of ts e ≡ Ok type.Any

  -- an operation that takes these kinds meets none but these, unless the type of its operand is Any
  abbrev pub Meets : Kinds → SourceTree → List Frame → Type 0
  Meets ks e fs = (v : Json) → value_in w (value here a e fs) ≡ Some v → IsOfKinds ks v ⊎ IsAny e

  -- of two values, of which the kinds of the second follow from the type of the first
  abbrev pub MeetsBoth : (ValueType → Kinds) → SourceTree → SourceTree → List Frame → Type 0
  MeetsBoth kinds x y fs =
      (u v : Json) → value_in w (value here a x fs) ≡ Some u → value_in w (value here a y fs) ≡ Some v
      → IsOfKinds (kinds (type_of_value u)) v ⊎ (IsAny x ⊎ IsAny y)

  abbrev pub Alike : Kinds → SourceTree → SourceTree → List Frame → Type 0
  Alike ks x y fs = Meets ks x fs × Meets ks y fs

  abbrev pub Comparable : SourceTree → SourceTree → List Frame → Type 0
  Comparable x y fs = Meets kind.TextOrInt x fs × Meets kind.TextOrInt y fs × MeetsBoth comparable x y fs

  -- the operands of an operator
  abbrev pub OperandsMeet : Operator → SourceTree → SourceTree → List Frame → Type 0
  OperandsMeet o.Coalesce x y fs = Unit {0}
  OperandsMeet o.Or x y fs = Alike kind.Bool x y fs
  OperandsMeet o.And x y fs = Alike kind.Bool x y fs
  OperandsMeet o.Equals x y fs = Unit {0}
  OperandsMeet o.NotEquals x y fs = Unit {0}
  OperandsMeet o.EqualsInsensitive x y fs = Alike kind.Text x y fs
  OperandsMeet o.NotEqualsInsensitive x y fs = Alike kind.Text x y fs
  OperandsMeet o.Less x y fs = Comparable x y fs
  OperandsMeet o.LessOrEqual x y fs = Comparable x y fs
  OperandsMeet o.Greater x y fs = Comparable x y fs
  OperandsMeet o.GreaterOrEqual x y fs = Comparable x y fs
  OperandsMeet o.Add x y fs = Alike kind.Int x y fs
  OperandsMeet o.Subtract x y fs = Alike kind.Int x y fs
  OperandsMeet o.Multiply x y fs = Alike kind.Int x y fs
  OperandsMeet o.Divide x y fs = Alike kind.Int x y fs
  OperandsMeet o.Remainder x y fs = Alike kind.Int x y fs

  abbrev pub OperandMeets : Prefix → SourceTree → List Frame → Type 0
  OperandMeets prefix.Not e fs = Meets kind.Bool e fs
  OperandMeets prefix.Negate e fs = Meets kind.Int e fs

  -- the arguments of a function that may be called in these ways
  abbrev pub ArgumentsMeet : Option Signatures → SourceTrees → List Frame → Type 0
  ArgumentsMeet o s.none fs = Unit {0}
  ArgumentsMeet None (s.more e es) fs = Unit {0}
  ArgumentsMeet (Some ways) (s.more e es) fs =
      ((v : Json) → value_in w (value here a e fs) ≡ Some v → TakesNext ways v ⊎ IsAny e)
      × ((t : ValueType) → type_of ts e ≡ Ok t → ArgumentsMeet (Some (left_after ways t)) es fs)

  abbrev mutual
    -- no operation in an expression meets a value of a wrong kind, unless the type of its operand is Any
    pub IsSuited : SourceTree → List Frame → Type 0
    IsSuited (s.name at x) fs = Unit {0}
    IsSuited (s.literal at v) fs = Unit {0}
    IsSuited (s.interpolated at first ps) fs = HolesSuited ps fs
    IsSuited (s.object at ps) fs = PropertiesSuited ps fs
    IsSuited (s.array at es) fs = AllSuited es fs
    IsSuited (s.call at name es) fs = ArgumentsMeet (signatures_of name (count es)) es fs × AllSuited es fs
    IsSuited (s.instance r) fs = ReachSuited r fs
    IsSuited (s.field r at f) fs = ReachSuited r fs
    IsSuited (s.output r at k) fs = ReachSuited r fs
    IsSuited (s.member e k n) fs = Meets (named_in k) e fs × IsSuited e fs
    IsSuited (s.index e k i) fs =
        Meets (indexed_in k) e fs × Meets kind.TextOrInt i fs × MeetsBoth (index_into k) e i fs
        × IsSuited e fs × IsSuited i fs
    IsSuited (s.prefixed at p e) fs = OperandMeets p e fs × IsSuited e fs
    IsSuited (s.binary op x y) fs = OperandsMeet op x y fs × IsSuited x fs × IsSuited y fs
    IsSuited (s.conditional c x y) fs = Meets kind.Bool c fs × IsSuited c fs × IsSuited x fs × IsSuited y fs

    pub AllSuited : SourceTrees → List Frame → Type 0
    AllSuited s.none fs = Unit {0}
    AllSuited (s.more e es) fs = IsSuited e fs × AllSuited es fs

    pub HolesSuited : PieceTrees → List Frame → Type 0
    HolesSuited s.no_piece fs = Unit {0}
    HolesSuited (s.piece e after ps) fs = IsSuited e fs × HolesSuited ps fs

    pub PropertiesSuited : PropertyTrees → List Frame → Type 0
    PropertiesSuited s.no_property fs = Unit {0}
    PropertiesSuited (s.property at name v ps) fs = ValueSuited v fs × PropertiesSuited ps fs

    -- the body of a loop in each of its runs, and in those that it does not have as well
    pub ValueSuited : ValueTree → List Frame → Type 0
    ValueSuited (s.plain e) fs = IsSuited e fs
    ValueSuited (s.each (s.loop at xs) e) fs =
        Meets kind.Array xs fs × IsSuited xs fs × ((i : ℕ) → IsSuited e (run_at (value here a xs fs) i ∷ fs))

    pub ReachSuited : ReachTree → List Frame → Type 0
    ReachSuited (s.symbol at x) fs = Unit {0}
    ReachSuited (s.element at x e) fs = Meets kind.Int e fs × IsSuited e fs
