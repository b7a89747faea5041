-- Which types fit where kinds of values are taken.
use Rattle.std.specs.Prelude.{Bool, true, false, List, [], ◌∷◌}
use Rattle.std.specs.List.{list_any}
use Rattle.bicep_signatures.specs.declared.kinds.Kinds.{Kinds}
use Rattle.bicep_signatures.specs.declared.kinds.Kinds.TheVariants as k
use Rattle.bicep_signatures.specs.declared.value_type.ValueType.{ValueType}
use Rattle.bicep_signatures.specs.declared.value_type.ValueType.TheVariants as t

-- the types whose values are of the kinds
abbrev pub types_in : Kinds → List ValueType
types_in k.Nothing = []
types_in k.Anything = t.Null ∷ t.Text ∷ t.Int ∷ t.Bool ∷ t.Object ∷ t.Array ∷ []
types_in k.Text = t.Text ∷ []
types_in k.Int = t.Int ∷ []
types_in k.Bool = t.Bool ∷ []
types_in k.Object = t.Object ∷ []
types_in k.Array = t.Array ∷ []
types_in k.TextOrInt = t.Text ∷ t.Int ∷ []
types_in k.TextOrArray = t.Text ∷ t.Array ∷ []
types_in k.ObjectOrArray = t.Object ∷ t.Array ∷ []
types_in k.TextIntOrBool = t.Text ∷ t.Int ∷ t.Bool ∷ []
types_in k.TextObjectOrArray = t.Text ∷ t.Object ∷ t.Array ∷ []
types_in k.NullObjectOrArray = t.Null ∷ t.Object ∷ t.Array ∷ []
types_in k.AllButIntAndBool = t.Null ∷ t.Text ∷ t.Object ∷ t.Array ∷ []

-- whether two types are the same
abbrev pub is_same : ValueType → ValueType → Bool
is_same t.Any t.Any = true
is_same t.Null t.Null = true
is_same t.Text t.Text = true
is_same t.Int t.Int = true
is_same t.Bool t.Bool = true
is_same t.Object t.Object = true
is_same t.Array t.Array = true
is_same x y = false

-- whether a value of that type may stand where the kinds are taken; one of type Any may, wherever there is a place
abbrev pub fits : Kinds → ValueType → Bool
fits k.Nothing x = false
fits ks t.Any = true
fits ks x = list_any (is_same x) (types_in ks)
