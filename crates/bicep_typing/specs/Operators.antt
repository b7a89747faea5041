-- The types of what operators make of values (Microsoft Learn, "Bicep operators").
use Rattle.std.specs.Prelude.{ℕ, Ok, Err}
use Rattle.bicep_tree.specs.declared.leaf.Indexing.{Indexing}
use Rattle.bicep_tree.specs.declared.leaf.Indexing.TheVariants as indexing
use Rattle.bicep_tree.specs.declared.leaf.Literal.{Literal}
use Rattle.bicep_tree.specs.declared.leaf.Literal.TheVariants as l
use Rattle.bicep_tree.specs.declared.leaf.Operator.{Operator}
use Rattle.bicep_tree.specs.declared.leaf.Operator.TheVariants as o
use Rattle.bicep_tree.specs.declared.leaf.Prefix.{Prefix}
use Rattle.bicep_tree.specs.declared.leaf.Prefix.TheVariants as prefix
use Rattle.bicep_resolved.specs.declared.leaf.Selector.{Selector}
use Rattle.bicep_resolved.specs.declared.leaf.Selector.TheVariants as selector
use Rattle.bicep_signatures.specs.declared.kinds.Kinds.{Kinds}
use Rattle.bicep_signatures.specs.declared.kinds.Kinds.TheVariants as k
use Rattle.bicep_signatures.specs.declared.value_type.ValueType.{ValueType}
use Rattle.bicep_signatures.specs.declared.value_type.ValueType.TheVariants as t
use Rattle.bicep_signatures.specs.Types.{common}
use Rattle.bicep_typing.specs.Typed.{Typed, before, wanted, always}

unfoldable pub literal_type : Literal → ValueType
literal_type (l.Number z) = t.Int
literal_type (l.Text s) = t.Text
literal_type l.True = t.Bool
literal_type l.False = t.Bool
literal_type l.Null = t.Null

-- `!e` and `-e`, where the operand is at a place
unfoldable pub prefix_type : Prefix → ℕ → Typed → Typed
prefix_type prefix.Not at x = always t.Bool (wanted k.Bool at x)
prefix_type prefix.Negate at x = always t.Int (wanted k.Int at x)

-- both operands are of the kinds, and the value is of the type
abbrev pub both_of : Kinds → ValueType → ℕ → Typed → ℕ → Typed → Typed
both_of ks answer a x b y = before (wanted ks a x) (always answer (wanted ks b y))

-- the kinds that may be compared with a value of the type
abbrev pub comparable : ValueType → Kinds
comparable t.Int = k.Int
comparable t.Text = k.Text
comparable x = k.TextOrInt

-- a value at a place that is compared with one of the type
abbrev pub compared_with : Typed → ℕ → Typed → Typed
compared_with (Ok u) b y = always t.Bool (wanted (comparable u) b y)
compared_with (Err at) b y = Err at

-- two whole numbers or two texts, whose order is asked for
abbrev pub compared : ℕ → Typed → ℕ → Typed → Typed
compared a x b y = compared_with (wanted k.TextOrInt a x) b y

-- any two values that are compared for equality
abbrev pub equated : Typed → Typed → Typed
equated x y = before x (always t.Bool y)

-- one of two values
abbrev pub one_of : Typed → Typed → Typed
one_of (Ok u) (Ok v) = Ok (common u v)
one_of (Ok u) (Err at) = Err at
one_of (Err at) y = Err at

-- an operator between operands that are at two places
unfoldable pub operator_type : Operator → ℕ → Typed → ℕ → Typed → Typed
operator_type o.Coalesce a x b y = one_of x y
operator_type o.Or a x b y = both_of k.Bool t.Bool a x b y
operator_type o.And a x b y = both_of k.Bool t.Bool a x b y
operator_type o.Equals a x b y = equated x y
operator_type o.NotEquals a x b y = equated x y
operator_type o.EqualsInsensitive a x b y = both_of k.Text t.Bool a x b y
operator_type o.NotEqualsInsensitive a x b y = both_of k.Text t.Bool a x b y
operator_type o.Less a x b y = compared a x b y
operator_type o.LessOrEqual a x b y = compared a x b y
operator_type o.Greater a x b y = compared a x b y
operator_type o.GreaterOrEqual a x b y = compared a x b y
operator_type o.Add a x b y = both_of k.Int t.Int a x b y
operator_type o.Subtract a x b y = both_of k.Int t.Int a x b y
operator_type o.Multiply a x b y = both_of k.Int t.Int a x b y
operator_type o.Divide a x b y = both_of k.Int t.Int a x b y
operator_type o.Remainder a x b y = both_of k.Int t.Int a x b y

-- `c ? x : y`, where the condition is at a place
unfoldable pub conditional_type : ℕ → Typed → Typed → Typed → Typed
conditional_type at c x y = before (wanted k.Bool at c) (one_of x y)

-- the kinds of values of which `.n` or `.?n` may name a part
abbrev pub named_in : Selector → Kinds
named_in selector.Plain = k.Object
named_in selector.Safe = k.NullObjectOrArray

-- `x.n` and `x.?n`, where x is at a place
unfoldable pub member_type : Selector → ℕ → Typed → Typed
member_type s at x = always t.Any (wanted (named_in s) at x)

-- the kinds of values of which `[i]` or `[?i]` may give a part
abbrev pub indexed_in : Indexing → Kinds
indexed_in indexing.Plain = k.ObjectOrArray
indexed_in indexing.Safe = k.NullObjectOrArray

-- the kinds of indices into a value of the type
abbrev pub index_into : Indexing → ValueType → Kinds
index_into indexing.Plain t.Object = k.Text
index_into indexing.Plain t.Array = k.Int
index_into i x = k.TextOrInt

-- an index at a place into a value of the type
abbrev pub indexed_by : Indexing → Typed → ℕ → Typed → Typed
indexed_by i (Ok u) b y = always t.Any (wanted (index_into i u) b y)
indexed_by i (Err at) b y = Err at

-- `x[i]` and `x[?i]`, where x and i are at two places
unfoldable pub element_type : Indexing → ℕ → Typed → ℕ → Typed → Typed
element_type i a x b y = indexed_by i (wanted (indexed_in i) a x) b y

-- `[for x in xs: e]`, where xs is at a place
unfoldable pub each_type : ℕ → Typed → Typed → Typed
each_type at xs e = before (wanted k.Array at xs) (always t.Array e)
