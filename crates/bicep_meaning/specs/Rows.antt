-- What operators, accesses and functions give (Microsoft Learn, "Bicep operators" and "Bicep functions"). What they
-- share with the functions of templates is defined there.
use Rattle.std.specs.Prelude.{ℕ, pos, nat_le, Bool, true, false, List, [], ◌∷◌, Option, Some, None, codes}
use Rattle.std.specs.Prelude.{option_map, option_and_then, if◌then◌else◌}
use Rattle.function_prints.specs.Json.{Json, null, bool, int, text, array, row}
use Rattle.function_prints.specs.Look.{is_same_folded}
use Rattle.deploy_cells.specs.Place.{Place}
use Rattle.arm_env.specs.Kinds.{truth_of, of_none}
use Rattle.arm_env.specs.Logic as logic
use Rattle.arm_env.specs.Numbers as numbers
use Rattle.function_prints.specs.Cuts.{texts_in}
use Rattle.function_prints.specs.Members as members
use Rattle.function_prints.specs.Sizes.{size_of}
use Rattle.bicep_resolved.specs.Values.{function_value}
use Rattle.arm_env.specs.declared.function.Strict.{Strict}
use Rattle.arm_env.specs.declared.function.Strict.TheVariants as strict
use Rattle.arm_env.specs.Id.{resource_id, subscription_id}
use Rattle.arm_env.specs.Names.{placed_named}
use Rattle.arm_env.specs.Object as object
use Rattle.arm_env.specs.Part.{part_of, kept}
use Rattle.reading.specs.Reading.{done, pure, none, continued, both}
use Rattle.deploy_cells.specs.Guarded.{Reads}
use Rattle.bicep_resolved.specs.Indexing.{Indexing}
use Rattle.bicep_resolved.specs.Indexing.TheVariants as indexing
use Rattle.bicep_resolved.specs.Literal.{Literal}
use Rattle.bicep_resolved.specs.Literal.TheVariants as l
use Rattle.bicep_resolved.specs.Operator.{Operator}
use Rattle.bicep_resolved.specs.Operator.TheVariants as o
use Rattle.bicep_resolved.specs.Prefix.{Prefix}
use Rattle.bicep_resolved.specs.Prefix.TheVariants as prefix
use Rattle.bicep_resolved.specs.declared.leaf.Selector.{Selector}
use Rattle.bicep_resolved.specs.declared.leaf.Selector.TheVariants as selector

-- no value where it nests deeper than 100
unfoldable pub capped : Reads Json → Reads Json
capped r = continued r (λ j. done (kept j))

-- the values of all of these, all of which are read, also after one without a value
unfoldable pub all : {A : Type 0} → List (Reads A) → Reads (List A)
all [] = pure []
all (r ∷ rs) = continued (both r (all rs)) (λ p. pure (p.0 ∷ p.1))

abbrev pub literal_value : Literal → Json
literal_value (l.Number z) = int z
literal_value (l.Text t) = text t
literal_value l.True = bool true
literal_value l.False = bool false
literal_value l.Null = null

-- ---- operators

-- whether two texts are equal after ASCII case folding
abbrev pub same_folded : Json → Json → Option Json
same_folded (text s) (text t) = Some (bool (is_same_folded s t))
same_folded _ _ = None

abbrev pub opposite : Option Json → Option Json
opposite o = option_and_then (λ j. logic.not (j ∷ [])) o

-- the operators that look at both operands
unfoldable pub operator_value : Operator → Json → Json → Option Json
operator_value o.Coalesce x y = None
operator_value o.Or x y = None
operator_value o.And x y = None
operator_value o.Equals x y = logic.equals (x ∷ y ∷ [])
operator_value o.NotEquals x y = opposite (logic.equals (x ∷ y ∷ []))
operator_value o.EqualsInsensitive x y = same_folded x y
operator_value o.NotEqualsInsensitive x y = opposite (same_folded x y)
operator_value o.Less x y = logic.less (x ∷ y ∷ [])
operator_value o.LessOrEqual x y = logic.less_or_equals (x ∷ y ∷ [])
operator_value o.Greater x y = logic.greater (x ∷ y ∷ [])
operator_value o.GreaterOrEqual x y = logic.greater_or_equals (x ∷ y ∷ [])
operator_value o.Add x y = numbers.add (x ∷ y ∷ [])
operator_value o.Subtract x y = numbers.sub (x ∷ y ∷ [])
operator_value o.Multiply x y = numbers.mul (x ∷ y ∷ [])
operator_value o.Divide x y = numbers.div (x ∷ y ∷ [])
operator_value o.Remainder x y = numbers.remainder (x ∷ y ∷ [])

-- the one of two that a truth value chooses
abbrev pub chosen : Option Bool → Reads Json → Reads Json → Reads Json
chosen (Some true) a b = a
chosen (Some false) a b = b
chosen None a b = none

-- `c ? a : b`: the one that is not chosen is not looked at
unfoldable pub conditional_value : Reads Json → Reads Json → Reads Json → Reads Json
conditional_value c a b = continued c (λ j. chosen (truth_of j) a b)

-- a truth value, and nothing else
unfoldable pub truth : Reads Json → Reads Json
truth r = continued r (λ j. done (option_map bool (truth_of j)))

-- `a && b`: b is looked at only where a is true
unfoldable pub and_value : Reads Json → Reads Json → Reads Json
and_value a b = conditional_value a (truth b) (pure (bool false))

-- `a || b`: b is looked at only where a is false
unfoldable pub or_value : Reads Json → Reads Json → Reads Json
or_value a b = conditional_value a (pure (bool true)) (truth b)

abbrev pub or_if_null : Json → Reads Json → Reads Json
or_if_null null r = r
or_if_null j r = pure j

-- `a ?? b`: b is looked at only where a is null
unfoldable pub coalesce_value : Reads Json → Reads Json → Reads Json
coalesce_value a b = continued a (λ j. or_if_null j b)

-- what two operands give that are both looked at
unfoldable pub by_both : (Json → Json → Option Json) → Reads Json → Reads Json → Reads Json
by_both f a b = continued (both a b) (λ p. done (f p.0 p.1))

abbrev pub operated : Operator → Reads Json → Reads Json → Reads Json
operated o.Coalesce a b = coalesce_value a b
operated o.Or a b = or_value a b
operated o.And a b = and_value a b
operated op a b = by_both (operator_value op) a b

abbrev pub prefix_value : Prefix → Json → Option Json
prefix_value prefix.Not j = logic.not (j ∷ [])
prefix_value prefix.Negate j = numbers.sub (int (pos 0) ∷ j ∷ [])

-- ---- accesses

-- `.n` and `.?n`: with `?` a part that is missing is null, and so is a part of null
abbrev pub member_value : Selector → Json → Json → Option Json
member_value selector.Plain j i = part_of j i
member_value selector.Safe j i = members.part_of j i

-- `[i]` and `[?i]`
abbrev pub index_value : Indexing → Json → Json → Option Json
index_value indexing.Plain j i = part_of j i
index_value indexing.Safe j i = members.part_of j i

-- ---- functions

-- the first that is not null, and null where all are; those after it are not looked at
unfoldable pub first_there : List (Reads Json) → Reads Json
first_there [] = pure null
first_there (r ∷ rs) = coalesce_value r (first_there rs)

-- `coalesce`, of one or more
abbrev pub coalesced : List (Reads Json) → Reads Json
coalesced [] = none
coalesced (r ∷ rs) = first_there (r ∷ rs)

-- the functions that need the place of the deployment
abbrev pub placed_value : Place → Strict → List Json → Option Json
placed_value here strict.ResourceId vs = option_map text (option_and_then (resource_id here) (texts_in vs))
placed_value here strict.SubscriptionResourceId vs =
    option_map text (option_and_then (subscription_id here) (texts_in vs))
placed_value here strict.ResourceGroup vs = of_none (object.resource_group here) vs
placed_value here strict.Subscription vs = of_none (object.subscription here) vs
placed_value here strict.Deployment vs = of_none (object.deployment here) vs
placed_value here f vs = None

-- a function by its name, from what its arguments are
abbrev pub value_by : Place → List ℕ → Option Strict → List Json → Option Json
value_by here name (Some f) vs = placed_value here f vs
value_by here name None vs = function_value name vs

unfoldable pub called : Place → List ℕ → List (Reads Json) → Reads Json
called here name rs = if is_same_folded (codes "coalesce") name then coalesced rs
    else continued (all rs) (λ vs. done (value_by here name (placed_named name) vs))

-- ---- loops

-- how often a loop over the value runs: its number of items, of members or of characters, where that is at most 800
abbrev pub few : ℕ → Option ℕ
few n = if nat_le n 800 then Some n else None

abbrev pub runs_of : Json → Option ℕ
runs_of j = option_and_then few (size_of j)

abbrev pub array_of : List Json → Json
array_of js = array (row js)
