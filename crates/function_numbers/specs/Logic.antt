-- The functions on truth values and comparisons (Microsoft Learn: ARM template functions, logical and comparison).
use Rattle.std.specs.Prelude.{ℕ, ℤ, pos, Bool, true, false, codes, List, [], ◌∷◌, Option, Some, None, option_map}
use Rattle.std.specs.Prelude.{option_and_then, if◌then◌else◌}
use Rattle.std.specs.Prelude as prelude
use Rattle.std.specs.declared.cmp.Ordering.{Ordering}
use Rattle.std.specs.Ordering.{int_cmp, is_lt, is_le, is_gt, is_ge}
use Rattle.arm_value.specs.Json.{Json, null, bool, int, text, key_cmp}
use Rattle.arm_value.specs.Look.{is_same_folded}
use Rattle.arm_value.specs.Same.{is_same}
use Rattle.function_numbers.specs.Kinds.{truth_of, of_none, of_one, of_two}
use Rattle.function_numbers.specs.Numbers.{is_zero}

abbrev pub not : List Json → Option Json
not args = of_one (λ j. option_map (λ b. bool (prelude.not b)) (truth_of j)) args

-- `true`
abbrev pub always_true : List Json → Option Json
always_true args = of_none (bool true) args

-- `false`
abbrev pub always_false : List Json → Option Json
always_false args = of_none (bool false) args

-- `null`
abbrev pub always_null : List Json → Option Json
always_null args = of_none null args

-- the truth value that a text names, whatever the case of its letters
abbrev pub truth_named : List ℕ → Option Bool
truth_named s = if is_same_folded (codes "true") s then Some true else if is_same_folded (codes "false") s
    then Some false else None

-- a truth value, a number that is not 0, or the name of a truth value
abbrev pub truth : Json → Option Bool
truth (bool b) = Some b
truth (int z) = Some (prelude.not (is_zero z))
truth (text s) = truth_named s
truth _ = None

-- `bool`
abbrev pub to_bool : List Json → Option Json
to_bool args = of_one (λ j. option_map bool (truth j)) args

-- equality of trees
abbrev pub equals : List Json → Option Json
equals args = of_two (λ j k. Some (bool (is_same j k))) args

-- the order of two numbers, or of two texts by their bytes
abbrev pub order_of : Json → Json → Option Ordering
order_of (int x) (int y) = Some (int_cmp x y)
order_of (text s) (text t) = Some (key_cmp s t)
order_of _ _ = None

-- the order of two arguments
abbrev pub order_in : List Json → Option Ordering
order_in (j ∷ k ∷ []) = order_of j k
order_in _ = None

-- whether the order of the arguments passes a test
abbrev pub compares : (Ordering → Bool) → List Json → Option Json
compares test args = option_map (λ o. bool (test o)) (order_in args)

abbrev pub less : List Json → Option Json
less args = compares is_lt args

-- `lessOrEquals`
abbrev pub less_or_equals : List Json → Option Json
less_or_equals args = compares is_le args

abbrev pub greater : List Json → Option Json
greater args = compares is_gt args

-- `greaterOrEquals`
abbrev pub greater_or_equals : List Json → Option Json
greater_or_equals args = compares is_ge args
