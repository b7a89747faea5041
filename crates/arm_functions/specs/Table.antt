-- The template functions: their names, how many arguments each takes, and which have a value that follows from their
-- arguments alone (Microsoft Learn: ARM template functions).
use Rattle.std.specs.Prelude.{ℕ, codes, List, [], ◌∷◌, Option, Some, None, option_map, if◌then◌else◌}
use Rattle.arm_value.specs.Look.{is_same_folded}
use Rattle.arm_functions.specs.declared.plain.Plain.{Plain}
use Rattle.arm_functions.specs.declared.plain.Plain.TheVariants.{Numbers, Logic, Texts, Lists, Prints, Names}
use Rattle.arm_functions.specs.declared.plain.OnNumbers.TheVariants.{Add, Sub, Mul, Div, Remainder, Min, Max, ToInt}
use Rattle.arm_functions.specs.declared.plain.OnNumbers.TheVariants.{Range}
use Rattle.arm_functions.specs.declared.plain.OnTruth.TheVariants.{Not, AlwaysTrue, AlwaysFalse, AlwaysNull, ToBool}
use Rattle.arm_functions.specs.declared.plain.OnTruth.TheVariants.{Equals, Less, LessOrEquals, Greater}
use Rattle.arm_functions.specs.declared.plain.OnTruth.TheVariants.{GreaterOrEquals}
use Rattle.arm_functions.specs.declared.plain.OnTexts.TheVariants.{ToLower, ToUpper, Trim, Substring, Replace, Split}
use Rattle.arm_functions.specs.declared.plain.OnTexts.TheVariants.{StartsWith, EndsWith, IndexOf, LastIndexOf}
use Rattle.arm_functions.specs.declared.plain.OnTexts.TheVariants.{Contains}
use Rattle.arm_functions.specs.declared.plain.OnLists.TheVariants.{Size, Empty, ToArray, CreateArray, First, Last}
use Rattle.arm_functions.specs.declared.plain.OnLists.TheVariants.{Skip, Take, Union, Intersection, Flatten}
use Rattle.arm_functions.specs.declared.plain.OnLists.TheVariants.{CreateObject, ObjectItems, ObjectKeys, TryGet}
use Rattle.arm_functions.specs.declared.plain.Naming.TheVariants.{ToBase64, FromBase64, UniqueString, Guid}
use Rattle.arm_functions.specs.declared.plain.Printing.TheVariants.{Concat, Join, PadLeft, ToText, Format, ReadJson}

-- a name, the least and the most number of arguments (no most where there is none), and the function where its value
-- follows from its arguments alone
abbrev pub Row : Type 0
Row = List ℕ × ℕ × Option ℕ × Option Plain

-- the functions
unfoldable pub table : List Row
table =
    (codes "parameters", 1, Some 1, None) ∷
    (codes "variables", 1, Some 1, None) ∷
    (codes "concat", 1, None, Some (Prints Concat)) ∷
    (codes "resourceId", 1, None, None) ∷
    (codes "format", 1, None, Some (Prints Format)) ∷
    (codes "if", 3, Some 3, None) ∷
    (codes "equals", 2, Some 2, Some (Logic Equals)) ∷
    (codes "reference", 1, Some 3, None) ∷
    (codes "copyIndex", 0, Some 2, None) ∷
    (codes "resourceGroup", 0, Some 0, None) ∷
    (codes "subscription", 0, Some 0, None) ∷
    (codes "not", 1, Some 1, Some (Logic Not)) ∷
    (codes "and", 2, None, None) ∷
    (codes "or", 2, None, None) ∷
    (codes "empty", 1, Some 1, Some (Lists Empty)) ∷
    (codes "toLower", 1, Some 1, Some (Texts ToLower)) ∷
    (codes "uniqueString", 1, None, Some (Names UniqueString)) ∷
    (codes "length", 1, Some 1, Some (Lists Size)) ∷
    (codes "contains", 2, Some 2, Some (Texts Contains)) ∷
    (codes "createObject", 0, None, Some (Lists CreateObject)) ∷
    (codes "createArray", 0, None, Some (Lists CreateArray)) ∷
    (codes "union", 1, None, Some (Lists Union)) ∷
    (codes "json", 1, Some 1, Some (Prints ReadJson)) ∷
    (codes "string", 1, Some 1, Some (Prints ToText)) ∷
    (codes "int", 1, Some 1, Some (Numbers ToInt)) ∷
    (codes "null", 0, Some 0, Some (Logic AlwaysNull)) ∷
    (codes "true", 0, Some 0, Some (Logic AlwaysTrue)) ∷
    (codes "false", 0, Some 0, Some (Logic AlwaysFalse)) ∷
    (codes "coalesce", 1, None, None) ∷
    (codes "add", 2, Some 2, Some (Numbers Add)) ∷
    (codes "sub", 2, Some 2, Some (Numbers Sub)) ∷
    (codes "mul", 2, Some 2, Some (Numbers Mul)) ∷
    (codes "div", 2, Some 2, Some (Numbers Div)) ∷
    (codes "mod", 2, Some 2, Some (Numbers Remainder)) ∷
    (codes "min", 1, None, Some (Numbers Min)) ∷
    (codes "max", 1, None, Some (Numbers Max)) ∷
    (codes "range", 2, Some 2, Some (Numbers Range)) ∷
    (codes "toUpper", 1, Some 1, Some (Texts ToUpper)) ∷
    (codes "trim", 1, Some 1, Some (Texts Trim)) ∷
    (codes "substring", 2, Some 3, Some (Texts Substring)) ∷
    (codes "replace", 3, Some 3, Some (Texts Replace)) ∷
    (codes "split", 2, Some 2, Some (Texts Split)) ∷
    (codes "join", 2, Some 2, Some (Prints Join)) ∷
    (codes "startsWith", 2, Some 2, Some (Texts StartsWith)) ∷
    (codes "endsWith", 2, Some 2, Some (Texts EndsWith)) ∷
    (codes "indexOf", 2, Some 2, Some (Texts IndexOf)) ∷
    (codes "lastIndexOf", 2, Some 2, Some (Texts LastIndexOf)) ∷
    (codes "padLeft", 2, Some 3, Some (Prints PadLeft)) ∷
    (codes "base64", 1, Some 1, Some (Names ToBase64)) ∷
    (codes "base64ToString", 1, Some 1, Some (Names FromBase64)) ∷
    (codes "array", 1, Some 1, Some (Lists ToArray)) ∷
    (codes "first", 1, Some 1, Some (Lists First)) ∷
    (codes "last", 1, Some 1, Some (Lists Last)) ∷
    (codes "skip", 2, Some 2, Some (Lists Skip)) ∷
    (codes "take", 2, Some 2, Some (Lists Take)) ∷
    (codes "intersection", 1, None, Some (Lists Intersection)) ∷
    (codes "flatten", 1, Some 1, Some (Lists Flatten)) ∷
    (codes "items", 1, Some 1, Some (Lists ObjectItems)) ∷
    (codes "objectKeys", 1, Some 1, Some (Lists ObjectKeys)) ∷
    (codes "bool", 1, Some 1, Some (Logic ToBool)) ∷
    (codes "less", 2, Some 2, Some (Logic Less)) ∷
    (codes "lessOrEquals", 2, Some 2, Some (Logic LessOrEquals)) ∷
    (codes "greater", 2, Some 2, Some (Logic Greater)) ∷
    (codes "greaterOrEquals", 2, Some 2, Some (Logic GreaterOrEquals)) ∷
    (codes "tryGet", 2, None, Some (Lists TryGet)) ∷
    (codes "guid", 1, None, Some (Names Guid)) ∷
    (codes "subscriptionResourceId", 1, None, None) ∷
    (codes "deployment", 0, Some 0, None) ∷ []

-- the first row of this name, whatever the case of its letters
unfoldable pub row_in : List ℕ → List Row → Option (ℕ × Option ℕ × Option Plain)
row_in name [] = None
row_in name (r ∷ rs) = if is_same_folded name r.0 then Some (r.1, r.2, r.3) else row_in name rs

abbrev pub row_of : List ℕ → Option (ℕ × Option ℕ × Option Plain)
row_of name = row_in name table

-- how many arguments the function of this name takes
abbrev pub counts : List ℕ → Option (ℕ × Option ℕ)
counts name = option_map (λ r. (r.0, r.1)) (row_of name)
