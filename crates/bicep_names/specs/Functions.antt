-- The functions that a Bicep file may call (Microsoft Learn, "Bicep functions"; "Bicep operators" for those that are
-- written as operators).
use Rattle.std.specs.Prelude.{ℕ, ◌&&◌, Bool, not, List, [], ◌∷◌, Option, Some, None, codes, is_some, if◌then◌else◌}
use Rattle.arm_value.specs.Look.{fold, is_among}
use Rattle.arm_functions.specs.Table.{row_of}

-- the functions of templates that no Bicep file calls by name
unfoldable pub reserved : List (List ℕ)
reserved =
    codes "add" ∷ codes "sub" ∷ codes "mul" ∷ codes "div" ∷ codes "mod" ∷ codes "createArray" ∷ codes "createObject" ∷
    codes "parameters" ∷ codes "variables" ∷ codes "copyIndex" ∷ codes "if" ∷ codes "and" ∷ codes "or" ∷
    codes "not" ∷ codes "equals" ∷ codes "less" ∷ codes "lessOrEquals" ∷ codes "greater" ∷ codes "greaterOrEquals" ∷
    codes "tryGet" ∷ codes "reference" ∷ codes "true" ∷ codes "false" ∷ codes "null" ∷ []

-- whether a Bicep file may call the function of that name, whatever the case of its ASCII letters
unfoldable pub may_call : List ℕ → Bool
may_call name = not (is_among reserved name) && is_some (row_of name)

-- the function that a name calls: its name in small letters
abbrev pub function_named : List ℕ → Option (List ℕ)
function_named name = if may_call name then Some (fold name) else None
