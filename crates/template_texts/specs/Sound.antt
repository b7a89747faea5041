-- What an expression of a template may call and name.
use Rattle.std.specs.Prelude.{ℕ, zero, suc, ◌||◌, Bool, true, false, List, Option, Some, None}
use Rattle.std.specs.Prelude.{codes, if◌then◌else◌}
use Rattle.arm_value.specs.Look.{is_same_folded}
use Rattle.arm_expr.specs.Tree.{Tree, text, int, call, member, index, Trees, none, more}
use Rattle.arm_functions.specs.Table.{counts}
use Rattle.arm_functions.specs.Values.{admits}
use Rattle.name_set.specs.Names.{is_named}
use Rattle.template_texts.specs.declared.sight.Sight.{Sight}

-- the number of arguments
abbrev pub count : Trees → ℕ
count none = zero
count (more e es) = suc (count es)

-- whether a function with these least and most numbers of arguments takes so many; none are those of no function
abbrev pub takes : Option (ℕ × Option ℕ) → ℕ → Bool
takes None n = false
takes (Some c) n = admits c.0 c.1 n

-- whether there is a function of this name that takes so many arguments
abbrev pub is_called : List ℕ → ℕ → Bool
is_called name n = takes (counts name) n

-- the text that an expression is
abbrev pub as_text : Tree → Option (List ℕ)
as_text (text s) = Some s
as_text _ = None

-- the text that is the one argument of a call
abbrev pub text_named : Trees → Option (List ℕ)
text_named (more e none) = as_text e
text_named _ = None

-- whether the name, where there is one, is among these
abbrev pub is_there : List (List ℕ) → Option (List ℕ) → Bool
is_there names None = true
is_there names (Some name) = is_named names name

-- whether a call of `parameters` or `variables` names one that is there; any other call names none
abbrev pub is_found : Sight → List ℕ → Trees → Bool
is_found here name es =
    if is_same_folded (codes "parameters") name then is_there here.parameters (text_named es)
    else (if is_same_folded (codes "variables") name then is_there here.variables (text_named es) else true)

-- whether the function that is called is there, takes so many arguments, and names what is there
abbrev pub is_good_call : Sight → List ℕ → Trees → Bool
is_good_call here name es = if is_called name (count es) then is_found here name es else false

-- whether all calls of an expression are good
abbrev mutual
  pub is_sound : Sight → Tree → Bool
  is_sound here (text s) = true
  is_sound here (int z) = true
  is_sound here (call name es) = if is_good_call here name es then are_sound here es else false
  is_sound here (member e name) = is_sound here e
  is_sound here (index e i) = if is_sound here e then is_sound here i else false

  pub are_sound : Sight → Trees → Bool
  are_sound here none = true
  are_sound here (more e es) = if is_sound here e then are_sound here es else false

-- whether the function is `reference`
abbrev pub is_reference : List ℕ → Bool
is_reference name = is_same_folded (codes "reference") name

-- whether a part of the expression calls `reference`
abbrev mutual
  pub has_reference : Tree → Bool
  has_reference (text s) = false
  has_reference (int z) = false
  has_reference (call name es) = is_reference name || have_reference es
  has_reference (member e name) = has_reference e
  has_reference (index e i) = has_reference e || has_reference i

  pub have_reference : Trees → Bool
  have_reference none = false
  have_reference (more e es) = has_reference e || have_reference es
