-- The names of functions in the usual case of their letters (Microsoft Learn, "Bicep functions").
use Rattle.std.specs.Prelude.{ℕ, List, [], ◌∷◌, Option, Some, None, codes, if◌then◌else◌}
use Rattle.arm_value.specs.Look.{is_same_folded}

-- the names with capital letters of functions that a Bicep file may call
unfoldable pub capitals : List (List ℕ)
capitals =
    codes "base64ToString" ∷ codes "endsWith" ∷ codes "indexOf" ∷ codes "lastIndexOf" ∷ codes "objectKeys" ∷
    codes "padLeft" ∷ codes "resourceGroup" ∷ codes "resourceId" ∷ codes "startsWith" ∷
    codes "subscriptionResourceId" ∷ codes "toLower" ∷ codes "toUpper" ∷ codes "uniqueString" ∷ []

-- the first of these that is the name, whatever the case of its letters
unfoldable pub spelling_in : List ℕ → List (List ℕ) → Option (List ℕ)
spelling_in name [] = None
spelling_in name (w ∷ ws) = if is_same_folded name w then Some w else spelling_in name ws

abbrev pub spelled_or : List ℕ → Option (List ℕ) → List ℕ
spelled_or name None = name
spelled_or name (Some w) = w

-- the name of a function, given in small letters, in the usual case of its letters
abbrev pub spelled : List ℕ → List ℕ
spelled name = spelled_or name (spelling_in name capitals)
