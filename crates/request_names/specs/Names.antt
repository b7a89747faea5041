-- Which names groups, deployments and subscriptions have. Names are their bytes in UTF-8.
use Rattle.std.specs.Prelude.{ℕ, ◌==◌, ◌&&◌, ◌||◌, not, nat_le, Bool, List, [], ◌∷◌, length, bytes_eq}
use Rattle.std.specs.Prelude.{Option, Some, None}
use Rattle.std.specs.Prelude.{if◌then◌else◌}
use Rattle.std.specs.List.{list_all}
use Rattle.std.specs.Char.{is_ascii_alphanumeric}

-- an ASCII letter or digit, or one of `_` (95), `-` (45), `.` (46), `(` (40) and `)` (41)
abbrev pub is_name_byte : ℕ → Bool
is_name_byte b = is_ascii_alphanumeric b || (b == 95 || (b == 45 || (b == 46 || (b == 40 || b == 41))))

-- 1 to `most` of these
abbrev pub is_name : ℕ → List ℕ → Bool
is_name most name = nat_le 1 (length name) && (nat_le (length name) most && list_all is_name_byte name)

unfoldable pub is_group_name : List ℕ → Bool
is_group_name name = is_name 90 name

-- a deployment is not called `-`
unfoldable pub is_deployment_name : List ℕ → Bool
is_deployment_name name = is_name 64 name && not (bytes_eq name (45 ∷ []))

unfoldable pub is_subscription_name : List ℕ → Bool
is_subscription_name name = is_name 64 name

-- the first of these names that is not in form
unfoldable pub bad_name : List ℕ → List ℕ → List ℕ → Option (List ℕ)
bad_name group deployment subscription =
    if not (is_group_name group) then Some group else
    (if not (is_deployment_name deployment) then Some deployment else
    (if not (is_subscription_name subscription) then Some subscription else None))
