-- `tryGet` with one part to look for.
use Rattle.std.proofs.Common.{◌≡◌, [], ◌∷◌, Option, Some, None, refl}
use Rattle.std.specs.Prelude.{option_and_then}
use Rattle.arm_value.specs.Json.{Json}
use Rattle.function_lists.specs.Members.{part_of, part_along, try_get}

itself : (o : Option Json) → option_and_then (λ (j : Json). Some j) o ≡ o
itself (Some j) = refl
itself None = refl

pub tried_one : (j k : Json) → try_get (j ∷ k ∷ []) ≡ part_of j k
unfolding part_along
tried_one j k = itself (part_of j k)
