-- Lists of segments of which one begins with the other.
use Rattle.std.proofs.Common.{◌≡◌, ◌<◌, ℕ, length, Bool, true, false, ◌&&◌, List, [], ◌∷◌, refl, arith}
use Rattle.arm_value.specs.Look.{is_same_folded}
use Rattle.bicep_placed.specs.Kinds.{is_folded_front}

no : (a b : Bool) → false ≡ b → false ≡ (a && b)
no true b e = e
no false b e = refl

-- a longer list is the front of no shorter one
pub front_short : (xs ys : List (List ℕ)) → length ys < length xs → false ≡ is_folded_front xs ys
front_short [] ys l = absurd (omega (arith, l))
front_short (x ∷ xs) [] l = refl
front_short (x ∷ xs) (y ∷ ys) l =
    no (is_same_folded x y) (is_folded_front xs ys) (front_short xs ys (omega (arith, l)))
