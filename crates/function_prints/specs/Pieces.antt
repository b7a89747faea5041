-- What a format text is made of, and what it becomes.
use Rattle.std.specs.Prelude.{ℕ, List, [], ◌∷◌, ◌++◌, Option, Some, option_map, option_and_then, if◌then◌else◌}
use Rattle.std.specs.List.{flat_map}
use Rattle.arm_value.specs.Json.{Json}
use Rattle.function_prints.specs.Printed.{printed}
use Rattle.function_prints.specs.Format.{argument, is_brace}

-- a character, or the place of an argument by the digits of its number
pub data Piece : Type 0 where
  character : ℕ → Piece
  place : List ℕ → Piece

-- how it is written in a format text: a brace twice, another character once, the digits in braces
abbrev pub spelled_piece : Piece → List ℕ
spelled_piece (character c) = if is_brace c then c ∷ c ∷ [] else c ∷ []
spelled_piece (place digits) = 123 ∷ digits ++ 125 ∷ []

abbrev pub spelled : List Piece → List ℕ
spelled ps = flat_map spelled_piece ps

-- what it becomes: the character, or the argument's printed form; none where there is no such argument
abbrev pub piece_value : List Json → Piece → Option (List ℕ)
piece_value args (character c) = Some (c ∷ [])
piece_value args (place digits) = option_map printed (argument args digits)

-- what all of these become, one after another
unfoldable pub pieces_value : List Json → List Piece → Option (List ℕ)
pieces_value args [] = Some []
pieces_value args (p ∷ ps) = option_and_then (λ s. option_map (λ rest. s ++ rest) (pieces_value args ps))
    (piece_value args p)
