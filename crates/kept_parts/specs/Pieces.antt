-- Parts of names, and which the parts of a name are.
use Rattle.std.specs.Prelude.{ℕ, zero, suc, pos, List, [], ◌∷◌, Option, Some, None}
use Rattle.arm_expr.specs.Tree.{Tree, int, index}
use Rattle.bicep_tree.specs.declared.leaf.Literal.TheVariants as l
use Rattle.bicep_resolved.specs.Source.{ValueTree}
use Rattle.bicep_resolved.specs.Source as s
use Rattle.emitted_declarations.specs.Declared.{split_name, rest_of_name}
use Rattle.kept_parts.specs.declared.pieces.Piece.{Piece}
use Rattle.kept_parts.specs.declared.pieces.Piece.TheVariants as piece

-- a part of a name
abbrev pub piece_of : Piece → Tree → Tree
piece_of (piece.Segment i) a = index (split_name a) (int (pos i))
piece_of (piece.Rest i) a = rest_of_name a i

-- the first n segments of a name from number i on
abbrev pub segments_at : Tree → ℕ → ℕ → List Tree
segments_at a i zero = []
segments_at a i (suc n) = piece_of (piece.Segment i) a ∷ segments_at a (suc i) n

-- the text of a literal
abbrev pub literal_text : Option ValueTree → Option (List ℕ)
literal_text (Some (s.plain (s.literal at (l.Text t)))) = Some t
literal_text v = None
