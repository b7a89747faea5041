-- Texts that `format` fills (Microsoft Learn, "Template functions", string: `format`).
use Rattle.std.specs.Prelude.{ℕ, suc, List, [], ◌∷◌, ◌++◌, if◌then◌else◌}
use Rattle.std.specs.Fmt.{decimal}
use Rattle.bicep_meaning.specs.Format.{is_brace}
use Rattle.bicep_resolved.specs.Source.{PieceTrees}
use Rattle.bicep_resolved.specs.Source as s

abbrev pub written_twice : ℕ → List ℕ → List ℕ
written_twice c rest = if is_brace c then c ∷ c ∷ rest else c ∷ rest

-- characters with each brace doubled, before a rest
abbrev pub doubled_onto : List ℕ → List ℕ → List ℕ
doubled_onto [] rest = rest
doubled_onto (c ∷ cs) rest = written_twice c (doubled_onto cs rest)

-- `{0}` and the like, before a rest
abbrev pub hole_onto : ℕ → List ℕ → List ℕ
hole_onto i rest = 123 ∷ (decimal i ++ 125 ∷ rest)

-- the text of `format` for the characters before a hole, and the holes from a number on
abbrev pub format_text : ℕ → List ℕ → PieceTrees → List ℕ
format_text i before s.no_piece = doubled_onto before []
format_text i before (s.piece e after ps) = doubled_onto before (hole_onto i (format_text (suc i) after ps))
