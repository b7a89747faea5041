-- What the grammar sees in a token.
use Rattle.std.specs.Prelude.{ℕ, pos, ◌^◌, nat_lt, List, bytes_eq, chars, codes, if◌then◌else◌}
use Rattle.bicep_lexer.specs.Bytes.{number_from}
use Rattle.bicep_lexer.specs.Reading.{Standing}
use Rattle.bicep_lexer.specs.Values.{value_of}
use Rattle.bicep_lexer.specs.declared.kind.TokenKind.{TokenKind}
use Rattle.bicep_lexer.specs.declared.kind.TokenKind.TheVariants as k
use Rattle.bicep_tree.specs.declared.leaf.Literal.TheVariants as l
use Rattle.bicep_tree.specs.declared.leaf.Access.TheVariants as a
use Rattle.bicep_tree.specs.declared.leaf.Operator.TheVariants as o
use Rattle.bicep_tree.specs.declared.terminal.Terminal.{Terminal}
use Rattle.bicep_tree.specs.declared.terminal.Terminal.TheVariants as t

-- a word: `true`, `false` and `null` are no names
unfoldable pub word_terminal : List ℕ → Terminal
word_terminal w =
    if bytes_eq w (codes "true") then t.Literal l.True
    else if bytes_eq w (codes "false") then t.Literal l.False
    else if bytes_eq w (codes "null") then t.Literal l.Null
    else t.Name w

-- the number, where it is below 2^63
abbrev pub counted : ℕ → Terminal
counted n = if nat_lt n (2 ^ 63) then t.Literal (l.Number (pos n)) else t.Other

-- marks
abbrev pub mark_terminal : TokenKind → Terminal
mark_terminal k.Newline = t.Newline
mark_terminal k.At = t.At
mark_terminal k.Dot = t.Access a.Member
mark_terminal k.SafeDot = t.Access a.SafeMember
mark_terminal k.DoubleColon = t.Access a.Nested
mark_terminal k.OpenParen = t.OpenParen
mark_terminal k.CloseParen = t.CloseParen
mark_terminal k.OpenBracket = t.OpenBracket
mark_terminal k.SafeBracket = t.SafeBracket
mark_terminal k.CloseBracket = t.CloseBracket
mark_terminal k.OpenBrace = t.OpenBrace
mark_terminal k.CloseBrace = t.CloseBrace
mark_terminal k.Comma = t.Comma
mark_terminal k.Colon = t.Colon
mark_terminal k.Question = t.Question
mark_terminal k.Assign = t.Assign
mark_terminal k.Not = t.Not
mark_terminal k.DoubleQuestion = t.Operator o.Coalesce
mark_terminal k.Or = t.Operator o.Or
mark_terminal k.And = t.Operator o.And
mark_terminal k.Equals = t.Operator o.Equals
mark_terminal k.NotEquals = t.Operator o.NotEquals
mark_terminal k.EqualsInsensitive = t.Operator o.EqualsInsensitive
mark_terminal k.NotEqualsInsensitive = t.Operator o.NotEqualsInsensitive
mark_terminal k.Less = t.Operator o.Less
mark_terminal k.LessOrEqual = t.Operator o.LessOrEqual
mark_terminal k.Greater = t.Operator o.Greater
mark_terminal k.GreaterOrEqual = t.Operator o.GreaterOrEqual
mark_terminal k.Plus = t.Operator o.Add
mark_terminal k.Minus = t.Operator o.Subtract
mark_terminal k.Star = t.Operator o.Multiply
mark_terminal k.Slash = t.Operator o.Divide
mark_terminal k.Percent = t.Operator o.Remainder
mark_terminal kind = t.Other

-- a text or a piece of one, by the characters that it means
abbrev pub text_terminal : TokenKind → List ℕ → Terminal
text_terminal k.LeftPiece text = t.LeftPiece text
text_terminal k.MiddlePiece text = t.MiddlePiece text
text_terminal k.RightPiece text = t.RightPiece text
text_terminal kind text = t.Literal (l.Text text)

-- what tokens of each kind are taken as
abbrev pub kind_terminal : TokenKind → List ℕ → Terminal
kind_terminal k.Name bytes = word_terminal (chars bytes)
kind_terminal k.Number bytes = counted (number_from 0 bytes)
kind_terminal k.Text bytes = t.Literal (l.Text (value_of k.Text (chars bytes)))
kind_terminal k.VerbatimText bytes = t.Literal (l.Text (value_of k.VerbatimText (chars bytes)))
kind_terminal k.LeftPiece bytes = t.LeftPiece (value_of k.LeftPiece (chars bytes))
kind_terminal k.MiddlePiece bytes = t.MiddlePiece (value_of k.MiddlePiece (chars bytes))
kind_terminal k.RightPiece bytes = t.RightPiece (value_of k.RightPiece (chars bytes))
kind_terminal kind bytes = mark_terminal kind

abbrev pub terminal_of : Standing → Terminal
terminal_of t = kind_terminal t.0 t.2

-- a terminal at its place in the source
abbrev pub Placed : Type 0
Placed = ℕ × Terminal

abbrev pub placed : Standing → Placed
placed t = (t.1, terminal_of t)
