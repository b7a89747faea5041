-- How a text in single quotes is written between its ends, and what it means: a row of signs. A sign is a plain
-- character, an escape of two characters, or `\u{h}` with one to six hexadecimal digits h. No sign is a quote, a line's
-- end or a `\` by itself, and no two signs make `${`.
-- The grammar takes signs of a source's bytes, where a character beyond ASCII is several plain ones;
-- `Token::value` takes signs of a token's characters.
use Rattle.std.specs.Prelude.{◌≡◌, ◌≢◌, ℕ, ◌+◌, ◌*◌, ◌≤◌, Bool, true, false, ◌==◌, ◌&&◌, List, [], ◌∷◌, ◌++◌}
use Rattle.std.specs.Prelude.{length, is_some, unwrap_or}
use Rattle.bicep_lexer.specs.declared.kind.TokenKind.{TokenKind}
use Rattle.bicep_lexer.specs.declared.kind.TokenKind.TheVariants as k
use Rattle.bicep_lexer.specs.Bytes.{begins_with}
use Rattle.bicep_lexer.specs.Escapes.{hexadecimal, is_scalar, simple_escape}

-- how one character is written: as itself, by a `\` and a character, or by `\u{h}` with hexadecimal digits h
pub data Sign : Type 0 where
  itself : ℕ → Sign
  escape : ℕ → Sign
  unicode : List ℕ → Sign

-- the number that hexadecimal digits write after digits of value v
abbrev pub hexadecimal_from : ℕ → List ℕ → ℕ
hexadecimal_from v [] = v
hexadecimal_from v (d ∷ ds) = hexadecimal_from (16 * v + unwrap_or (hexadecimal d) 0) ds

abbrev pub AreHexadecimal : List ℕ → Type 0
AreHexadecimal [] = Unit {0}
AreHexadecimal (d ∷ ds) = (is_some (hexadecimal d) ≡ true) × AreHexadecimal ds

-- no quote, no `\`, no LF and no CR
abbrev pub IsPlain : ℕ → Type 0
IsPlain c = (c ≢ 39) × (c ≢ 92) × (c ≢ 10) × (c ≢ 13)

-- an escape: one of `\\`, `\'`, `\$`, `\n`, `\r` and `\t`, or one to six hexadecimal digits that write a Unicode scalar
-- value
abbrev pub IsEscape : Sign → Type 0
IsEscape (itself c) = ⊥
IsEscape (escape c) = is_some (simple_escape c) ≡ true
IsEscape (unicode ds) =
    (1 ≤ length ds) × (length ds ≤ 6) × AreHexadecimal ds × (is_scalar (hexadecimal_from 0 ds) ≡ true)

abbrev pub IsSign : Sign → Type 0
IsSign (itself c) = IsPlain c
IsSign s = IsEscape s

-- the characters that are written
abbrev pub written : List Sign → List ℕ
written [] = []
written (itself c ∷ ss) = c ∷ written ss
written (escape c ∷ ss) = 92 ∷ c ∷ written ss
written (unicode ds ∷ ss) = 92 ∷ 117 ∷ 123 ∷ (ds ++ 125 ∷ written ss)

-- the characters that are meant
abbrev pub meant : List Sign → List ℕ
meant [] = []
meant (itself c ∷ ss) = c ∷ meant ss
meant (escape c ∷ ss) = unwrap_or (simple_escape c) c ∷ meant ss
meant (unicode ds ∷ ss) = hexadecimal_from 0 ds ∷ meant ss

-- whether a character and those after it begin with `${`
abbrev pub is_hole : ℕ → List ℕ → Bool
is_hole c cs = c == 36 && begins_with 123 cs

-- a sign before these characters is no `$` before a `{`
abbrev pub OpensNoHole : Sign → List ℕ → Type 0
OpensNoHole (itself c) cs = is_hole c cs ≡ false
OpensNoHole s cs = Unit {0}

abbrev pub AreSigns : List Sign → Type 0
AreSigns [] = Unit {0}
AreSigns (s ∷ ss) = IsSign s × OpensNoHole s (written ss) × AreSigns ss

-- the word is written by signs
abbrev pub IsInside : List ℕ → Type 0
IsInside word = (signs : List Sign) × AreSigns signs × (word ≡ written signs)

-- the characters begin with an escape
abbrev pub BeginsEscape : List ℕ → Type 0
BeginsEscape cs = (s : Sign) × (more : List ℕ) × IsEscape s × (cs ≡ written (s ∷ []) ++ more)

-- a text or a piece of one, with these characters between its ends
abbrev pub IsBetween : TokenKind → List ℕ → List ℕ → Type 0
IsBetween k.Text cs inner = cs ≡ 39 ∷ (inner ++ 39 ∷ [])
IsBetween k.LeftPiece cs inner = cs ≡ 39 ∷ (inner ++ 36 ∷ 123 ∷ [])
IsBetween k.MiddlePiece cs inner = cs ≡ 125 ∷ (inner ++ 36 ∷ 123 ∷ [])
IsBetween k.RightPiece cs inner = cs ≡ 125 ∷ (inner ++ 39 ∷ [])
IsBetween kind cs inner = ⊥

-- a text in single quotes, or a piece of one
abbrev pub IsText : TokenKind → Type 0
IsText k.Text = Unit {0}
IsText k.LeftPiece = Unit {0}
IsText k.MiddlePiece = Unit {0}
IsText k.RightPiece = Unit {0}
IsText kind = ⊥

-- a text or a piece of one is written by signs
abbrev pub IsSigned : TokenKind → List ℕ → Type 0
IsSigned kind cs = (signs : List Sign) × AreSigns signs × IsBetween kind cs (written signs)

-- it is written by signs, and means what these mean
abbrev pub IsMeant : TokenKind → List ℕ → List ℕ → Type 0
IsMeant kind cs text = (signs : List Sign) × AreSigns signs × IsBetween kind cs (written signs) × (text ≡ meant signs)
