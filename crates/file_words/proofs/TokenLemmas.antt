-- Names among the tokens of a source are names of template expressions, texts among them are no longer than the source,
-- and there are no more tokens than bytes.
use Rattle.std.proofs.Common.{◌≡◌, inl, inr, ◌<◌, ◌≤◌, ℕ, pos, ◌+◌, Bool, true, false, true≢false, List, []}
use Rattle.std.proofs.Common.{◌∷◌, length, map, Option, Some, None, refl, sym, ap, ◌∙◌, subst, arith}
use Rattle.std.proofs.Common.{length-take, length-drop, length-append, codes, cond, zero, suc, ◌*◌, ◌-◌, ◌++◌}
use Rattle.std.specs.Prelude.{◌||◌, ◌&&◌, ◌==◌, ◌^◌, nat_le, nat_lt, bytes_eq, take, drop, unwrap_or, if◌then◌else◌}
use Rattle.std.specs.Str.{chars, chars_after, continuation_len, lead_bits}
use Rattle.std.specs.Char.{is_ascii_alphabetic, is_ascii_digit, to_ascii_lowercase}
use Rattle.std.specs.Int.{is_in_range}
use Rattle.std.specs.List.{AllByRecursion, list_all}
use Rattle.std.proofs.lemmas.Bool.{or_cases, or_left, or_right}
use Rattle.foundation.proofs.AsciiWords.{word}
use Rattle.foundation.proofs.Comparisons.{le_true, le_of_true, le_of_false, lt_true, lt_of_true, eq_of_true}
use Rattle.foundation.proofs.TruthValues.{both, and_true}
use Rattle.arm_expr.specs.Grammar.{Kind, letter, digit, blank, sign, kind_of, goes_on_name, GoOnName, IsName}
use Rattle.bicep_lexer.specs.Escapes.{hexadecimal, is_scalar, simple_escape}
use Rattle.bicep_lexer.specs.Skipped.{newline_length}
use Rattle.bicep_lexer.specs.Values.{with_digit, character_of, unescaped_from, unescaped, inside, below_newline}
use Rattle.bicep_lexer.specs.declared.value.Mode.{Mode}
use Rattle.bicep_lexer.specs.declared.value.Mode.TheVariants as mode
use Rattle.bicep_lexer.specs.Bytes.{is_letter, is_name_byte, number_from}
use Rattle.bicep_lexer.specs.Grammar.{IsWord, Part, bytes_of, tokens_of, InARow, Throughout, begins, Spells, AreSlices}
use Rattle.bicep_lexer.specs.Grammar.{turned, line_after_token, NoneIsOpen}
use Rattle.bicep_lexer.specs.Grammar as g
use Rattle.bicep_lexer.specs.Marks.{double_mark, single_mark}
use Rattle.bicep_lexer.specs.Reading.{Standing}
use Rattle.bicep_lexer.specs.declared.front.Line.{Line}
use Rattle.bicep_lexer.specs.declared.front.Line.TheVariants as line
use Rattle.bicep_lexer.specs.declared.front.Open.{Open}
use Rattle.bicep_lexer.specs.declared.front.Turn.{Turn}
use Rattle.bicep_lexer.specs.declared.kind.TokenKind.{TokenKind}
use Rattle.bicep_lexer.specs.declared.kind.TokenKind.TheVariants as k
use Rattle.bicep_lexer.proofs.Complete.{slices}
use Rattle.bicep_tree.specs.declared.leaf.Literal.{Literal}
use Rattle.bicep_tree.specs.declared.leaf.Literal.TheVariants as l
use Rattle.bicep_tree.specs.declared.terminal.Terminal.{Terminal}
use Rattle.bicep_tree.specs.declared.terminal.Terminal.TheVariants as t
use Rattle.bicep_tree.specs.Terminals.{word_terminal, kind_terminal, placed, Placed}
use Rattle.emitted_numbers.specs.Wholes.{IsWholeLiteral}
use Rattle.file_words.specs.Words.{IsShort}

-- ---- marks are no names

abbrev is_name_kind : TokenKind → Bool
is_name_kind k.Name = true
is_name_kind x = false

abbrev NoName : Option TokenKind → Type 0
NoName None = Unit {0}
NoName (Some x) = is_name_kind x ≡ false

unless : (b : Bool) (x : TokenKind) (o : Option TokenKind) → is_name_kind x ≡ false → NoName o
    → NoName (if b then Some x else o)
unless true x o e h = e
unless false x o e h = h

double_is_none : (a b : ℕ) → NoName (double_mark a b)
unfolding double_mark
double_is_none a b =
    unless (a == 61 && b == 61) k.Equals _ refl (unless (a == 61 && b == 126) k.EqualsInsensitive _ refl
    (unless (a == 33 && b == 61) k.NotEquals _ refl (unless (a == 33 && b == 126) k.NotEqualsInsensitive _ refl
    (unless (a == 60 && b == 61) k.LessOrEqual _ refl (unless (a == 62 && b == 61) k.GreaterOrEqual _ refl
    (unless (a == 38 && b == 38) k.And _ refl (unless (a == 124 && b == 124) k.Or _ refl
    (unless (a == 63 && b == 63) k.DoubleQuestion _ refl (unless (a == 46 && b == 63) k.SafeDot _ refl
    (unless (a == 91 && b == 63) k.SafeBracket _ refl (unless (a == 58 && b == 58) k.DoubleColon _ refl tt)))))))))))

single_is_none : (b : ℕ) → NoName (single_mark b)
unfolding single_mark
single_is_none b =
    unless (b == 64) k.At _ refl (unless (b == 46) k.Dot _ refl (unless (b == 40) k.OpenParen _ refl
    (unless (b == 41) k.CloseParen _ refl (unless (b == 91) k.OpenBracket _ refl
    (unless (b == 93) k.CloseBracket _ refl (unless (b == 44) k.Comma _ refl (unless (b == 58) k.Colon _ refl
    (unless (b == 63) k.Question _ refl (unless (b == 61) k.Assign _ refl (unless (b == 60) k.Less _ refl
    (unless (b == 62) k.Greater _ refl (unless (b == 43) k.Plus _ refl (unless (b == 45) k.Minus _ refl
    (unless (b == 42) k.Star _ refl (unless (b == 47) k.Slash _ refl (unless (b == 37) k.Percent _ refl
    (unless (b == 33) k.Not _ refl tt)))))))))))))))))

no_mark : (o : Option TokenKind) (kind : TokenKind) → NoName o → o ≡ Some kind → kind ≡ k.Name → ⊥
no_mark o kind h e n =
    let named : NoName (Some k.Name) = subst NoName (e ∙ ap (λ x. Some x) n) h in true≢false named

-- ---- the bytes of a name

abbrev AreNameBytes : List ℕ → Type 0
AreNameBytes bs = AllByRecursion (λ b. is_name_byte b ≡ true) bs

-- a letter, and then letters and digits
record IsNameWord (w : List ℕ) : Type 0 where
  first : ℕ
  others : List ℕ
  is : w ≡ first ∷ others
  begins_so : is_letter first ≡ true
  goes_on : AreNameBytes w

run_bytes : (w rest : List ℕ) → Throughout (begins is_name_byte) true w rest → AreNameBytes w
run_bytes [] rest h = tt
run_bytes (b ∷ w) rest h = (h.0, run_bytes w rest h.1)

word_is : (os : List Open) (row : Line) (at : ℕ) (kind : TokenKind) (w rest : List ℕ) (turn : Turn)
    → IsWord os row at kind w rest turn → kind ≡ k.Name → IsNameWord w
word_is os row at kind w rest turn (g.name q s first others is begin run) n = record {
  first = first;
  others = others;
  is = is;
  begins_so = begin;
  goes_on = run_bytes w rest run.0;
}
word_is os row at kind w rest turn (g.number q s first others is run few) n =
    let x : k.Number ≡ k.Name = sym q ∙ n in absurd cc
word_is os row at kind w rest turn (g.newline q s f is) n = let x : k.Newline ≡ k.Name = sym q ∙ n in absurd cc
word_is os row at kind w rest turn (g.text q s inside is i e) n = let x : k.Text ≡ k.Name = sym q ∙ n in absurd cc
word_is os row at kind w rest turn (g.left q s inside is i e) n = let x : k.LeftPiece ≡ k.Name = sym q ∙ n in absurd cc
word_is os row at kind w rest turn (g.middle q s quote o inside is i) n =
    let x : k.MiddlePiece ≡ k.Name = sym q ∙ n in absurd cc
word_is os row at kind w rest turn (g.right q s quote o inside is i) n =
    let x : k.RightPiece ≡ k.Name = sym q ∙ n in absurd cc
word_is os row at kind w rest turn (g.verbatim q s inside closing is i m c) n =
    let x : k.VerbatimText ≡ k.Name = sym q ∙ n in absurd cc
word_is os row at kind w rest turn (g.open_brace q s is) n = let x : k.OpenBrace ≡ k.Name = sym q ∙ n in absurd cc
word_is os row at kind w rest turn (g.close_brace q s o is) n = let x : k.CloseBrace ≡ k.Name = sym q ∙ n in absurd cc
word_is os row at kind w rest turn (g.lone_brace q s o is) n = let x : k.CloseBrace ≡ k.Name = sym q ∙ n in absurd cc
word_is os row at kind w rest turn (g.double s first second is m) n =
    absurd (no_mark (double_mark first second) kind (double_is_none first second) m n)
word_is os row at kind w rest turn (g.single s first is m d c e) n =
    absurd (no_mark (single_mark first) kind (single_is_none first) m n)

small_in : (a b c : ℕ) → b < 128 → is_in_range a b c ≡ true → nat_lt c 128 ≡ true
small_in a b c h e =
    let most = le_of_true c b (both (nat_le a c) (nat_le c b) e).1 in
    lt_true c 128 (omega (arith, h, most))

small_letter : (c : ℕ) → is_letter c ≡ true → nat_lt c 128 ≡ true
small_letter c e =
    elim (or_cases (is_ascii_alphabetic c) (c == 95) e) [
      | inl h ↦
          elim (or_cases (is_in_range 65 90 c) (is_in_range 97 122 c) h) [
            | inl i ↦ small_in 65 90 c (omega arith) i
            | inr i ↦ small_in 97 122 c (omega arith) i
          ]
      | inr h ↦ let is = eq_of_true c 95 h in lt_true c 128 (omega (arith, is))
    ]

small_byte : (c : ℕ) → is_name_byte c ≡ true → nat_lt c 128 ≡ true
small_byte c e =
    elim (or_cases (is_letter c) (is_ascii_digit c) e) [
      | inl h ↦ small_letter c h
      | inr h ↦ small_in 48 57 c (omega arith) h
    ]

all_small : (w : List ℕ) → AreNameBytes w → list_all (λ b. nat_lt b 128) w ≡ true
all_small [] h = refl
all_small (b ∷ w) h =
    and_true (nat_lt b 128) (list_all (λ c. nat_lt c 128) w) (small_byte b h.0) (all_small w h.1)

-- ---- they are names of template expressions

letter_kind : (c : ℕ) → is_letter c ≡ true → kind_of c ≡ letter
letter_kind c e =
    ap (λ b. if b then letter else (if is_ascii_digit c then digit else
    (if c == 32 || c == 9 || c == 13 || c == 10 then blank else sign))) e

goes_by : (b d : Bool) (other : Kind) → d ≡ true
    → goes_on_name (if b then letter else (if d then digit else other)) ≡ true
goes_by true d other e = refl
goes_by false d other e = ap (λ x. goes_on_name (if x then digit else other)) e

goes_on_byte : (c : ℕ) → is_name_byte c ≡ true → goes_on_name (kind_of c) ≡ true
goes_on_byte c e =
    elim (or_cases (is_letter c) (is_ascii_digit c) e) [
      | inl h ↦ ap goes_on_name (letter_kind c h)
      | inr h ↦
          goes_by (is_letter c) (is_ascii_digit c) (if c == 32 || c == 9 || c == 13 || c == 10 then blank else sign) h
    ]

all_go_on : (w : List ℕ) → AreNameBytes w → GoOnName w
all_go_on [] h = tt
all_go_on (c ∷ cs) h = (goes_on_byte c h.0, all_go_on cs h.1)

rest_bytes : (w : List ℕ) (first : ℕ) (others : List ℕ) → w ≡ first ∷ others → AreNameBytes w → AreNameBytes others
rest_bytes w first others e h = (subst AreNameBytes e h).1

name_word : (w : List ℕ) → IsNameWord w → IsName (chars w)
name_word w h =
    subst IsName (sym (word w (all_small w h.goes_on)))
    (subst IsName (sym h.is)
    (letter_kind h.first h.begins_so, all_go_on h.others (rest_bytes w h.first h.others h.is h.goes_on)))

-- ---- small letters

-- a letter in small form is one
small_letters : (c : ℕ) → 65 ≤ c → c < 91 → is_ascii_alphabetic (c + 32) ≡ true
small_letters c low high =
    or_right (is_in_range 65 90 (c + 32)) (is_in_range 97 122 (c + 32))
    (and_true (nat_le 97 (c + 32)) (nat_le (c + 32) 122) (le_true 97 (c + 32) (omega (arith, low)))
    (le_true (c + 32) 122 (omega (arith, high))))

small_by : (P : Kind → Type 0) (c : ℕ) (a b : Bool) → nat_lt c 65 ≡ a → nat_lt c 91 ≡ b → P (kind_of c) → P letter
    → P (kind_of (cond a c (cond b (c + 32) c)))
small_by P c true b e g h l = h
small_by P c false false e g h l = h
small_by P c false true e g h l =
    subst P
    (sym (letter_kind (c + 32) (or_left (is_ascii_alphabetic (c + 32)) (c + 32 == 95)
    (small_letters c (le_of_false c 65 e) (lt_of_true c 91 g))))) l

pub letter_of_small : (c : ℕ) → kind_of c ≡ letter → kind_of (to_ascii_lowercase c) ≡ letter
letter_of_small c e = small_by (λ k. k ≡ letter) c (nat_lt c 65) (nat_lt c 91) refl refl e refl

pub go_on_small : (c : ℕ) → goes_on_name (kind_of c) ≡ true → goes_on_name (kind_of (to_ascii_lowercase c)) ≡ true
go_on_small c e = small_by (λ k. goes_on_name k ≡ true) c (nat_lt c 65) (nat_lt c 91) refl refl e refl

-- ---- texts are no longer than their bytes

-- there are no more characters than bytes
after_short : (n c : ℕ) (bs : List ℕ) → length (chars_after n c bs) ≤ length bs + 1
after_short zero c [] = omega arith
after_short zero c (b ∷ bs) = let h = after_short (continuation_len b) (lead_bits b) bs in omega (arith, h)
after_short (suc n) c [] = omega arith
after_short (suc n) c (b ∷ bs) = let h = after_short n (c * 64 + (b - 128)) bs in omega (arith, h)

chars_short : (bs : List ℕ) → length (chars bs) ≤ length bs
unfolding chars
chars_short [] = omega arith
chars_short (b ∷ bs) = let h = after_short (continuation_len b) (lead_bits b) bs in omega (arith, h)

either_short : (b : Bool) (xs ys : List ℕ) (n : ℕ) → length xs ≤ n → length ys ≤ n
    → length (if b then xs else ys) ≤ n
either_short true xs ys n h g = h
either_short false xs ys n h g = g

character_short : (b : Bool) (v : ℕ) → length (if b then v ∷ [] else []) ≤ 1
character_short true v = omega arith
character_short false v = omega arith

unescaped_short : (m : Mode) (cs : List ℕ) → length (unescaped_from m cs) ≤ length cs
unescaped_short m [] = omega arith
unescaped_short mode.Plain (c ∷ cs) =
    let p = unescaped_short mode.Escaped cs in
    let q = unescaped_short mode.Plain cs in
    either_short (c == 92) _ (c ∷ unescaped_from mode.Plain cs) (suc (length cs)) (omega (arith, p)) (omega (arith, q))
unescaped_short mode.Escaped (c ∷ cs) =
    let p = unescaped_short (mode.Braced 0) cs in
    let q = unescaped_short mode.Plain cs in
    either_short (c == 117) _ (unwrap_or (simple_escape c) c ∷ unescaped_from mode.Plain cs) (suc (length cs))
    (omega (arith, p)) (omega (arith, q))
unescaped_short (mode.Braced v) (c ∷ cs) =
    let one = character_short (is_scalar v) v in
    let n = length-append (character_of v) (unescaped_from mode.Plain cs) in
    let p = unescaped_short mode.Plain cs in
    let q = unescaped_short (mode.Braced (with_digit v (hexadecimal c))) cs in
    either_short (c == 125) (character_of v ++ unescaped_from mode.Plain cs) _ (suc (length cs))
    (omega (arith, one, n, p)) (omega (arith, q))

inside_short : (front back : ℕ) (cs : List ℕ) → length (inside front back cs) ≤ length cs
inside_short front back cs =
    let p = length-take (length cs - (front + back)) (drop front cs) in
    let q = length-drop front cs in
    omega (arith, p, q)

text_short : (bytes : List ℕ) → length bytes ≤ 4194304 → IsShort (unescaped (inside 1 1 (chars bytes)))
text_short bytes few =
    let p = unescaped_short mode.Plain (inside 1 1 (chars bytes)) in
    let q = inside_short 1 1 (chars bytes) in
    let r = chars_short bytes in
    omega (arith, p, q, r, few)

verbatim_short : (bytes : List ℕ) → length bytes ≤ 4194304
    → IsShort (below_newline (inside 3 3 (chars bytes)))
verbatim_short bytes few =
    let p = length-drop (newline_length (inside 3 3 (chars bytes))) (inside 3 3 (chars bytes)) in
    let q = inside_short 3 3 (chars bytes) in
    let r = chars_short bytes in
    omega (arith, p, q, r, few)

-- ---- terminals

abbrev pub IsShortLiteral : Literal → Type 0
IsShortLiteral (l.Text s) = IsShort s
IsShortLiteral (l.Number z) = Unit {0}
IsShortLiteral l.True = Unit {0}
IsShortLiteral l.False = Unit {0}
IsShortLiteral l.Null = Unit {0}

-- a name among terminals is a name of template expressions, a number has 64 bits, and a text is short
abbrev pub IsFine : Terminal → Type 0
IsFine (t.Name w) = IsName w
IsFine (t.Literal v) = IsWholeLiteral v × IsShortLiteral v
IsFine x = Unit {0}

pick : (b : Bool) (x y : Terminal) → IsFine x → IsFine y → IsFine (if b then x else y)
pick true x y g h = g
pick false x y g h = h

word_fine : (w : List ℕ) → IsName w → IsFine (word_terminal w)
unfolding word_terminal
word_fine w h =
    pick (bytes_eq w (codes "true")) (t.Literal l.True) _ (tt, tt)
    (pick (bytes_eq w (codes "false")) (t.Literal l.False) _ (tt, tt)
    (pick (bytes_eq w (codes "null")) (t.Literal l.Null) (t.Name w) (tt, tt) h))

counted_fine : (n : ℕ) (b : Bool) → nat_lt n (2 ^ 63) ≡ b
    → IsFine (if b then t.Literal (l.Number (pos n)) else t.Other)
counted_fine n true e = (lt_of_true n (2 ^ 63) e, tt)
counted_fine n false e = tt

terminal_fine : (kind : TokenKind) (bytes : List ℕ) → (kind ≡ k.Name → IsNameWord bytes)
    → length bytes ≤ 4194304 → IsFine (kind_terminal kind bytes)
terminal_fine k.Name bytes h few = word_fine (chars bytes) (name_word bytes (h refl))
terminal_fine k.Number bytes h few =
    counted_fine (number_from 0 bytes) (nat_lt (number_from 0 bytes) (2 ^ 63)) refl
terminal_fine k.Newline bytes h few = tt
terminal_fine k.Text bytes h few = (tt, text_short bytes few)
terminal_fine k.LeftPiece bytes h few = tt
terminal_fine k.MiddlePiece bytes h few = tt
terminal_fine k.RightPiece bytes h few = tt
terminal_fine k.VerbatimText bytes h few = (tt, verbatim_short bytes few)
terminal_fine k.At bytes h few = tt
terminal_fine k.Dot bytes h few = tt
terminal_fine k.SafeDot bytes h few = tt
terminal_fine k.OpenParen bytes h few = tt
terminal_fine k.CloseParen bytes h few = tt
terminal_fine k.OpenBracket bytes h few = tt
terminal_fine k.SafeBracket bytes h few = tt
terminal_fine k.CloseBracket bytes h few = tt
terminal_fine k.OpenBrace bytes h few = tt
terminal_fine k.CloseBrace bytes h few = tt
terminal_fine k.Comma bytes h few = tt
terminal_fine k.Colon bytes h few = tt
terminal_fine k.DoubleColon bytes h few = tt
terminal_fine k.Question bytes h few = tt
terminal_fine k.DoubleQuestion bytes h few = tt
terminal_fine k.Or bytes h few = tt
terminal_fine k.And bytes h few = tt
terminal_fine k.Assign bytes h few = tt
terminal_fine k.Equals bytes h few = tt
terminal_fine k.NotEquals bytes h few = tt
terminal_fine k.EqualsInsensitive bytes h few = tt
terminal_fine k.NotEqualsInsensitive bytes h few = tt
terminal_fine k.Less bytes h few = tt
terminal_fine k.LessOrEqual bytes h few = tt
terminal_fine k.Greater bytes h few = tt
terminal_fine k.GreaterOrEqual bytes h few = tt
terminal_fine k.Plus bytes h few = tt
terminal_fine k.Minus bytes h few = tt
terminal_fine k.Star bytes h few = tt
terminal_fine k.Slash bytes h few = tt
terminal_fine k.Percent bytes h few = tt
terminal_fine k.Not bytes h few = tt

-- ---- the tokens of a source

abbrev pub AreFine : List Placed → Type 0
AreFine ts = AllByRecursion (λ x. IsFine x.1) ts

row_fine : (Then : List Open → Line → ℕ → Type 0) (rest : List ℕ) (os : List Open) (row : Line) (at : ℕ)
    (ps : List Part) → InARow Then rest os row at ps → length (bytes_of ps rest) ≤ 4194304
    → AreFine (map placed (tokens_of at ps))
row_fine Then rest os row at [] h few = tt
row_fine Then rest os row at (g.skip w next ∷ ps) h few =
    let n = length-append w (bytes_of ps rest) in
    row_fine Then rest os next (at + length w) ps h.1 (omega (arith, n, few))
row_fine Then rest os row at (g.token kind w turn ∷ ps) h few =
    let n = length-append w (bytes_of ps rest) in (
      terminal_fine kind w (word_is os row at kind w (bytes_of ps rest) turn h.0) (omega (arith, n, few)),
      row_fine Then rest (turned turn os) (line_after_token kind) (at + length w) ps h.1 (omega (arith, n, few)),
    )

pub tokens_fine : (source : List ℕ) (tokens : List Standing) → Spells source tokens → length source ≤ 4194304
    → AreFine (map placed tokens)
tokens_fine source tokens h few =
    let n = ap length h.2.is ∙ length-append h.0 (bytes_of h.1 []) in
    subst (λ (ts : List Standing). AreFine (map placed ts)) (sym h.3)
    (row_fine NoneIsOpen [] [] line.Front (length h.0) h.1 h.2.row (omega (arith, n, few)))

-- ---- there are no more of them than bytes

slice_ends : (source bytes : List ℕ) (at : ℕ) → 0 < length bytes → bytes ≡ take (length bytes) (drop at source)
    → at + length bytes ≤ length source
slice_ends source bytes at some e = by (drop at source) refl (ap length e)
  where
    by : (rest : List ℕ) → drop at source ≡ rest → length bytes ≡ length (take (length bytes) rest)
        → at + length bytes ≤ length source
    by rest r n =
        let dropped = ap length (sym r) ∙ length-drop at source in
        omega (arith, n, some, dropped, length-take (length bytes) rest)

count_within : (source : List ℕ) (from : ℕ) (ts : List Standing) → AreSlices source from ts → from ≤ length source
    → from + length ts ≤ length source
count_within source from [] h le = omega (arith, le)
count_within source from (x ∷ ts) h le =
    let some = h.1 in
    let begins = h.0 in
    let r = count_within source (x.1 + length x.2) ts h.3 (slice_ends source x.2 x.1 h.1 h.2) in
    omega (arith, some, begins, r)

pub count_of_tokens : (source : List ℕ) (tokens : List Standing) → Spells source tokens
    → length tokens ≤ length source
count_of_tokens source tokens h =
    let n = count_within source 0 tokens (slices source tokens h) (omega arith) in omega (arith, n)
