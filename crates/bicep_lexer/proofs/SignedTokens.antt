-- The texts that a source spells are written by signs.
use Rattle.std.proofs.Common.{ℕ, ◌+◌, ◌&&◌, eqb, List, [], ◌∷◌, ◌++◌, length, Option, Some, None}
use Rattle.std.proofs.Common.{sym, subst, ap, ◌∙◌}
use Rattle.bicep_lexer.specs.declared.kind.TokenKind.{TokenKind}
use Rattle.bicep_lexer.specs.declared.front.Open.{Open}
use Rattle.bicep_lexer.specs.declared.front.Line.{Line}
use Rattle.bicep_lexer.specs.declared.front.Line.TheVariants as line
use Rattle.bicep_lexer.specs.declared.front.Turn.{Turn}
use Rattle.bicep_lexer.specs.Marks.{double_mark, single_mark}
use Rattle.bicep_lexer.specs.Signs.{IsText, IsSigned}
use Rattle.bicep_lexer.specs.Reading.{Standing}
use Rattle.bicep_lexer.specs.Grammar.{IsWord, name, number, newline, text, left, middle, right, verbatim, open_brace}
use Rattle.bicep_lexer.specs.Grammar.{close_brace, lone_brace, double, single, Part, skip, token, bytes_of, tokens_of}
use Rattle.bicep_lexer.specs.Grammar.{turned, line_after_token, InARow, NoneIsOpen, Spells, AreSigned}
use Rattle.foundation.proofs.Choices.{if_else}

-- no mark is a text
abbrev IsNoText : Option TokenKind → Type 0
IsNoText None = Unit {0}
IsNoText (Some kind) = IsText kind → ⊥

single_no_text : (b : ℕ) → IsNoText (single_mark b)
unfolding single_mark
single_no_text b =
    let P : Option TokenKind → Type 0 = IsNoText in
    if_else P (eqb b 64) _ _ (λ y h. h) (λ n.
    if_else P (eqb b 46) _ _ (λ y h. h) (λ n.
    if_else P (eqb b 40) _ _ (λ y h. h) (λ n.
    if_else P (eqb b 41) _ _ (λ y h. h) (λ n.
    if_else P (eqb b 91) _ _ (λ y h. h) (λ n.
    if_else P (eqb b 93) _ _ (λ y h. h) (λ n.
    if_else P (eqb b 44) _ _ (λ y h. h) (λ n.
    if_else P (eqb b 58) _ _ (λ y h. h) (λ n.
    if_else P (eqb b 63) _ _ (λ y h. h) (λ n.
    if_else P (eqb b 61) _ _ (λ y h. h) (λ n.
    if_else P (eqb b 60) _ _ (λ y h. h) (λ n.
    if_else P (eqb b 62) _ _ (λ y h. h) (λ n.
    if_else P (eqb b 43) _ _ (λ y h. h) (λ n.
    if_else P (eqb b 45) _ _ (λ y h. h) (λ n.
    if_else P (eqb b 42) _ _ (λ y h. h) (λ n.
    if_else P (eqb b 47) _ _ (λ y h. h) (λ n.
    if_else P (eqb b 37) _ _ (λ y h. h) (λ n.
    if_else P (eqb b 33) _ _ (λ y h. h) (λ n. tt))))))))))))))))))

double_no_text : (a b : ℕ) → IsNoText (double_mark a b)
unfolding double_mark
double_no_text a b =
    let P : Option TokenKind → Type 0 = IsNoText in
    if_else P (eqb a 61 && eqb b 61) _ _ (λ y h. h) (λ n.
    if_else P (eqb a 61 && eqb b 126) _ _ (λ y h. h) (λ n.
    if_else P (eqb a 33 && eqb b 61) _ _ (λ y h. h) (λ n.
    if_else P (eqb a 33 && eqb b 126) _ _ (λ y h. h) (λ n.
    if_else P (eqb a 60 && eqb b 61) _ _ (λ y h. h) (λ n.
    if_else P (eqb a 62 && eqb b 61) _ _ (λ y h. h) (λ n.
    if_else P (eqb a 38 && eqb b 38) _ _ (λ y h. h) (λ n.
    if_else P (eqb a 124 && eqb b 124) _ _ (λ y h. h) (λ n.
    if_else P (eqb a 63 && eqb b 63) _ _ (λ y h. h) (λ n.
    if_else P (eqb a 46 && eqb b 63) _ _ (λ y h. h) (λ n.
    if_else P (eqb a 91 && eqb b 63) _ _ (λ y h. h) (λ n.
    if_else P (eqb a 58 && eqb b 58) _ _ (λ y h. h) (λ n. tt))))))))))))

word_signed : (os : List Open) (l : Line) (at : ℕ) (kind : TokenKind) (w rest : List ℕ) (t : Turn)
    → IsWord os l at kind w rest t → IsText kind → IsSigned kind w
word_signed os l at kind w rest t (name ks ts b bs ws letter run) h = absurd (subst IsText ks h)
word_signed os l at kind w rest t (number ks ts b bs ws run small) h = absurd (subst IsText ks h)
word_signed os l at kind w rest t (newline ks ts first is) h = absurd (subst IsText ks h)
word_signed os l at kind w rest t (text ks ts inside ws is short) h =
    subst (λ x. IsSigned x w) (sym ks) (is.0, is.1, ws ∙ ap (λ xs. 39 ∷ (xs ++ 39 ∷ [])) is.2)
word_signed os l at kind w rest t (left ks ts inside ws is short) h =
    subst (λ x. IsSigned x w) (sym ks) (is.0, is.1, ws ∙ ap (λ xs. 39 ∷ (xs ++ 36 ∷ 123 ∷ [])) is.2)
word_signed os l at kind w rest t (middle ks ts quote top inside ws is) h =
    subst (λ x. IsSigned x w) (sym ks) (is.0, is.1, ws ∙ ap (λ xs. 125 ∷ (xs ++ 36 ∷ 123 ∷ [])) is.2)
word_signed os l at kind w rest t (right ks ts quote top inside ws is) h =
    subst (λ x. IsSigned x w) (sym ks) (is.0, is.1, ws ∙ ap (λ xs. 125 ∷ (xs ++ 39 ∷ [])) is.2)
word_signed os l at kind w rest t (verbatim ks ts inside closing ws is counted some) h = absurd (subst IsText ks h)
word_signed os l at kind w rest t (open_brace ks ts ws) h = absurd (subst IsText ks h)
word_signed os l at kind w rest t (close_brace ks ts top ws) h = absurd (subst IsText ks h)
word_signed os l at kind w rest t (lone_brace ks ts top ws) h = absurd (subst IsText ks h)
word_signed os l at kind w rest t (double ts a b ws is) h =
    let none : IsNoText (Some kind) = subst IsNoText is (double_no_text a b) in
    absurd (none h)
word_signed os l at kind w rest t (single ts b ws is alone slashes star) h =
    let none : IsNoText (Some kind) = subst IsNoText is (single_no_text b) in
    absurd (none h)

row_signed : (Then : List Open → Line → ℕ → Type 0) (rest : List ℕ) (ps : List Part) (os : List Open) (l : Line)
    (at : ℕ) → InARow Then rest os l at ps → AreSigned (tokens_of at ps)
row_signed Then rest [] os l at row = tt
row_signed Then rest (skip w next ∷ ps) os l at row = row_signed Then rest ps os next (at + length w) row.1
row_signed Then rest (token kind w t ∷ ps) os l at row = (
  word_signed os l at kind w (bytes_of ps rest) t row.0,
  row_signed Then rest ps (turned t os) (line_after_token kind) (at + length w) row.1,
)

pub texts_signed : (source : List ℕ) (tokens : List Standing) → Spells source tokens → AreSigned tokens
texts_signed source tokens s =
    subst AreSigned (sym s.3) (row_signed NoneIsOpen [] s.1 [] line.Front (length s.0) s.2.row)
