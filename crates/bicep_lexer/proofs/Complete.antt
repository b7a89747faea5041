-- What a source spells is its reading.
use Rattle.std.proofs.Common.{◌≡◌, ◌≢◌, ℕ, suc, ◌+◌, ◌^◌, ◌<◌, ◌≤◌, Bool, true, false, cond, not, ◌&&◌, eqb, nat_lt}
use Rattle.std.proofs.Common.{nat_le, ◌==◌, List, [], ◌∷◌, ◌++◌, length, take, drop, Option, Some, None, Result, Ok}
use Rattle.std.proofs.Common.{Err, option_map, refl, ap, sym, subst, ◌∙◌, append_assoc, arith, ◌⊎◌, inl, inr}
use Rattle.std.proofs.Common.{length-append, append-nil}
use Rattle.std.specs.Char.{is_ascii_digit}
use Rattle.std.specs.List.{prefix_len, take_while}
use Rattle.std.proofs.lemmas.Bool.{eqb-true}
use Rattle.std.proofs.lemmas.Bool.Decides.{nat_tests}
use Rattle.bicep_lexer.specs.declared.kind.TokenKind.{TokenKind}
use Rattle.bicep_lexer.specs.declared.kind.TokenKind.TheVariants as k
use Rattle.bicep_lexer.specs.declared.fault.LexFault.{LexFault}
use Rattle.bicep_lexer.specs.declared.fault.LexFault.TheVariants as fault
use Rattle.bicep_lexer.specs.declared.front.Open.{Open}
use Rattle.bicep_lexer.specs.declared.front.Open.TheVariants as opened
use Rattle.bicep_lexer.specs.declared.front.Line.{Line}
use Rattle.bicep_lexer.specs.declared.front.Line.TheVariants as line
use Rattle.bicep_lexer.specs.declared.front.Turn.{Turn}
use Rattle.bicep_lexer.specs.declared.front.Turn.TheVariants as turn
use Rattle.bicep_lexer.specs.declared.front.Front.{Front}
use Rattle.bicep_lexer.specs.declared.front.Front.TheVariants as front
use Rattle.bicep_lexer.specs.declared.texts.PieceEnd.{PieceEnd}
use Rattle.bicep_lexer.specs.declared.texts.PieceEnd.TheVariants as ends
use Rattle.bicep_lexer.specs.Bytes.{is_letter, is_name_byte, is_blank, begins_with, number_from}
use Rattle.bicep_lexer.specs.Reader.Scanning.{name_length, digits_of}
use Rattle.bicep_lexer.specs.Reader.Scanning.{is_escape}
use Rattle.bicep_lexer.specs.Marks.{double_mark, single_mark}
use Rattle.bicep_lexer.specs.Signs.{BeginsEscape}
use Rattle.bicep_lexer.specs.Skipped.{newline_length, closes_comment, line_after_comment}
use Rattle.bicep_lexer.specs.Reader.Scanning.{line_length, comment_length}
use Rattle.bicep_lexer.specs.Skipped.{is_directive}
use Rattle.bicep_lexer.specs.Reader.Scanning.{piece_end, further, verbatim_length}
use Rattle.bicep_lexer.specs.Signs.{is_hole}
use Rattle.bicep_lexer.specs.Texts.{is_break, quotes}
use Rattle.bicep_lexer.specs.Faults.{unfinished}
use Rattle.bicep_lexer.specs.Grammar.{innermost}
use Rattle.bicep_lexer.specs.Reader.Fronts.{word, number_front, piece, verbatim, text_front, closed}
use Rattle.bicep_lexer.specs.Reader.Fronts.{close_front, commented, comment_front, newline_front}
use Rattle.bicep_lexer.specs.Grammar.{opens_comment}
use Rattle.bicep_lexer.specs.Reader.Fronts.{directive_front, single, double, mark_front, front_of}
use Rattle.bicep_lexer.specs.Reader.Steps.{Outcome, before, ended_by, reading_from, reading}
use Rattle.bicep_lexer.specs.Reading.{Standing}
use Rattle.bicep_lexer.specs.Grammar.{turned}
use Rattle.bicep_lexer.specs.Grammar.{Throughout, begins, IsRun, ends_line, IsLine, three_quotes, IsLineEnd}
use Rattle.bicep_lexer.specs.Grammar.{makes_double, IsWord, name, number, newline, text, left, middle, right}
use Rattle.bicep_lexer.specs.Grammar.{verbatim as verbatim_word, open_brace, close_brace, lone_brace}
use Rattle.bicep_lexer.specs.Grammar.{double as double_word, single as single_word, IsSkipped, blank, line_comment}
use Rattle.bicep_lexer.specs.Grammar.{comment, directive, folded, Part, skip, token, bytes_of, tokens_of}
use Rattle.bicep_lexer.specs.Grammar.{line_after_token, InARow, StandsBefore, NoneIsOpen, Spells, AreSlices}
use Rattle.bicep_lexer.specs.Reader.Steps.{then_rest, OnFront}
use Rattle.bicep_lexer.proofs.Spans.{front_span}
use Rattle.std.proofs.lemmas.List.{drop-drop}
use Rattle.foundation.proofs.Options.{none_there}
use Rattle.foundation.proofs.TruthValues.{first_of_both, of_not, of_not_false}
use Rattle.bicep_lexer.specs.Faults.{BeginsPiece, BeginsNothing, IsFault, open_at_end, bad_number, bad_escape}
use Rattle.bicep_lexer.specs.Faults.{open_at_line, open_at_file, open_verbatim, open_comment, bad_character, Refuses}
use Rattle.foundation.proofs.Choices.{if_else, cond_false, cond_true}
use Rattle.bicep_lexer.proofs.SignLaws.{Passes, inside_passes, reads_escape}
use Rattle.bicep_lexer.proofs.Steps.{by_front, read_front, reading-skip}

pub not_equal : (a b : ℕ) → a ≢ b → eqb a b ≡ false
not_equal a b h = grind (arith, nat_tests)

-- a run is as long as the longest front
run_is : (test : ℕ → Bool) (w rest : List ℕ) → Throughout (begins test) true w rest → begins test rest ≡ false
    → take_while test (w ++ rest) ≡ w
run_is test [] [] h stop = refl
run_is test [] (c ∷ rest) h stop = ap (λ n. take n (c ∷ rest)) (cond_false (test c) (1 + prefix_len test rest) 0 stop)
run_is test (b ∷ w) rest h stop =
    let e : 1 + prefix_len test (w ++ rest) ≡ suc (prefix_len test (w ++ rest)) = omega arith in
    ap (λ n. take n (b ∷ (w ++ rest))) (cond_true (test b) (1 + prefix_len test (w ++ rest)) 0 h.0 ∙ e)
    ∙ ap (λ xs. b ∷ xs) (run_is test w rest h.1 stop)

further-zero : (e : PieceEnd) → further 0 e ≡ e
further-zero (ends.Quote m) = let e : 0 + m ≡ m = omega arith in ap (λ k. ends.Quote k) e
further-zero (ends.Hole m) = let e : 0 + m ≡ m = omega arith in ap (λ k. ends.Hole k) e
further-zero ends.Line = refl
further-zero ends.File = refl
further-zero (ends.BadEscape m) = let e : 0 + m ≡ m = omega arith in ap (λ k. ends.BadEscape k) e

further-suc : (n : ℕ) (e : PieceEnd) → further 1 (further n e) ≡ further (suc n) e
further-suc n (ends.Quote m) = let e : 1 + (n + m) ≡ suc n + m = omega arith in ap (λ k. ends.Quote k) e
further-suc n (ends.Hole m) = let e : 1 + (n + m) ≡ suc n + m = omega arith in ap (λ k. ends.Hole k) e
further-suc n ends.Line = refl
further-suc n ends.File = refl
further-suc n (ends.BadEscape m) = let e : 1 + (n + m) ≡ suc n + m = omega arith in ap (λ k. ends.BadEscape k) e

-- a piece ends where what is inside it ends
inside_ends : (escaped : Bool) (w tail : List ℕ) (e : PieceEnd) → Passes escaped w tail → piece_end false tail ≡ e
    → piece_end escaped (w ++ tail) ≡ further (length w) e
inside_ends escaped [] tail e h is = ap (λ x. piece_end x tail) h ∙ is ∙ sym (further-zero e)
inside_ends true (b ∷ w) tail e h is = ap (further 1) (inside_ends false w tail e h is) ∙ further-suc (length w) e
inside_ends false (b ∷ w) tail e h is =
    let bs = w ++ tail in
    cond_false (eqb b 39) (ends.Quote 1) _ (not_equal b 39 h.0)
    ∙ cond_false (is_hole b bs) (ends.Hole 2) _ h.1
    ∙ cond_false (is_break b) ends.Line _ h.2
    ∙ (elim (eqb b 92) as (λ t. eqb b 92 ≡ t → Passes t w tail
    → cond t (cond (is_escape bs) (further 1 (piece_end true bs)) (ends.BadEscape 0))
    (further 1 (piece_end false bs)) ≡ further 1 (piece_end t bs)) [
      | true ↦ λ y i. cond_true (is_escape bs) (further 1 (piece_end true bs)) (ends.BadEscape 0) (h.3 (eqb-true b 92 y))
      | false ↦ λ y i. refl
    ] refl h.4)
    ∙ ap (further 1) (inside_ends (eqb b 92) w tail e h.4 is)
    ∙ further-suc (length w) e

line_is : (w rest : List ℕ) → Throughout ends_line false w rest → (rest ≡ []) ⊎ (ends_line rest ≡ true)
    → line_length (w ++ rest) ≡ length w
line_is [] [] h stop = refl
line_is [] (c ∷ rest) h (inl e) = absurd cc
line_is [] (c ∷ rest) h (inr e) =
    cond_false (eqb (newline_length (c ∷ rest)) 0) (suc (line_length rest)) 0
    (of_not (eqb (newline_length (c ∷ rest)) 0) e)
line_is (b ∷ w) rest h stop =
    cond_true (eqb (newline_length (b ∷ (w ++ rest))) 0) (suc (line_length (w ++ rest))) 0
    (of_not_false (eqb (newline_length (b ∷ (w ++ rest))) 0) h.0)
    ∙ ap suc (line_is w rest h.1 stop)

comment_is : (w rest : List ℕ) → Throughout closes_comment false w (42 ∷ 47 ∷ rest)
    → comment_length (w ++ 42 ∷ 47 ∷ rest) ≡ Some (length w + 2)
comment_is [] rest h = refl
comment_is (b ∷ w) rest h =
    let e : suc (length w + 2) ≡ suc (length w) + 2 = omega arith in
    cond_false (closes_comment (b ∷ (w ++ 42 ∷ 47 ∷ rest))) (Some 2)
    (option_map suc (comment_length (w ++ 42 ∷ 47 ∷ rest))) h.0
    ∙ ap (option_map suc) (comment_is w rest h.1)
    ∙ ap (λ n. Some n) e

no_quotes : nat_le 3 (quotes 5 []) ≡ true → ⊥
unfolding quotes
no_quotes e = cc

verbatim_is : (w tail : List ℕ) → Throughout three_quotes false w tail → nat_le 3 (quotes 5 tail) ≡ true
    → verbatim_length (w ++ tail) ≡ Some (length w + quotes 5 tail)
verbatim_is [] [] h some = absurd (no_quotes some)
verbatim_is [] (b ∷ bs) h some =
    let e : quotes 5 (b ∷ bs) ≡ 0 + quotes 5 (b ∷ bs) = omega arith in
    cond_true (nat_le 3 (quotes 5 (b ∷ bs))) (Some (quotes 5 (b ∷ bs))) (option_map suc (verbatim_length bs)) some
    ∙ ap (λ n. Some n) e
verbatim_is (b ∷ w) tail h some =
    let e : suc (length w + quotes 5 tail) ≡ suc (length w) + quotes 5 tail = omega arith in
    cond_false (nat_le 3 (quotes 5 (b ∷ (w ++ tail)))) (Some (quotes 5 (b ∷ (w ++ tail))))
    (option_map suc (verbatim_length (w ++ tail))) h.0
    ∙ ap (option_map suc) (verbatim_is w tail h.1 some)
    ∙ ap (λ n. Some n) e

-- what the front is where a token begins
pub data TokenFront (kind : TokenKind) (n : ℕ) (t : Turn) (o : Result Front LexFault) : Type 0 where
  newline_is : kind ≡ k.Newline → t ≡ turn.Stays → o ≡ Ok (front.Newline n) → TokenFront kind n t o
  word_is : line_after_token kind ≡ line.Within → o ≡ Ok (front.Word kind n t) → TokenFront kind n t o

word_as : (kind kind' : TokenKind) (n n' : ℕ) (t t' : Turn) (o : Result Front LexFault) → kind ≡ kind' → n ≡ n'
    → t ≡ t' → line_after_token kind' ≡ line.Within → o ≡ Ok (front.Word kind' n' t') → TokenFront kind n t o
word_as kind kind' n n' t t' o ks ns ts within h =
    word_is (ap line_after_token ks ∙ within)
    (h ∙ sym (ap (λ x. Ok (front.Word x n t)) ks ∙ ap (λ x. Ok (front.Word kind' x t)) ns
    ∙ ap (λ x. Ok (front.Word kind' n' x)) ts))

letter_no_blank : (b : ℕ) → is_letter b ≡ true → is_blank b ≡ false
letter_no_blank b h = grind (arith, nat_tests)

digit_no_blank : (b : ℕ) → is_ascii_digit b ≡ true → is_blank b ≡ false
digit_no_blank b h = grind (arith, nat_tests)

digit_no_letter : (b : ℕ) → is_ascii_digit b ≡ true → is_letter b ≡ false
digit_no_letter b h = grind (arith, nat_tests)

name_front : (at : ℕ) (os : List Open) (l : Line) (b : ℕ) (bs rest : List ℕ) → is_letter b ≡ true
    → IsRun is_name_byte (b ∷ bs) rest
    → front_of at os l (b ∷ (bs ++ rest)) ≡ Ok (front.Word k.Name (length (b ∷ bs)) turn.Stays)
unfolding front_of name_length
name_front at os l b bs rest letter run =
    cond_false (is_blank b) _ _ (letter_no_blank b letter)
    ∙ cond_true (is_letter b) _ _ letter
    ∙ ap (λ xs. word k.Name (length xs)) (run_is is_name_byte (b ∷ bs) rest run.0 run.1)

number_is_front : (at : ℕ) (w bytes : List ℕ) → digits_of bytes ≡ w → number_from 0 w < 2 ^ 63
    → number_front at bytes ≡ Ok (front.Word k.Number (length w) turn.Stays)
unfolding number_front
number_is_front at w bytes is small =
    let lt : nat_lt (number_from 0 w) (2 ^ 63) ≡ true = grind (arith, nat_tests) in
    ap (λ ds. cond (nat_lt (number_from 0 ds) (2 ^ 63)) (word k.Number (length ds)) (Err (fault.BadNumber at))) is
    ∙ cond_true (nat_lt (number_from 0 w) (2 ^ 63)) _ _ lt

digits_front : (at : ℕ) (os : List Open) (l : Line) (b : ℕ) (bs rest : List ℕ) → IsRun is_ascii_digit (b ∷ bs) rest
    → number_from 0 (b ∷ bs) < 2 ^ 63
    → front_of at os l (b ∷ (bs ++ rest)) ≡ Ok (front.Word k.Number (length (b ∷ bs)) turn.Stays)
unfolding front_of
digits_front at os l b bs rest run small =
    cond_false (is_blank b) _ _ (digit_no_blank b run.0.0)
    ∙ cond_false (is_letter b) _ _ (digit_no_letter b run.0.0)
    ∙ cond_true (is_ascii_digit b) _ _ run.0.0
    ∙ number_is_front at (b ∷ bs) (b ∷ (bs ++ rest)) (run_is is_ascii_digit (b ∷ bs) rest run.0 run.1) small

quote_front : (at : ℕ) (os : List Open) (l : Line) (bs : List ℕ)
    → front_of at os l (39 ∷ bs) ≡ text_front at os (39 ∷ bs)
unfolding front_of
quote_front at os l bs = refl

close_is_front : (at : ℕ) (os : List Open) (l : Line) (bs : List ℕ)
    → front_of at os l (125 ∷ bs) ≡ closed at os (innermost os) (125 ∷ bs)
unfolding front_of close_front
close_is_front at os l bs = refl

-- a piece with what is inside and its end
inside_piece : (quote at : ℕ) (os : List Open) (last other : TokenKind × Turn) (w tail : List ℕ) (e : PieceEnd)
    → Passes false w tail → piece_end false tail ≡ e
    → piece quote at os last other (piece_end false (w ++ tail)) ≡ piece quote at os last other (further (length w) e)
inside_piece quote at os last other w tail e h is = ap (piece quote at os last other) (inside_ends false w tail e h is)

text_is_front : (at : ℕ) (os : List Open) (bs : List ℕ) → quotes 3 (39 ∷ bs) == 3 ≡ false
    → text_front at os (39 ∷ bs) ≡ piece at at os (k.Text, turn.Stays) (k.LeftPiece, turn.Opens (opened.Text at))
    (piece_end false bs)
unfolding text_front
text_is_front at os bs h = cond_false (eqb (quotes 3 (39 ∷ bs)) 3) _ _ h

-- `(w ++ ends) ++ rest`, with ends in front of the rest
along : (w ends rest : List ℕ) → (w ++ ends) ++ rest ≡ w ++ (ends ++ rest)
along w ends rest = append_assoc w ends rest

whole_front : (at : ℕ) (os : List Open) (l : Line) (w rest : List ℕ) → Passes false w (39 ∷ rest)
    → quotes 3 (39 ∷ ((w ++ 39 ∷ []) ++ rest)) == 3 ≡ false
    → front_of at os l (39 ∷ ((w ++ 39 ∷ []) ++ rest)) ≡ Ok (front.Word k.Text (length w + 1 + 1) turn.Stays)
whole_front at os l w rest inside short =
    quote_front at os l ((w ++ 39 ∷ []) ++ rest)
    ∙ text_is_front at os ((w ++ 39 ∷ []) ++ rest) short
    ∙ ap (λ xs. piece at at os (k.Text, turn.Stays) (k.LeftPiece, turn.Opens (opened.Text at)) (piece_end false xs))
    (along w (39 ∷ []) rest)
    ∙ inside_piece at at os (k.Text, turn.Stays) (k.LeftPiece, turn.Opens (opened.Text at)) w (39 ∷ rest)
    (ends.Quote 1) inside refl

left_front : (at : ℕ) (os : List Open) (l : Line) (w rest : List ℕ) → Passes false w (36 ∷ 123 ∷ rest)
    → quotes 3 (39 ∷ ((w ++ 36 ∷ 123 ∷ []) ++ rest)) == 3 ≡ false
    → front_of at os l (39 ∷ ((w ++ 36 ∷ 123 ∷ []) ++ rest))
    ≡ Ok (front.Word k.LeftPiece (length w + 2 + 1) (turn.Opens (opened.Text at)))
left_front at os l w rest inside short =
    quote_front at os l ((w ++ 36 ∷ 123 ∷ []) ++ rest)
    ∙ text_is_front at os ((w ++ 36 ∷ 123 ∷ []) ++ rest) short
    ∙ ap (λ xs. piece at at os (k.Text, turn.Stays) (k.LeftPiece, turn.Opens (opened.Text at)) (piece_end false xs))
    (along w (36 ∷ 123 ∷ []) rest)
    ∙ inside_piece at at os (k.Text, turn.Stays) (k.LeftPiece, turn.Opens (opened.Text at)) w (36 ∷ 123 ∷ rest)
    (ends.Hole 2) inside refl

right_front : (at quote : ℕ) (os : List Open) (l : Line) (w rest : List ℕ) → innermost os ≡ Some (opened.Text quote)
    → Passes false w (39 ∷ rest)
    → front_of at os l (125 ∷ ((w ++ 39 ∷ []) ++ rest)) ≡ Ok (front.Word k.RightPiece (length w + 1 + 1) turn.Closes)
right_front at quote os l w rest top inside =
    close_is_front at os l ((w ++ 39 ∷ []) ++ rest)
    ∙ ap (λ o. closed at os o (125 ∷ ((w ++ 39 ∷ []) ++ rest))) top
    ∙ ap (λ xs. piece quote at os (k.RightPiece, turn.Closes) (k.MiddlePiece, turn.Stays) (piece_end false xs))
    (along w (39 ∷ []) rest)
    ∙ inside_piece quote at os (k.RightPiece, turn.Closes) (k.MiddlePiece, turn.Stays) w (39 ∷ rest)
    (ends.Quote 1) inside refl

middle_front : (at quote : ℕ) (os : List Open) (l : Line) (w rest : List ℕ) → innermost os ≡ Some (opened.Text quote)
    → Passes false w (36 ∷ 123 ∷ rest)
    → front_of at os l (125 ∷ ((w ++ 36 ∷ 123 ∷ []) ++ rest))
    ≡ Ok (front.Word k.MiddlePiece (length w + 2 + 1) turn.Stays)
middle_front at quote os l w rest top inside =
    close_is_front at os l ((w ++ 36 ∷ 123 ∷ []) ++ rest)
    ∙ ap (λ o. closed at os o (125 ∷ ((w ++ 36 ∷ 123 ∷ []) ++ rest))) top
    ∙ ap (λ xs. piece quote at os (k.RightPiece, turn.Closes) (k.MiddlePiece, turn.Stays) (piece_end false xs))
    (along w (36 ∷ 123 ∷ []) rest)
    ∙ inside_piece quote at os (k.RightPiece, turn.Closes) (k.MiddlePiece, turn.Stays) w (36 ∷ 123 ∷ rest)
    (ends.Hole 2) inside refl

verbatim_is_front : (at : ℕ) (os : List Open) (bs : List ℕ) (n : ℕ) → verbatim_length bs ≡ Some n
    → text_front at os (39 ∷ 39 ∷ 39 ∷ bs) ≡ Ok (front.Word k.VerbatimText (n + 3) turn.Stays)
unfolding text_front quotes
verbatim_is_front at os bs n h = ap (verbatim at os) h

verbatim_front : (at : ℕ) (os : List Open) (l : Line) (w closing rest : List ℕ)
    → Throughout three_quotes false w (closing ++ rest) → length closing ≡ quotes 5 (closing ++ rest)
    → 3 ≤ length closing
    → front_of at os l (39 ∷ 39 ∷ 39 ∷ ((w ++ closing) ++ rest))
    ≡ Ok (front.Word k.VerbatimText (length w + length closing + 3) turn.Stays)
verbatim_front at os l w closing rest inside is some =
    let three : nat_le 3 (quotes 5 (closing ++ rest)) ≡ true = grind (arith, nat_tests) in
    quote_front at os l (39 ∷ 39 ∷ ((w ++ closing) ++ rest))
    ∙ verbatim_is_front at os ((w ++ closing) ++ rest) (length w + quotes 5 (closing ++ rest))
    (ap verbatim_length (along w closing rest) ∙ verbatim_is w (closing ++ rest) inside three)
    ∙ ap (λ n. Ok (front.Word k.VerbatimText (length w + n + 3) turn.Stays)) (sym is)

newline_is_front : (at : ℕ) (os : List Open) (l : Line) (rest : List ℕ) (w : List ℕ) → IsLineEnd w
    → front_of at os l (w ++ rest) ≡ newline_front l (length w)
unfolding front_of
newline_is_front at os l rest w (inl e) = ap (λ x. front_of at os l (x ++ rest)) e
    ∙ sym (ap (λ x. newline_front l (length x)) e)
newline_is_front at os l rest w (inr e) = ap (λ x. front_of at os l (x ++ rest)) e
    ∙ sym (ap (λ x. newline_front l (length x)) e)

newline_first : (l : Line) (n : ℕ) → l ≢ line.Folded → newline_front l n ≡ Ok (front.Newline n)
newline_first line.Folded n h = absurd (h refl)
newline_first line.Front n h = refl
newline_first line.Within n h = refl

-- a byte that begins no other word, and nothing that is skipped
abbrev pub NoOther : ℕ → Type 0
NoOther b = (is_blank b ≡ false) × (is_letter b ≡ false) × (is_ascii_digit b ≡ false) × (eqb b 39 ≡ false)
    × (eqb b 10 ≡ false) × (eqb b 13 ≡ false) × (eqb b 35 ≡ false) × (eqb b 123 ≡ false) × (eqb b 125 ≡ false)

abbrev pub SingleFacts : Option TokenKind → ℕ → Type 0
SingleFacts None b = Unit {0}
SingleFacts (Some kind) b = NoOther b × (line_after_token kind ≡ line.Within)

abbrev pub DoubleFacts : Option TokenKind → ℕ → Type 0
DoubleFacts None a = Unit {0}
DoubleFacts (Some kind) a = NoOther a × (eqb a 47 ≡ false) × (line_after_token kind ≡ line.Within)

other_as : (b x : ℕ) → eqb b x ≡ true → NoOther x → NoOther b
other_as b x y h = subst NoOther (sym (eqb-true b x y)) h

double_as : (a b x z : ℕ) → (eqb a x && eqb b z) ≡ true → NoOther x → eqb x 47 ≡ false → NoOther a × (eqb a 47 ≡ false)
double_as a b x z y h slash =
    let first : eqb a x ≡ true = first_of_both (eqb a x) (eqb b z) y in
    (other_as a x first h, subst (λ n. eqb n 47 ≡ false) (sym (eqb-true a x first)) slash)

pub single_facts : (b : ℕ) → SingleFacts (single_mark b) b
unfolding single_mark
single_facts b =
    let P : Option TokenKind → Type 0 = λ o. SingleFacts o b in
    if_else P (eqb b 64) _ _ (λ y. (other_as b 64 y (refl, refl, refl, refl, refl, refl, refl, refl, refl), refl)) (λ n.
    if_else P (eqb b 46) _ _ (λ y. (other_as b 46 y (refl, refl, refl, refl, refl, refl, refl, refl, refl), refl)) (λ n.
    if_else P (eqb b 40) _ _ (λ y. (other_as b 40 y (refl, refl, refl, refl, refl, refl, refl, refl, refl), refl)) (λ n.
    if_else P (eqb b 41) _ _ (λ y. (other_as b 41 y (refl, refl, refl, refl, refl, refl, refl, refl, refl), refl)) (λ n.
    if_else P (eqb b 91) _ _ (λ y. (other_as b 91 y (refl, refl, refl, refl, refl, refl, refl, refl, refl), refl)) (λ n.
    if_else P (eqb b 93) _ _ (λ y. (other_as b 93 y (refl, refl, refl, refl, refl, refl, refl, refl, refl), refl)) (λ n.
    if_else P (eqb b 44) _ _ (λ y. (other_as b 44 y (refl, refl, refl, refl, refl, refl, refl, refl, refl), refl)) (λ n.
    if_else P (eqb b 58) _ _ (λ y. (other_as b 58 y (refl, refl, refl, refl, refl, refl, refl, refl, refl), refl)) (λ n.
    if_else P (eqb b 63) _ _ (λ y. (other_as b 63 y (refl, refl, refl, refl, refl, refl, refl, refl, refl), refl)) (λ n.
    if_else P (eqb b 61) _ _ (λ y. (other_as b 61 y (refl, refl, refl, refl, refl, refl, refl, refl, refl), refl)) (λ n.
    if_else P (eqb b 60) _ _ (λ y. (other_as b 60 y (refl, refl, refl, refl, refl, refl, refl, refl, refl), refl)) (λ n.
    if_else P (eqb b 62) _ _ (λ y. (other_as b 62 y (refl, refl, refl, refl, refl, refl, refl, refl, refl), refl)) (λ n.
    if_else P (eqb b 43) _ _ (λ y. (other_as b 43 y (refl, refl, refl, refl, refl, refl, refl, refl, refl), refl)) (λ n.
    if_else P (eqb b 45) _ _ (λ y. (other_as b 45 y (refl, refl, refl, refl, refl, refl, refl, refl, refl), refl)) (λ n.
    if_else P (eqb b 42) _ _ (λ y. (other_as b 42 y (refl, refl, refl, refl, refl, refl, refl, refl, refl), refl)) (λ n.
    if_else P (eqb b 47) _ _ (λ y. (other_as b 47 y (refl, refl, refl, refl, refl, refl, refl, refl, refl), refl)) (λ n.
    if_else P (eqb b 37) _ _ (λ y. (other_as b 37 y (refl, refl, refl, refl, refl, refl, refl, refl, refl), refl)) (λ n.
    if_else P (eqb b 33) _ _ (λ y. (other_as b 33 y (refl, refl, refl, refl, refl, refl, refl, refl, refl), refl))
    (λ n. tt))))))))))))))))))

pub double_facts : (a b : ℕ) → DoubleFacts (double_mark a b) a
unfolding double_mark
double_facts a b =
    let P : Option TokenKind → Type 0 = λ o. DoubleFacts o a in
    if_else P (eqb a 61 && eqb b 61) _ _ (λ y. let d =
    double_as a b 61 61 y (refl, refl, refl, refl, refl, refl, refl, refl, refl) refl in (d.0, d.1, refl)) (λ n.
    if_else P (eqb a 61 && eqb b 126) _ _ (λ y. let d =
    double_as a b 61 126 y (refl, refl, refl, refl, refl, refl, refl, refl, refl) refl in (d.0, d.1, refl)) (λ n.
    if_else P (eqb a 33 && eqb b 61) _ _ (λ y. let d =
    double_as a b 33 61 y (refl, refl, refl, refl, refl, refl, refl, refl, refl) refl in (d.0, d.1, refl)) (λ n.
    if_else P (eqb a 33 && eqb b 126) _ _ (λ y. let d =
    double_as a b 33 126 y (refl, refl, refl, refl, refl, refl, refl, refl, refl) refl in (d.0, d.1, refl)) (λ n.
    if_else P (eqb a 60 && eqb b 61) _ _ (λ y. let d =
    double_as a b 60 61 y (refl, refl, refl, refl, refl, refl, refl, refl, refl) refl in (d.0, d.1, refl)) (λ n.
    if_else P (eqb a 62 && eqb b 61) _ _ (λ y. let d =
    double_as a b 62 61 y (refl, refl, refl, refl, refl, refl, refl, refl, refl) refl in (d.0, d.1, refl)) (λ n.
    if_else P (eqb a 38 && eqb b 38) _ _ (λ y. let d =
    double_as a b 38 38 y (refl, refl, refl, refl, refl, refl, refl, refl, refl) refl in (d.0, d.1, refl)) (λ n.
    if_else P (eqb a 124 && eqb b 124) _ _ (λ y. let d =
    double_as a b 124 124 y (refl, refl, refl, refl, refl, refl, refl, refl, refl) refl in (d.0, d.1, refl)) (λ n.
    if_else P (eqb a 63 && eqb b 63) _ _ (λ y. let d =
    double_as a b 63 63 y (refl, refl, refl, refl, refl, refl, refl, refl, refl) refl in (d.0, d.1, refl)) (λ n.
    if_else P (eqb a 46 && eqb b 63) _ _ (λ y. let d =
    double_as a b 46 63 y (refl, refl, refl, refl, refl, refl, refl, refl, refl) refl in (d.0, d.1, refl)) (λ n.
    if_else P (eqb a 91 && eqb b 63) _ _ (λ y. let d =
    double_as a b 91 63 y (refl, refl, refl, refl, refl, refl, refl, refl, refl) refl in (d.0, d.1, refl)) (λ n.
    if_else P (eqb a 58 && eqb b 58) _ _ (λ y. let d =
    double_as a b 58 58 y (refl, refl, refl, refl, refl, refl, refl, refl, refl) refl in (d.0, d.1, refl))
    (λ n. tt))))))))))))

no_line_end : (b : ℕ) (bs : List ℕ) → eqb b 10 ≡ false → eqb b 13 ≡ false → newline_length (b ∷ bs) ≡ 0
no_line_end b bs lf cr = cond_false (eqb b 10) 1 _ lf
    ∙ cond_false (eqb b 13 && begins_with 10 bs) 2 0 (ap (λ t. t && begins_with 10 bs) cr)

marks_front : (at : ℕ) (os : List Open) (l : Line) (b : ℕ) (bs : List ℕ) → NoOther b
    → opens_comment 47 (b ∷ bs) ≡ false → opens_comment 42 (b ∷ bs) ≡ false
    → front_of at os l (b ∷ bs) ≡ mark_front at (b ∷ bs)
unfolding front_of
marks_front at os l b bs h slashes star =
    cond_false (is_blank b) _ _ h.0
    ∙ cond_false (is_letter b) _ _ h.1
    ∙ cond_false (is_ascii_digit b) _ _ h.2
    ∙ cond_false (eqb b 39) _ _ h.3
    ∙ cond_false (opens_comment 47 (b ∷ bs)) _ _ slashes
    ∙ cond_false (opens_comment 42 (b ∷ bs)) _ _ star
    ∙ cond_false (not (eqb (newline_length (b ∷ bs)) 0)) _ _ (ap (λ n. not (eqb n 0)) (no_line_end b bs h.4 h.5))
    ∙ cond_false (eqb b 35) _ _ h.6
    ∙ cond_false (eqb b 123) _ _ h.7
    ∙ cond_false (eqb b 125) _ _ h.8

single_mark_front : (at b : ℕ) (rest : List ℕ) → makes_double b rest ≡ false
    → mark_front at (b ∷ rest) ≡ single at (single_mark b)
unfolding mark_front
single_mark_front at b [] h = refl
single_mark_front at b (c ∷ rest) h = ap (double at b) (none_there (double_mark b c) h)

single_front : (at : ℕ) (os : List Open) (l : Line) (b : ℕ) (rest : List ℕ) (kind : TokenKind)
    → single_mark b ≡ Some kind → makes_double b rest ≡ false → opens_comment 47 (b ∷ rest) ≡ false
    → opens_comment 42 (b ∷ rest) ≡ false → front_of at os l (b ∷ rest) ≡ Ok (front.Word kind 1 turn.Stays)
single_front at os l b rest kind is alone slashes star =
    let facts : SingleFacts (Some kind) b = subst (λ o. SingleFacts o b) is (single_facts b) in
    marks_front at os l b rest facts.0 slashes star ∙ single_mark_front at b rest alone ∙ ap (single at) is

double_mark_front : (at a b : ℕ) (rest : List ℕ) → mark_front at (a ∷ b ∷ rest) ≡ double at a (double_mark a b)
unfolding mark_front
double_mark_front at a b rest = refl

double_front : (at : ℕ) (os : List Open) (l : Line) (a b : ℕ) (rest : List ℕ) (kind : TokenKind)
    → double_mark a b ≡ Some kind → front_of at os l (a ∷ b ∷ rest) ≡ Ok (front.Word kind 2 turn.Stays)
double_front at os l a b rest kind is =
    let facts : DoubleFacts (Some kind) a = subst (λ o. DoubleFacts o a) is (double_facts a b) in
    marks_front at os l a (b ∷ rest) facts.0 (ap (λ t. t && begins_with 47 (b ∷ rest)) facts.1)
    (ap (λ t. t && begins_with 42 (b ∷ rest)) facts.1)
    ∙ double_mark_front at a b rest
    ∙ ap (double at a) is

open_front : (at : ℕ) (os : List Open) (l : Line) (rest : List ℕ)
    → front_of at os l (123 ∷ rest) ≡ Ok (front.Word k.OpenBrace 1 (turn.Opens opened.Brace))
unfolding front_of
open_front at os l rest = refl

-- the front, where a word begins
word_front : (os : List Open) (l : Line) (at : ℕ) (kind : TokenKind) (w rest : List ℕ) (t : Turn)
    → IsWord os l at kind w rest t → TokenFront kind (length w) t (front_of at os l (w ++ rest))
word_front os l at kind w rest t (name ks ts b bs ws letter run) =
    word_as kind k.Name (length w) (length (b ∷ bs)) t turn.Stays (front_of at os l (w ++ rest)) ks (ap length ws) ts
    refl
    (ap (λ x. front_of at os l (x ++ rest)) ws
    ∙ name_front at os l b bs rest letter (subst (λ x. IsRun is_name_byte x rest) ws run))
word_front os l at kind w rest t (number ks ts b bs ws run small) =
    word_as kind k.Number (length w) (length (b ∷ bs)) t turn.Stays (front_of at os l (w ++ rest)) ks
    (ap length ws) ts refl
    (ap (λ x. front_of at os l (x ++ rest)) ws
    ∙ digits_front at os l b bs rest (subst (λ x. IsRun is_ascii_digit x rest) ws run)
    (subst (λ x. number_from 0 x < 2 ^ 63) ws small))
word_front os l at kind w rest t (newline ks ts first is) =
    newline_is ks ts (newline_is_front at os l rest w is ∙ newline_first l (length w) first)
word_front os l at kind w rest t (text ks ts inside ws is short) =
    let n : suc (length (inside ++ 39 ∷ [])) ≡ length inside + 1 + 1 = omega (arith, length-append inside (39 ∷ [])) in
    word_as kind k.Text (length w) (length inside + 1 + 1) t turn.Stays (front_of at os l (w ++ rest)) ks
    (ap length ws ∙ n) ts refl
    (ap (λ x. front_of at os l (x ++ rest)) ws
    ∙ whole_front at os l inside rest (inside_passes inside (39 ∷ rest) refl is)
    (subst (λ x. quotes 3 (x ++ rest) == 3 ≡ false) ws short))
word_front os l at kind w rest t (left ks ts inside ws is short) =
    let n : suc (length (inside ++ 36 ∷ 123 ∷ [])) ≡ length inside + 2 + 1 =
    omega (arith, length-append inside (36 ∷ 123 ∷ [])) in
    word_as kind k.LeftPiece (length w) (length inside + 2 + 1) t (turn.Opens (opened.Text at))
    (front_of at os l (w ++ rest)) ks (ap length ws ∙ n) ts refl
    (ap (λ x. front_of at os l (x ++ rest)) ws
    ∙ left_front at os l inside rest (inside_passes inside (36 ∷ 123 ∷ rest) refl is)
    (subst (λ x. quotes 3 (x ++ rest) == 3 ≡ false) ws short))
word_front os l at kind w rest t (middle ks ts quote top inside ws is) =
    let n : suc (length (inside ++ 36 ∷ 123 ∷ [])) ≡ length inside + 2 + 1 =
    omega (arith, length-append inside (36 ∷ 123 ∷ [])) in
    word_as kind k.MiddlePiece (length w) (length inside + 2 + 1) t turn.Stays (front_of at os l (w ++ rest)) ks
    (ap length ws ∙ n) ts refl
    (ap (λ x. front_of at os l (x ++ rest)) ws ∙ middle_front at quote os l inside rest top
    (inside_passes inside (36 ∷ 123 ∷ rest) refl is))
word_front os l at kind w rest t (right ks ts quote top inside ws is) =
    let n : suc (length (inside ++ 39 ∷ [])) ≡ length inside + 1 + 1 = omega (arith, length-append inside (39 ∷ [])) in
    word_as kind k.RightPiece (length w) (length inside + 1 + 1) t turn.Closes (front_of at os l (w ++ rest)) ks
    (ap length ws ∙ n) ts refl
    (ap (λ x. front_of at os l (x ++ rest)) ws ∙ right_front at quote os l inside rest top
    (inside_passes inside (39 ∷ rest) refl is))
word_front os l at kind w rest t (verbatim_word ks ts inside closing ws is counted some) =
    let n : suc (suc (suc (length (inside ++ closing)))) ≡ length inside + length closing + 3 =
    omega (arith, length-append inside closing) in
    word_as kind k.VerbatimText (length w) (length inside + length closing + 3) t turn.Stays
    (front_of at os l (w ++ rest)) ks (ap length ws ∙ n) ts refl
    (ap (λ x. front_of at os l (x ++ rest)) ws ∙ verbatim_front at os l inside closing rest is counted some)
word_front os l at kind w rest t (open_brace ks ts ws) =
    word_as kind k.OpenBrace (length w) 1 t (turn.Opens opened.Brace) (front_of at os l (w ++ rest)) ks
    (ap length ws) ts refl
    (ap (λ x. front_of at os l (x ++ rest)) ws ∙ open_front at os l rest)
word_front os l at kind w rest t (close_brace ks ts top ws) =
    word_as kind k.CloseBrace (length w) 1 t turn.Closes (front_of at os l (w ++ rest)) ks (ap length ws) ts refl
    (ap (λ x. front_of at os l (x ++ rest)) ws ∙ close_is_front at os l rest
    ∙ ap (λ o. closed at os o (125 ∷ rest)) top)
word_front os l at kind w rest t (lone_brace ks ts top ws) =
    word_as kind k.CloseBrace (length w) 1 t turn.Stays (front_of at os l (w ++ rest)) ks (ap length ws) ts refl
    (ap (λ x. front_of at os l (x ++ rest)) ws ∙ close_is_front at os l rest
    ∙ ap (λ o. closed at os o (125 ∷ rest)) top)
word_front os l at kind w rest t (double_word ts a b ws is) =
    let facts : DoubleFacts (Some kind) a = subst (λ o. DoubleFacts o a) is (double_facts a b) in
    word_as kind kind (length w) 2 t turn.Stays (front_of at os l (w ++ rest)) refl (ap length ws) ts facts.2
    (ap (λ x. front_of at os l (x ++ rest)) ws ∙ double_front at os l a b rest kind is)
word_front os l at kind w rest t (single_word ts b ws is alone slashes star) =
    let facts : SingleFacts (Some kind) b = subst (λ o. SingleFacts o b) is (single_facts b) in
    word_as kind kind (length w) 1 t turn.Stays (front_of at os l (w ++ rest)) refl (ap length ws) ts facts.1
    (ap (λ x. front_of at os l (x ++ rest)) ws ∙ single_front at os l b rest kind is alone slashes star)

pub take_seam : (w rest : List ℕ) → take (length w) (w ++ rest) ≡ w
take_seam [] [] = refl
take_seam [] (c ∷ rest) = refl
take_seam (b ∷ w) rest = ap (λ xs. b ∷ xs) (take_seam w rest)

pub drop_seam : (w rest : List ℕ) → drop (length w) (w ++ rest) ≡ rest
drop_seam [] [] = refl
drop_seam [] (c ∷ rest) = refl
drop_seam (b ∷ w) rest = drop_seam w rest

blank_front : (at : ℕ) (os : List Open) (l : Line) (b : ℕ) (rest : List ℕ) → is_blank b ≡ true
    → front_of at os l (b ∷ rest) ≡ Ok (front.Skipped 1 l)
unfolding front_of
blank_front at os l b rest h = cond_true (is_blank b) _ _ h

slashes_front : (at : ℕ) (os : List Open) (l : Line) (rest : List ℕ)
    → front_of at os l (47 ∷ 47 ∷ rest) ≡ Ok (front.Skipped (line_length (47 ∷ 47 ∷ rest)) l)
unfolding front_of
slashes_front at os l rest = refl

star_front : (at : ℕ) (os : List Open) (l : Line) (rest : List ℕ)
    → front_of at os l (47 ∷ 42 ∷ rest) ≡ commented at os l (47 ∷ 42 ∷ rest) (comment_length rest)
unfolding front_of comment_front
star_front at os l rest = refl

comment_is_front : (at : ℕ) (os : List Open) (l : Line) (w rest : List ℕ)
    → Throughout closes_comment false w (42 ∷ 47 ∷ rest)
    → front_of at os l (47 ∷ 42 ∷ ((w ++ 42 ∷ 47 ∷ []) ++ rest))
    ≡ Ok (front.Skipped (length w + 2 + 2) (line_after_comment l (w ++ 42 ∷ 47 ∷ [])))
comment_is_front at os l w rest h =
    let n : length (w ++ 42 ∷ 47 ∷ []) ≡ length w + 2 = omega (arith, length-append w (42 ∷ 47 ∷ [])) in
    let bytes = (w ++ 42 ∷ 47 ∷ []) ++ rest in
    let front_bytes : take (length w + 2) bytes ≡ w ++ 42 ∷ 47 ∷ [] = ap (λ i. take i bytes) (sym n)
    ∙ take_seam (w ++ 42 ∷ 47 ∷ []) rest in
    star_front at os l bytes
    ∙ ap (commented at os l (47 ∷ 42 ∷ bytes)) (ap comment_length (along w (42 ∷ 47 ∷ []) rest) ∙ comment_is w rest h)
    ∙ ap (λ xs. Ok (front.Skipped (length w + 2 + 2) (line_after_comment l xs))) front_bytes

hash_front : (at : ℕ) (os : List Open) (l : Line) (rest : List ℕ)
    → front_of at os l (35 ∷ rest) ≡ directive_front at l (35 ∷ rest)
unfolding front_of
hash_front at os l rest = refl

directive_is : (at : ℕ) (l : Line) (bytes : List ℕ) → l ≢ line.Within → is_directive bytes ≡ true
    → directive_front at l bytes ≡ Ok (front.Skipped (line_length bytes) l)
directive_is at line.Within bytes h is = absurd (h refl)
directive_is at line.Front bytes h is = cond_true (is_directive bytes) _ _ is
directive_is at line.Folded bytes h is = cond_true (is_directive bytes) _ _ is

skipped_as : (n n' : ℕ) (l l' : Line) (o : Result Front LexFault) → n ≡ n' → l ≡ l' → o ≡ Ok (front.Skipped n' l')
    → o ≡ Ok (front.Skipped n l)
skipped_as n n' l l' o ns ls h = h ∙ sym (ap (λ x. Ok (front.Skipped x l)) ns ∙ ap (λ x. Ok (front.Skipped n' x)) ls)

-- the front, where something is skipped
skipped_front : (os : List Open) (l : Line) (at : ℕ) (w rest : List ℕ) (next : Line) → IsSkipped l w rest next
    → front_of at os l (w ++ rest) ≡ Ok (front.Skipped (length w) next)
skipped_front os l at w rest next (blank ns b is ws) =
    skipped_as (length w) 1 next l (front_of at os l (w ++ rest)) (ap length ws) ns
    (ap (λ x. front_of at os l (x ++ rest)) ws ∙ blank_front at os l b rest is)
skipped_front os l at w rest next (line_comment ns others ws is) =
    let row : IsLine (47 ∷ 47 ∷ others) rest = subst (λ x. IsLine x rest) ws is in
    skipped_as (length w) (length (47 ∷ 47 ∷ others)) next l (front_of at os l (w ++ rest)) (ap length ws) ns
    (ap (λ x. front_of at os l (x ++ rest)) ws ∙ slashes_front at os l (others ++ rest)
    ∙ ap (λ n. Ok (front.Skipped n l)) (line_is (47 ∷ 47 ∷ others) rest row.0 row.1))
skipped_front os l at w rest next (comment inside ns ws is) =
    let n : suc (suc (length (inside ++ 42 ∷ 47 ∷ []))) ≡ length inside + 2 + 2 =
    omega (arith, length-append inside (42 ∷ 47 ∷ [])) in
    skipped_as (length w) (length inside + 2 + 2) next (line_after_comment l (inside ++ 42 ∷ 47 ∷ []))
    (front_of at os l (w ++ rest)) (ap length ws ∙ n) ns
    (ap (λ x. front_of at os l (x ++ rest)) ws ∙ comment_is_front at os l inside rest is)
skipped_front os l at w rest next (directive ns place others ws is row) =
    let row' : IsLine (35 ∷ others) rest = subst (λ x. IsLine x rest) ws row in
    skipped_as (length w) (length (35 ∷ others)) next l (front_of at os l (w ++ rest)) (ap length ws) ns
    (ap (λ x. front_of at os l (x ++ rest)) ws ∙ hash_front at os l (others ++ rest)
    ∙ directive_is at l (35 ∷ (others ++ rest)) place (subst (λ x. is_directive (x ++ rest) ≡ true) ws is)
    ∙ ap (λ n. Ok (front.Skipped n l)) (line_is (35 ∷ others) rest row'.0 row'.1))
skipped_front os l at w rest next (folded ns ls is) =
    newline_is_front at os l rest w is ∙ ap (λ x. newline_front x (length w)) ls
    ∙ sym (ap (λ x. Ok (front.Skipped (length w) x)) ns)

no_front : (at : ℕ) (os : List Open) (l : Line) (f : Front) → front_of at os l [] ≡ Ok f → ⊥
unfolding front_of
no_front at os l f e = cc

read_by : (at : ℕ) (os : List Open) (l : Line) (left : List ℕ) (f : Front) → front_of at os l left ≡ Ok f
    → reading_from 0 at os l left ≡ by_front at os left (Ok f)
read_by at os l [] f h = absurd (no_front at os l f h)
read_by at os l (b ∷ bs) f h = read_front at os l (b ∷ bs) (omega arith) ∙ ap (by_front at os (b ∷ bs)) h

-- the reading after a token
token_read : (os : List Open) (l : Line) (at : ℕ) (kind : TokenKind) (w rest : List ℕ) (t : Turn)
    → TokenFront kind (length w) t (front_of at os l (w ++ rest))
    → reading_from 0 at os l (w ++ rest) ≡ before (kind, at, w)
    (reading_from 0 (at + length w) (turned t os) (line_after_token kind) rest)
token_read os l at kind w rest t (newline_is ks ts is) =
    read_by at os l (w ++ rest) (front.Newline (length w)) is
    ∙ ap (λ xs. before (k.Newline, at, xs)
    (reading_from 0 (at + length w) os line.Folded (drop (length w) (w ++ rest)))) (take_seam w rest)
    ∙ ap (λ xs. before (k.Newline, at, w) (reading_from 0 (at + length w) os line.Folded xs)) (drop_seam w rest)
    ∙ ap (λ x. before (k.Newline, at, w) (reading_from 0 (at + length w) (turned x os) line.Folded rest)) (sym ts)
    ∙ ap (λ x. before (x, at, w) (reading_from 0 (at + length w) (turned t os) (line_after_token x) rest)) (sym ks)
token_read os l at kind w rest t (word_is within is) =
    read_by at os l (w ++ rest) (front.Word kind (length w) t) is
    ∙ ap (λ xs. before (kind, at, xs)
    (reading_from 0 (at + length w) (turned t os) line.Within (drop (length w) (w ++ rest)))) (take_seam w rest)
    ∙ ap (λ xs. before (kind, at, w) (reading_from 0 (at + length w) (turned t os) line.Within xs)) (drop_seam w rest)
    ∙ ap (λ x. before (kind, at, w) (reading_from 0 (at + length w) (turned t os) x rest)) (sym within)

then_rest-more : (t : Standing) (ts : List Standing) (o : Outcome) → before t (then_rest ts o) ≡ then_rest (t ∷ ts) o
then_rest-more t ts (Ok us) = refl
then_rest-more t ts (Err f) = refl

then_rest-none : (o : Outcome) → then_rest [] o ≡ o
then_rest-none (Ok us) = refl
then_rest-none (Err f) = refl

-- parts in a row are read as their tokens, and then the rest as it is read
row_is_read : (Then : List Open → Line → ℕ → Type 0) (rest : List ℕ) (final : Outcome)
    → ((os : List Open) (l : Line) (at : ℕ) → Then os l at → reading_from 0 at os l rest ≡ final)
    → (ps : List Part) (os : List Open) (l : Line) (at : ℕ) → InARow Then rest os l at ps
    → reading_from 0 at os l (bytes_of ps rest) ≡ then_rest (tokens_of at ps) final
row_is_read Then rest final last [] os l at h = last os l at h ∙ sym (then_rest-none final)
row_is_read Then rest final last (skip w next ∷ ps) os l at h =
    read_by at os l (w ++ bytes_of ps rest) (front.Skipped (length w) next)
    (skipped_front os l at w (bytes_of ps rest) next h.0)
    ∙ ap (reading_from 0 (at + length w) os next) (drop_seam w (bytes_of ps rest))
    ∙ row_is_read Then rest final last ps os next (at + length w) h.1
row_is_read Then rest final last (token kind w t ∷ ps) os l at h =
    token_read os l at kind w (bytes_of ps rest) t (word_front os l at kind w (bytes_of ps rest) t h.0)
    ∙ ap (before (kind, at, w))
    (row_is_read Then rest final last ps (turned t os) (line_after_token kind) (at + length w) h.1)
    ∙ then_rest-more (kind, at, w) (tokens_of (at + length w) ps) final

source_is_read : (Then : List Open → Line → ℕ → Type 0) (rest : List ℕ) (final : Outcome)
    → ((os : List Open) (l : Line) (at : ℕ) → Then os l at → reading_from 0 at os l rest ≡ final)
    → (source mark : List ℕ) (ps : List Part) → StandsBefore source rest mark ps Then
    → reading source ≡ then_rest (tokens_of (length mark) ps) final
unfolding reading
source_is_read Then rest final last source mark ps s =
    let n = length mark in
    let within : n ≤ length source = omega (arith, length-append mark (bytes_of ps rest), ap length s.is) in
    let e : 0 + n ≡ n = omega arith in
    ap (λ i. reading_from i 0 [] line.Front source) (sym s.is_mark)
    ∙ reading-skip n 0 [] line.Front source within
    ∙ ap (λ i. reading_from 0 i [] line.Front (drop n source)) e
    ∙ ap (λ xs. reading_from 0 n [] line.Front (drop n xs)) s.is
    ∙ ap (reading_from 0 n [] line.Front) (drop_seam mark (bytes_of ps rest))
    ∙ row_is_read Then rest final last ps [] line.Front n s.row

-- a source that spells tokens is read as them
pub complete : (source : List ℕ) (tokens : List Standing) → Spells source tokens → reading source ≡ Ok tokens
complete source tokens s =
    source_is_read NoneIsOpen [] (Ok []) (λ os l at h. ap ended_by h) source s.0 s.1 s.2
    ∙ ap (λ x. Ok x) (append-nil (tokens_of (length s.0) s.1) ∙ sym s.3)

-- where a digit run is too large
too_large_front : (at : ℕ) (w bytes : List ℕ) → digits_of bytes ≡ w → 2 ^ 63 ≤ number_from 0 w
    → number_front at bytes ≡ Err (fault.BadNumber at)
unfolding number_front
too_large_front at w bytes is large =
    let lt : nat_lt (number_from 0 w) (2 ^ 63) ≡ false = grind (arith, nat_tests) in
    ap (λ ds. cond (nat_lt (number_from 0 ds) (2 ^ 63)) (word k.Number (length ds)) (Err (fault.BadNumber at))) is
    ∙ cond_false (nat_lt (number_from 0 w) (2 ^ 63)) _ _ lt

too_large : (at : ℕ) (os : List Open) (l : Line) (b : ℕ) (bs rest : List ℕ) → IsRun is_ascii_digit (b ∷ bs) rest
    → 2 ^ 63 ≤ number_from 0 (b ∷ bs) → front_of at os l (b ∷ (bs ++ rest)) ≡ Err (fault.BadNumber at)
unfolding front_of
too_large at os l b bs rest run large =
    cond_false (is_blank b) _ _ (digit_no_blank b run.0.0)
    ∙ cond_false (is_letter b) _ _ (digit_no_letter b run.0.0)
    ∙ cond_true (is_ascii_digit b) _ _ run.0.0
    ∙ too_large_front at (b ∷ bs) (b ∷ (bs ++ rest)) (run_is is_ascii_digit (b ∷ bs) rest run.0 run.1) large

-- the front of a piece that ends in a fault
piece_fault : (at : ℕ) (os : List Open) (l : Line) (b quote : ℕ) (bs : List ℕ) (e : PieceEnd) (f : LexFault)
    → BeginsPiece os at b (b ∷ bs) quote → piece_end false bs ≡ e
    → ((last other : TokenKind × Turn) → piece quote at os last other e ≡ Err f) → front_of at os l (b ∷ bs) ≡ Err f
piece_fault at os l b quote bs e f (inl h) is gives =
    let bytes : List ℕ → List ℕ = λ xs. xs in
    ap (λ x. front_of at os l (x ∷ bs)) h.0
    ∙ quote_front at os l bs
    ∙ text_is_front at os bs (subst (λ x. quotes 3 (x ∷ bs) == 3 ≡ false) h.0 h.2)
    ∙ ap (piece at at os (k.Text, turn.Stays) (k.LeftPiece, turn.Opens (opened.Text at))) is
    ∙ ap (λ q. piece q at os (k.Text, turn.Stays) (k.LeftPiece, turn.Opens (opened.Text at)) e) (sym h.1)
    ∙ gives (k.Text, turn.Stays) (k.LeftPiece, turn.Opens (opened.Text at))
piece_fault at os l b quote bs e f (inr h) is gives =
    ap (λ x. front_of at os l (x ∷ bs)) h.0
    ∙ close_is_front at os l bs
    ∙ ap (λ o. closed at os o (125 ∷ bs)) h.1
    ∙ ap (piece quote at os (k.RightPiece, turn.Closes) (k.MiddlePiece, turn.Stays)) is
    ∙ gives (k.RightPiece, turn.Closes) (k.MiddlePiece, turn.Stays)

break_ends : (c : ℕ) (rest : List ℕ) → is_break c ≡ true → piece_end false (c ∷ rest) ≡ ends.Line
break_ends c rest h =
    cond_false (eqb c 39) _ _ (no_39 c h) ∙ cond_false (is_hole c rest) _ _ (ap (λ t. t && begins_with 123 rest) (no_36 c h))
    ∙ cond_true (is_break c) _ _ h
  where
    no_39 : (c : ℕ) → is_break c ≡ true → eqb c 39 ≡ false
    no_39 c h = grind (arith, nat_tests)

    no_36 : (c : ℕ) → is_break c ≡ true → eqb c 36 ≡ false
    no_36 c h = grind (arith, nat_tests)

wrong_ends : (rest : List ℕ) → is_escape rest ≡ false → piece_end false (92 ∷ rest) ≡ ends.BadEscape 0
wrong_ends rest h = cond_false (is_escape rest) (further 1 (piece_end true rest)) (ends.BadEscape 0) h

no_escape : (rest : List ℕ) → ¬ BeginsEscape (92 ∷ rest) → is_escape rest ≡ false
no_escape rest h = elim (is_escape rest) as (λ t. is_escape rest ≡ t → t ≡ false) [
  | true ↦ λ e. absurd (h (reads_escape rest e))
  | false ↦ λ e. refl
] refl

break_no_brace : (c : ℕ) → is_break c ≡ true → eqb c 123 ≡ false
break_no_brace c h = grind (arith, nat_tests)

open_verbatim_is : (w : List ℕ) → Throughout three_quotes false w [] → verbatim_length w ≡ None
open_verbatim_is [] h = refl
open_verbatim_is (b ∷ w) h =
    cond_false (nat_le 3 (quotes 5 (b ∷ w))) _ _ (subst (λ xs. three_quotes (b ∷ xs) ≡ false) (append-nil w) h.0)
    ∙ ap (option_map suc) (open_verbatim_is w h.1)

open_comment_is : (w : List ℕ) → Throughout closes_comment false w [] → comment_length w ≡ None
open_comment_is [] h = refl
open_comment_is (b ∷ w) h =
    cond_false (closes_comment (b ∷ w)) _ _ (subst (λ xs. closes_comment (b ∷ xs) ≡ false) (append-nil w) h.0)
    ∙ ap (option_map suc) (open_comment_is w h.1)

open_verbatim_front : (at : ℕ) (os : List Open) (bs : List ℕ) → verbatim_length bs ≡ None
    → text_front at os (39 ∷ 39 ∷ 39 ∷ bs) ≡ Err (unfinished os (fault.OpenText at))
unfolding text_front quotes
open_verbatim_front at os bs h = ap (verbatim at os) h

no_directive_front : (at : ℕ) (l : Line) (bytes : List ℕ) → (l ≢ line.Within → is_directive bytes ≡ false)
    → directive_front at l bytes ≡ Err (fault.BadCharacter at)
no_directive_front at line.Within bytes h = refl
no_directive_front at line.Front bytes h = cond_false (is_directive bytes) _ _ (h (λ e. cc))
no_directive_front at line.Folded bytes h = cond_false (is_directive bytes) _ _ (h (λ e. cc))

-- where no word begins
nothing_front : (at : ℕ) (os : List Open) (l : Line) (b : ℕ) (bs : List ℕ) → BeginsNothing l b (b ∷ bs)
    → makes_double b bs ≡ false → front_of at os l (b ∷ bs) ≡ Err (fault.BadCharacter at)
unfolding front_of
nothing_front at os l b bs h alone =
    cond_false (is_blank b) _ _ h.no_blank
    ∙ cond_false (is_letter b) _ _ h.no_letter
    ∙ cond_false (is_ascii_digit b) _ _ h.no_digit
    ∙ cond_false (eqb b 39) _ _ h.no_quote
    ∙ cond_false (opens_comment 47 (b ∷ bs)) _ _ h.no_line_comment
    ∙ cond_false (opens_comment 42 (b ∷ bs)) _ _ h.no_comment
    ∙ cond_false (not (eqb (newline_length (b ∷ bs)) 0)) _ _ h.no_line_end
    ∙ if_else (λ o. o ≡ Err (fault.BadCharacter at)) (eqb b 35) _ _
    (λ y. no_directive_front at l (b ∷ bs) (h.no_directive (eqb-true b 35 y)))
    (λ n. cond_false (eqb b 123) _ _ h.no_open_brace ∙ cond_false (eqb b 125) _ _ h.no_close_brace
    ∙ single_mark_front at b bs alone ∙ ap (single at) h.no_mark)

fault_read : (at : ℕ) (os : List Open) (l : Line) (bytes : List ℕ) (f : LexFault) → 0 < length bytes
    → front_of at os l bytes ≡ Err f → reading_from 0 at os l bytes ≡ Err f
fault_read at os l bytes f some h = read_front at os l bytes some ∙ ap (by_front at os bytes) h

cons_some : (b : ℕ) (bs bytes : List ℕ) → bytes ≡ b ∷ bs → 0 < length bytes
cons_some b bs bytes h = omega (arith, ap length h)

-- a fault at the front is read
fault_is_read : (os : List Open) (l : Line) (at : ℕ) (bytes : List ℕ) (f : LexFault) → IsFault os l at bytes f
    → reading_from 0 at os l bytes ≡ Err f
fault_is_read os l at bytes f (open_at_end is quote top named) = ap (λ xs. reading_from 0 at os l xs) is
    ∙ ap ended_by top ∙ sym (ap (λ x. Err x) named)
fault_is_read os l at bytes f (bad_number first others rest is run large named) =
    fault_read at os l bytes f (cons_some first (others ++ rest) bytes is)
    (ap (front_of at os l) is ∙ too_large at os l first others rest run large ∙ sym (ap (λ x. Err x) named))
fault_is_read os l at bytes f (bad_escape b quote inside rest opens is ok wrong named) =
    let n : length inside + 0 ≡ length inside = omega arith in
    fault_read at os l bytes f (cons_some b (inside ++ 92 ∷ rest) bytes is)
    (ap (front_of at os l) is
    ∙ piece_fault at os l b quote (inside ++ 92 ∷ rest) (further (length inside) (ends.BadEscape 0)) f
    (subst (λ xs. BeginsPiece os at b xs quote) is opens)
    (inside_ends false inside (92 ∷ rest) (ends.BadEscape 0) (inside_passes inside (92 ∷ rest) refl ok)
    (wrong_ends rest (no_escape rest wrong)))
    (λ last other. ap (λ i. Err (fault.BadEscape (at + (i + 1)))) n ∙ sym (ap (λ x. Err x) named)))
fault_is_read os l at bytes f (open_at_line b quote inside end rest opens is ok break named) =
    fault_read at os l bytes f (cons_some b (inside ++ end ∷ rest) bytes is)
    (ap (front_of at os l) is
    ∙ piece_fault at os l b quote (inside ++ end ∷ rest) ends.Line f
    (subst (λ xs. BeginsPiece os at b xs quote) is opens)
    (inside_ends false inside (end ∷ rest) ends.Line (inside_passes inside (end ∷ rest) (break_no_brace end break) ok)
    (break_ends end rest break))
    (λ last other. sym (ap (λ x. Err x) named)))
fault_is_read os l at bytes f (open_at_file b quote inside opens is ok named) =
    fault_read at os l bytes f (cons_some b inside bytes is)
    (ap (front_of at os l) is
    ∙ piece_fault at os l b quote inside ends.File f (subst (λ xs. BeginsPiece os at b xs quote) is opens)
    (ap (piece_end false) (sym (append-nil inside))
    ∙ inside_ends false inside [] ends.File (inside_passes inside [] refl ok) refl)
    (λ last other. sym (ap (λ x. Err x) named)))
fault_is_read os l at bytes f (open_verbatim inside is ok named) =
    fault_read at os l bytes f (cons_some 39 (39 ∷ 39 ∷ inside) bytes is)
    (ap (front_of at os l) is ∙ quote_front at os l (39 ∷ 39 ∷ inside)
    ∙ open_verbatim_front at os inside (open_verbatim_is inside ok) ∙ sym (ap (λ x. Err x) named))
fault_is_read os l at bytes f (open_comment inside is ok named) =
    fault_read at os l bytes f (cons_some 47 (42 ∷ inside) bytes is)
    (ap (front_of at os l) is ∙ star_front at os l inside
    ∙ ap (commented at os l (47 ∷ 42 ∷ inside)) (open_comment_is inside ok) ∙ sym (ap (λ x. Err x) named))
fault_is_read os l at bytes f (bad_character first others is nothing alone named) =
    fault_read at os l bytes f (cons_some first others bytes is)
    (ap (front_of at os l) is ∙ nothing_front at os l first others (subst (BeginsNothing l first) is nothing) alone
    ∙ sym (ap (λ x. Err x) named))

-- a source with a fault is refused for it
pub refuses : (source : List ℕ) (f : LexFault) → Refuses source f → reading source ≡ Err f
refuses source f s =
    source_is_read (λ os l at. IsFault os l at s.2 f) s.2 (Err f) (λ os l at h. fault_is_read os l at s.2 f h) source
    s.0 s.1 s.3

token_some : (os : List Open) (l : Line) (at : ℕ) (kind : TokenKind) (w rest : List ℕ) (t : Turn)
    → TokenFront kind (length w) t (front_of at os l (w ++ rest)) → 0 < length w
token_some os l at kind w rest t (newline_is ks ts is) =
    let span : OnFront (Ok (front.Newline (length w))) (w ++ rest) =
    subst (λ o. OnFront o (w ++ rest)) is (front_span at os l (w ++ rest)) in
    span.some
token_some os l at kind w rest t (word_is within is) =
    let span : OnFront (Ok (front.Word kind (length w) t)) (w ++ rest) =
    subst (λ o. OnFront o (w ++ rest)) is (front_span at os l (w ++ rest)) in
    span.some

-- what is left after a word
left_of : (source w more : List ℕ) (at : ℕ) → drop at source ≡ w ++ more → drop (at + length w) source ≡ more
left_of source w more at h = sym (drop-drop (length w) at source) ∙ ap (drop (length w)) h ∙ drop_seam w more

slices_of : (source : List ℕ) (Then : List Open → Line → ℕ → Type 0) (rest : List ℕ) (ps : List Part) (from : ℕ)
    (os : List Open) (l : Line) (at : ℕ) → from ≤ at → drop at source ≡ bytes_of ps rest → InARow Then rest os l at ps
    → AreSlices source from (tokens_of at ps)
slices_of source Then rest [] from os l at le h row = tt
slices_of source Then rest (skip w next ∷ ps) from os l at le h row =
    slices_of source Then rest ps from os next (at + length w) (omega (arith, le))
    (left_of source w (bytes_of ps rest) at h) row.1
slices_of source Then rest (token kind w t ∷ ps) from os l at le h row = (
  le,
  token_some os l at kind w (bytes_of ps rest) t (word_front os l at kind w (bytes_of ps rest) t row.0),
  sym (ap (take (length w)) h ∙ take_seam w (bytes_of ps rest)),
  slices_of source Then rest ps (at + length w) (turned t os) (line_after_token kind) (at + length w) (omega arith)
      (left_of source w (bytes_of ps rest) at h) row.1,
)

-- the tokens that a source spells are slices of it
pub slices : (source : List ℕ) (tokens : List Standing) → Spells source tokens → AreSlices source 0 tokens
slices source tokens s =
    let ps = s.1 in
    subst (AreSlices source 0) (sym s.3)
    (slices_of source NoneIsOpen [] ps 0 [] line.Front (length s.0) (omega arith) (ap (drop (length s.0)) s.2.is
    ∙ drop_seam s.0 (bytes_of ps [])) s.2.row)
