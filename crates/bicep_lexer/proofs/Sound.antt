-- What is read is spelled.
use Rattle.std.proofs.Common.{◌≡◌, ◌≢◌, ℕ, zero, suc, ◌+◌, ◌^◌, ◌<◌, ◌≤◌, Bool, true, false, cond, not, ◌&&◌, ◌||◌}
use Rattle.std.proofs.Common.{eqb, nat_lt, nat_le, ◌==◌, List, [], ◌∷◌, ◌++◌, length, take, drop, Option, Some, None}
use Rattle.std.proofs.Common.{Result, Ok, Err, option_map, is_some, refl, ap, sym, subst, ◌∙◌, append_assoc, arith}
use Rattle.std.proofs.Common.{inl, inr, length-append, append-nil}
use Rattle.std.specs.Char.{is_ascii_digit}
use Rattle.std.specs.List.{prefix_len, take_while}
use Rattle.std.proofs.lemmas.Bool.{eqb-true}
use Rattle.std.proofs.lemmas.Bool.Decides.{nat_tests}
use Rattle.std.proofs.lemmas.List.{length-drop, length-take-le, take-append-drop}
use Rattle.std.proofs.lemmas.List.Folds.{length-prefix_len}
use Rattle.foundation.proofs.TruthValues.{not_both}
use Rattle.bicep_lexer.specs.declared.kind.TokenKind.{TokenKind}
use Rattle.bicep_lexer.specs.declared.kind.TokenKind.TheVariants as k
use Rattle.bicep_lexer.specs.declared.fault.LexFault.{LexFault}
use Rattle.bicep_lexer.specs.declared.fault.LexFault.TheVariants as fault
use Rattle.bicep_lexer.specs.declared.front.Open.{Open}
use Rattle.bicep_lexer.specs.declared.front.Open.TheVariants as opened
use Rattle.bicep_lexer.specs.declared.front.Line.{Line}
use Rattle.bicep_lexer.specs.declared.front.Line.TheVariants as line
use Rattle.bicep_lexer.specs.declared.front.Turn.{Turn}
use Rattle.bicep_lexer.specs.declared.front.Turn.TheVariants as turn
use Rattle.bicep_lexer.specs.declared.front.Front.{Front}
use Rattle.bicep_lexer.specs.declared.front.Front.TheVariants as front
use Rattle.bicep_lexer.specs.declared.texts.PieceEnd.{PieceEnd}
use Rattle.bicep_lexer.specs.declared.texts.PieceEnd.TheVariants as ends
use Rattle.bicep_lexer.specs.Bytes.{is_letter, is_name_byte, is_blank, begins_with, number_from}
use Rattle.bicep_lexer.specs.Reader.Scanning.{name_length, digits_of}
use Rattle.bicep_lexer.specs.Reader.Scanning.{is_escape}
use Rattle.bicep_lexer.specs.Marks.{double_mark, single_mark}
use Rattle.bicep_lexer.specs.Signs.{IsInside, BeginsEscape}
use Rattle.bicep_lexer.specs.Skipped.{newline_length, closes_comment, line_after_comment}
use Rattle.bicep_lexer.specs.Reader.Scanning.{line_length, comment_length}
use Rattle.bicep_lexer.specs.Skipped.{is_directive}
use Rattle.bicep_lexer.specs.Reader.Scanning.{piece_end, further, verbatim_length}
use Rattle.bicep_lexer.specs.Signs.{is_hole}
use Rattle.bicep_lexer.specs.Texts.{is_break, quotes}
use Rattle.bicep_lexer.specs.Grammar.{outermost, innermost}
use Rattle.bicep_lexer.specs.Reader.Fronts.{word, number_front, piece, verbatim, text_front, closed}
use Rattle.bicep_lexer.specs.Reader.Fronts.{close_front, commented, comment_front, newline_front}
use Rattle.bicep_lexer.specs.Grammar.{opens_comment}
use Rattle.bicep_lexer.specs.Reader.Fronts.{directive_front, single, double, mark_front, front_by, front_of}
use Rattle.bicep_lexer.specs.Reading.{Standing}
use Rattle.bicep_lexer.specs.Reader.Steps.{Outcome, before, ended_by, reading_from, reading}
use Rattle.bicep_lexer.specs.Grammar.{turned, mark_length}
use Rattle.bicep_lexer.specs.Reader.Steps.{OnFront}
use Rattle.bicep_lexer.specs.Grammar.{Throughout, IsRun, ends_line, IsLine, three_quotes, IsLineEnd}
use Rattle.bicep_lexer.specs.Grammar.{makes_double, IsWord, name, number, newline, text, left, middle, right}
use Rattle.bicep_lexer.specs.Grammar.{verbatim as verbatim_word, open_brace, close_brace, lone_brace}
use Rattle.bicep_lexer.specs.Grammar.{double as double_word, single as single_word, IsSkipped, blank, line_comment}
use Rattle.bicep_lexer.specs.Grammar.{comment, directive, folded, Part, skip, token, bytes_of, tokens_of}
use Rattle.bicep_lexer.specs.Grammar.{line_after_token, InARow, StandsBefore, NoneIsOpen, Spells}
use Rattle.bicep_lexer.specs.Faults.{BeginsNothing, IsFault, open_at_end, bad_number, bad_escape, open_at_line}
use Rattle.bicep_lexer.specs.Faults.{open_at_file, open_verbatim, open_comment, bad_character, Refuses}
use Rattle.foundation.proofs.Choices.{if_else, cond_true}
use Rattle.bicep_lexer.proofs.SignLaws.{Passes, passes_inside, escape_reads, break_stops}
use Rattle.bicep_lexer.proofs.Spans.{front_span, quotes_is, quotes_reach}
use Rattle.bicep_lexer.proofs.Steps.{by_front, read_front, reading-skip}
use Rattle.bicep_lexer.proofs.Complete.{take_seam, drop_seam, single_facts, double_facts, SingleFacts}
use Rattle.bicep_lexer.proofs.Complete.{DoubleFacts}

-- what a front may be
abbrev OnGood : List Open → Line → ℕ → Result Front LexFault → List ℕ → Type 0
OnGood os l at (Err f) bytes = IsFault os l at bytes f
OnGood os l at (Ok (front.Skipped n next)) bytes = IsSkipped l (take n bytes) (drop n bytes) next
OnGood os l at (Ok (front.Newline n)) bytes = IsWord os l at k.Newline (take n bytes) (drop n bytes) turn.Stays
OnGood os l at (Ok (front.Word kind n t)) bytes = IsWord os l at kind (take n bytes) (drop n bytes) t
    × (line_after_token kind ≡ line.Within)

-- a word and its rest, as the first bytes and the others
split_word : (os : List Open) (l : Line) (at : ℕ) (kind : TokenKind) (t : Turn) (w rest bytes : List ℕ) (n : ℕ)
    → bytes ≡ w ++ rest → n ≡ length w → IsWord os l at kind w rest t
    → IsWord os l at kind (take n bytes) (drop n bytes) t
split_word os l at kind t w rest bytes n is count h =
    let ws : w ≡ take n bytes = sym (ap (λ i. take i bytes) count ∙ ap (take (length w)) is ∙ take_seam w rest) in
    let rs : rest ≡ drop n bytes = sym (ap (λ i. drop i bytes) count ∙ ap (drop (length w)) is ∙ drop_seam w rest) in
    subst (λ x. IsWord os l at kind (take n bytes) x t) rs (subst (λ x. IsWord os l at kind x rest t) ws h)

split_skipped : (l next : Line) (w rest bytes : List ℕ) (n : ℕ) → bytes ≡ w ++ rest → n ≡ length w
    → IsSkipped l w rest next → IsSkipped l (take n bytes) (drop n bytes) next
split_skipped l next w rest bytes n is count h =
    let ws : w ≡ take n bytes = sym (ap (λ i. take i bytes) count ∙ ap (take (length w)) is ∙ take_seam w rest) in
    let rs : rest ≡ drop n bytes = sym (ap (λ i. drop i bytes) count ∙ ap (drop (length w)) is ∙ drop_seam w rest) in
    subst (λ x. IsSkipped l (take n bytes) x next) rs (subst (λ x. IsSkipped l x rest next) ws h)

-- the longest front is a run
run_good : (test : ℕ → Bool) (bytes : List ℕ)
    → IsRun test (take (prefix_len test bytes) bytes) (drop (prefix_len test bytes) bytes)
run_good test [] = (tt, refl)
run_good test (b ∷ bs) =
    let P : ℕ → Type 0 = λ n. IsRun test (take n (b ∷ bs)) (drop n (b ∷ bs)) in
    if_else P (test b) (1 + prefix_len test bs) 0
    (λ y.
    let e : suc (prefix_len test bs) ≡ 1 + prefix_len test bs = omega arith in
    let r = run_good test bs in
    subst P e ((y, r.0), r.1))
    (λ n. (tt, n))

first_of : (test : ℕ → Bool) (b : ℕ) (bs : List ℕ) → test b ≡ true
    → take (prefix_len test (b ∷ bs)) (b ∷ bs) ≡ b ∷ take (prefix_len test bs) bs
first_of test b bs h =
    let e : 1 + prefix_len test bs ≡ suc (prefix_len test bs) = omega arith in
    ap (λ n. take n (b ∷ bs)) (cond_true (test b) (1 + prefix_len test bs) 0 h ∙ e)

name_good : (os : List Open) (l : Line) (at b : ℕ) (bs : List ℕ) → is_letter b ≡ true
    → OnGood os l at (word k.Name (name_length (b ∷ bs))) (b ∷ bs)
unfolding name_length
name_good os l at b bs h =
    let n = prefix_len is_name_byte (b ∷ bs) in
    let e : n ≡ length (take_while is_name_byte (b ∷ bs)) = sym (length-prefix_len is_name_byte (b ∷ bs)) in
    let starts : is_name_byte b ≡ true = ap (λ t. t || is_ascii_digit b) h in (
      subst (λ i. IsWord os l at k.Name (take i (b ∷ bs)) (drop i (b ∷ bs)) turn.Stays) e
          (name refl refl b (take (prefix_len is_name_byte bs) bs) (first_of is_name_byte b bs starts) h
          (run_good is_name_byte (b ∷ bs))),
      refl,
    )

number_good : (os : List Open) (l : Line) (at b : ℕ) (bs : List ℕ) → is_ascii_digit b ≡ true
    → OnGood os l at (number_front at (b ∷ bs)) (b ∷ bs)
unfolding number_front
number_good os l at b bs h =
    let n = prefix_len is_ascii_digit (b ∷ bs) in
    let e : n ≡ length (take_while is_ascii_digit (b ∷ bs)) = sym (length-prefix_len is_ascii_digit (b ∷ bs)) in
    if_else (λ o. OnGood os l at o (b ∷ bs)) (nat_lt (number_from 0 (digits_of (b ∷ bs))) (2 ^ 63)) _ _
    (λ y.
    let small : number_from 0 (take n (b ∷ bs)) < 2 ^ 63 = grind (arith, nat_tests) in (
      subst (λ i. IsWord os l at k.Number (take i (b ∷ bs)) (drop i (b ∷ bs)) turn.Stays) e
          (number refl refl b (take (prefix_len is_ascii_digit bs) bs) (first_of is_ascii_digit b bs h)
          (run_good is_ascii_digit (b ∷ bs)) small),
      refl,
    ))
    (λ n.
    let m = prefix_len is_ascii_digit bs in
    let r = run_good is_ascii_digit bs in
    let large : 2 ^ 63 ≤ number_from 0 (digits_of (b ∷ bs)) = grind (arith, nat_tests) in
    bad_number b (take m bs) (drop m bs) (ap (λ xs. b ∷ xs) (sym (take-append-drop m bs))) ((h, r.0), r.1)
    (subst (λ x. 2 ^ 63 ≤ number_from 0 x) (first_of is_ascii_digit b bs h) large) refl)

-- how what is inside a piece ends
abbrev InsideOf : Bool → List ℕ → PieceEnd → Type 0
InsideOf escaped bs (ends.Quote n) = (w : List ℕ) × (rest : List ℕ) × (bs ≡ w ++ 39 ∷ rest) × (n ≡ length w + 1)
    × Passes escaped w (39 ∷ rest)
InsideOf escaped bs (ends.Hole n) = (w : List ℕ) × (rest : List ℕ) × (bs ≡ w ++ 36 ∷ 123 ∷ rest) × (n ≡ length w + 2)
    × Passes escaped w (36 ∷ 123 ∷ rest)
InsideOf escaped bs ends.Line = (w : List ℕ) × (end : ℕ) × (rest : List ℕ) × (bs ≡ w ++ end ∷ rest)
    × (is_break end ≡ true) × Passes escaped w (end ∷ rest)
InsideOf escaped bs ends.File = (escaped ≡ true → 0 < length bs) → Passes escaped bs []
InsideOf escaped bs (ends.BadEscape n) = (w : List ℕ) × (rest : List ℕ) × (bs ≡ w ++ 92 ∷ rest) × (n ≡ length w)
    × (is_escape rest ≡ false) × Passes escaped w (92 ∷ rest)

-- one byte more inside
inside_more : (escaped next : Bool) (b : ℕ) (bs : List ℕ) (e : PieceEnd)
    → ((w tail : List ℕ) → bs ≡ w ++ tail → Passes next w tail → Passes escaped (b ∷ w) tail)
    → (next ≡ true → 0 < length bs) → InsideOf next bs e → InsideOf escaped (b ∷ bs) (further 1 e)
inside_more escaped next b bs (ends.Quote n) more some h =
    let count : 1 + n ≡ suc (length h.0) + 1 = omega (arith, h.3) in
    (b ∷ h.0, h.1, ap (λ xs. b ∷ xs) h.2, count, more h.0 (39 ∷ h.1) h.2 h.4)
inside_more escaped next b bs (ends.Hole n) more some h =
    let count : 1 + n ≡ suc (length h.0) + 2 = omega (arith, h.3) in
    (b ∷ h.0, h.1, ap (λ xs. b ∷ xs) h.2, count, more h.0 (36 ∷ 123 ∷ h.1) h.2 h.4)
inside_more escaped next b bs ends.Line more some h =
    (b ∷ h.0, h.1, h.2, ap (λ xs. b ∷ xs) h.3, h.4, more h.0 (h.1 ∷ h.2) h.3 h.5)
inside_more escaped next b bs ends.File more some h = λ _. more bs [] (sym (append-nil bs)) (h some)
inside_more escaped next b bs (ends.BadEscape n) more some h =
    let count : 1 + n ≡ suc (length h.0) = omega (arith, h.3) in
    (b ∷ h.0, h.1, ap (λ xs. b ∷ xs) h.2, count, h.4, more h.0 (92 ∷ h.1) h.2 h.5)

unequal : (a b : ℕ) → eqb a b ≡ false → a ≢ b
unequal a b h = grind (arith, nat_tests)

hole_good : (b : ℕ) (bs : List ℕ) → is_hole b bs ≡ true → InsideOf false (b ∷ bs) (ends.Hole 2)
hole_good b [] h = absurd (elim (eqb b 36) as (λ k. (k && false) ≡ true → ⊥) [ true ↦ λ e. cc | false ↦ λ e. cc ] h)
hole_good b (c ∷ bs) h =
    let first : b ≡ 36 = grind (arith, nat_tests) in
    let second : c ≡ 123 = grind (arith, nat_tests) in
    ([], bs, ap (λ x. x ∷ c ∷ bs) first ∙ ap (λ x. 36 ∷ x ∷ bs) second, refl, refl)

escape_some : (bs : List ℕ) → is_escape bs ≡ true → 0 < length bs
unfolding is_escape
escape_some [] h = absurd cc
escape_some (b ∷ bs) h = omega arith

inside_good : (escaped : Bool) (bs : List ℕ) → InsideOf escaped bs (piece_end escaped bs)
inside_good true [] = λ some. absurd (omega (arith, some refl))
inside_good false [] = λ some. refl
inside_good true (b ∷ bs) = inside_more true false b bs (piece_end false bs) (λ w tail is i. i) (λ e. absurd cc)
    (inside_good false bs)
inside_good false (b ∷ bs) =
    let P : PieceEnd → Type 0 = InsideOf false (b ∷ bs) in
    if_else P (eqb b 39) _ _ (λ y. ([], bs, ap (λ x. x ∷ bs) (eqb-true b 39 y), refl, refl)) (λ no_quote.
    if_else P (is_hole b bs) _ _ (λ y. hole_good b bs y) (λ no_hole.
    if_else P (is_break b) _ _ (λ y. ([], b, bs, refl, y, refl)) (λ no_break.
    if_else P (eqb b 92) _ _
    (λ y. if_else P (is_escape bs) _ _
    (λ right. inside_more false true b bs (piece_end true bs)
    (λ w tail is i. (
      unequal b 39 no_quote,
      subst (λ x. is_hole b x ≡ false) is no_hole,
      no_break,
      (λ e. subst (λ x. is_escape x ≡ true) is right),
      subst (λ t. Passes t w tail) (sym y) i,
    ))
    (λ e. escape_some bs right) (inside_good true bs))
    (λ wrong. ([], bs, ap (λ x. x ∷ bs) (eqb-true b 92 y), refl, wrong, refl)))
    (λ no_backslash. inside_more false false b bs (piece_end false bs)
    (λ w tail is i. (
      unequal b 39 no_quote,
      subst (λ x. is_hole b x ≡ false) is no_hole,
      no_break,
      (λ e. absurd (unequal b 92 no_backslash e)),
      subst (λ t. Passes t w tail) (sym no_backslash) i,
    ))
    (λ e. absurd cc) (inside_good false bs)))))

-- a piece that begins with b, up to its end
quote_split : (b n : ℕ) (w rest bs : List ℕ) → bs ≡ w ++ 39 ∷ rest → b ∷ bs ≡ (b ∷ (w ++ 39 ∷ [])) ++ rest
quote_split b n w rest bs is = ap (λ xs. b ∷ xs) (is ∙ sym (append_assoc w (39 ∷ []) rest))

hole_split : (b n : ℕ) (w rest bs : List ℕ) → bs ≡ w ++ 36 ∷ 123 ∷ rest → b ∷ bs ≡ (b ∷ (w ++ 36 ∷ 123 ∷ [])) ++ rest
hole_split b n w rest bs is = ap (λ xs. b ∷ xs) (is ∙ sym (append_assoc w (36 ∷ 123 ∷ []) rest))

quote_count : (n : ℕ) (w : List ℕ) → n ≡ length w + 1 → n + 1 ≡ suc (length (w ++ 39 ∷ []))
quote_count n w h = omega (arith, h, length-append w (39 ∷ []))

hole_count : (n : ℕ) (w : List ℕ) → n ≡ length w + 2 → n + 1 ≡ suc (length (w ++ 36 ∷ 123 ∷ []))
hole_count n w h = omega (arith, h, length-append w (36 ∷ 123 ∷ []))

-- what is inside, before each end of a piece
quote_inside : (w rest : List ℕ) → Passes false w (39 ∷ rest) → IsInside w
quote_inside w rest h = passes_inside w (39 ∷ rest) (refl, refl, refl) h

hole_inside : (w rest : List ℕ) → Passes false w (36 ∷ 123 ∷ rest) → IsInside w
hole_inside w rest h = passes_inside w (36 ∷ 123 ∷ rest) (refl, refl, refl) h

break_inside : (w : List ℕ) (end : ℕ) (rest : List ℕ) → is_break end ≡ true → Passes false w (end ∷ rest) → IsInside w
break_inside w end rest break h = passes_inside w (end ∷ rest) (break_stops end rest break) h

backslash_inside : (w rest : List ℕ) → Passes false w (92 ∷ rest) → IsInside w
backslash_inside w rest h = passes_inside w (92 ∷ rest) (refl, refl, refl) h

wrong_escape : (rest : List ℕ) → is_escape rest ≡ false → ¬ BeginsEscape (92 ∷ rest)
wrong_escape rest h e = not_both (is_escape rest) (escape_reads rest e) h

text_good : (os : List Open) (l : Line) (at : ℕ) (bs : List ℕ) (e : PieceEnd) → quotes 3 (39 ∷ bs) == 3 ≡ false
    → InsideOf false bs e
    → OnGood os l at (piece at at os (k.Text, turn.Stays) (k.LeftPiece, turn.Opens (opened.Text at)) e) (39 ∷ bs)
text_good os l at bs (ends.Quote n) short h =
    let whole = quote_split 39 n h.0 h.1 bs h.2 in (
      split_word os l at k.Text turn.Stays (39 ∷ (h.0 ++ 39 ∷ [])) h.1 (39 ∷ bs) (n + 1) whole (quote_count n h.0 h.3)
          (text refl refl h.0 refl (quote_inside h.0 h.1 h.4) (subst (λ x. quotes 3 x == 3 ≡ false) whole short)),
      refl,
    )
text_good os l at bs (ends.Hole n) short h =
    let whole = hole_split 39 n h.0 h.1 bs h.2 in (
      split_word os l at k.LeftPiece (turn.Opens (opened.Text at)) (39 ∷ (h.0 ++ 36 ∷ 123 ∷ [])) h.1 (39 ∷ bs)
          (n + 1) whole (hole_count n h.0 h.3)
          (left refl refl h.0 refl (hole_inside h.0 h.1 h.4) (subst (λ x. quotes 3 x == 3 ≡ false) whole short)),
      refl,
    )
text_good os l at bs ends.Line short h =
    open_at_line 39 at h.0 h.1 h.2 (inl (refl, refl, short)) (ap (λ xs. 39 ∷ xs) h.3)
    (break_inside h.0 h.1 h.2 h.4 h.5) h.4 refl
text_good os l at bs ends.File short h =
    open_at_file 39 at bs (inl (refl, refl, short)) refl (passes_inside bs [] tt (h (λ e. absurd cc))) refl
text_good os l at bs (ends.BadEscape n) short h =
    bad_escape 39 at h.0 h.1 (inl (refl, refl, short)) (ap (λ xs. 39 ∷ xs) h.2) (backslash_inside h.0 h.1 h.5)
    (wrong_escape h.1 h.4)
    (ap (λ i. fault.BadEscape (at + (i + 1))) h.3)

later_good : (os : List Open) (l : Line) (at quote : ℕ) (bs : List ℕ) (e : PieceEnd)
    → innermost os ≡ Some (opened.Text quote) → InsideOf false bs e
    → OnGood os l at (piece quote at os (k.RightPiece, turn.Closes) (k.MiddlePiece, turn.Stays) e) (125 ∷ bs)
later_good os l at quote bs (ends.Quote n) top h = (
  split_word os l at k.RightPiece turn.Closes (125 ∷ (h.0 ++ 39 ∷ [])) h.1 (125 ∷ bs) (n + 1)
      (quote_split 125 n h.0 h.1 bs h.2) (quote_count n h.0 h.3)
      (right refl refl quote top h.0 refl (quote_inside h.0 h.1 h.4)),
  refl,
)
later_good os l at quote bs (ends.Hole n) top h = (
  split_word os l at k.MiddlePiece turn.Stays (125 ∷ (h.0 ++ 36 ∷ 123 ∷ [])) h.1 (125 ∷ bs) (n + 1)
      (hole_split 125 n h.0 h.1 bs h.2) (hole_count n h.0 h.3)
      (middle refl refl quote top h.0 refl (hole_inside h.0 h.1 h.4)),
  refl,
)
later_good os l at quote bs ends.Line top h =
    open_at_line 125 quote h.0 h.1 h.2 (inr (refl, top)) (ap (λ xs. 125 ∷ xs) h.3) (break_inside h.0 h.1 h.2 h.4 h.5)
    h.4 refl
later_good os l at quote bs ends.File top h =
    open_at_file 125 quote bs (inr (refl, top)) refl (passes_inside bs [] tt (h (λ e. absurd cc))) refl
later_good os l at quote bs (ends.BadEscape n) top h =
    bad_escape 125 quote h.0 h.1 (inr (refl, top)) (ap (λ xs. 125 ∷ xs) h.2) (backslash_inside h.0 h.1 h.5)
    (wrong_escape h.1 h.4)
    (ap (λ i. fault.BadEscape (at + (i + 1))) h.3)

-- how a verbatim text ends
abbrev VerbatimOf : List ℕ → Option ℕ → Type 0
VerbatimOf bs None = Throughout three_quotes false bs []
VerbatimOf bs (Some n) = (w : List ℕ) × (tail : List ℕ) × (bs ≡ w ++ tail) × Throughout three_quotes false w tail
    × (nat_le 3 (quotes 5 tail) ≡ true) × (n ≡ length w + quotes 5 tail)

verbatim_more : (b : ℕ) (bs : List ℕ) (o : Option ℕ) → three_quotes (b ∷ bs) ≡ false → VerbatimOf bs o
    → VerbatimOf (b ∷ bs) (option_map suc o)
verbatim_more b bs None few h = (subst (λ xs. three_quotes (b ∷ xs) ≡ false) (sym (append-nil bs)) few, h)
verbatim_more b bs (Some n) few h =
    let count : suc n ≡ suc (length h.0) + quotes 5 h.1 = omega (arith, h.5) in
    (b ∷ h.0, h.1, ap (λ xs. b ∷ xs) h.2, (subst (λ xs. three_quotes (b ∷ xs) ≡ false) h.2 few, h.3), h.4, count)

verbatim_good : (bs : List ℕ) → VerbatimOf bs (verbatim_length bs)
verbatim_good [] = tt
verbatim_good (b ∷ bs) =
    let zero_more : quotes 5 (b ∷ bs) ≡ 0 + quotes 5 (b ∷ bs) = omega arith in
    if_else (VerbatimOf (b ∷ bs)) (nat_le 3 (quotes 5 (b ∷ bs))) _ _
    (λ y. ([], b ∷ bs, refl, tt, y, zero_more))
    (λ n. verbatim_more b bs (verbatim_length bs) n (verbatim_good bs))

-- three quotes at the front
three_are : (bytes : List ℕ) → quotes 3 bytes ≡ 3 → (bs : List ℕ) × (bytes ≡ 39 ∷ 39 ∷ 39 ∷ bs)
three_are bytes h = go bytes (sym (quotes_is 3 bytes) ∙ h)
  where
    go : (bytes : List ℕ) → prefix_len (λ b. eqb b 39) (take 3 bytes) ≡ 3 → (bs : List ℕ) × (bytes ≡ 39 ∷ 39 ∷ 39 ∷ bs)
    go [] e = absurd cc
    go (b ∷ []) e = absurd (elim (eqb b 39) as (λ t. cond t (1 + 0) 0 ≡ 3 → ⊥) [ true ↦ λ e. cc | false ↦ λ e. cc ] e)
    go (b ∷ c ∷ []) e =
        absurd (elim (eqb b 39) as (λ t. cond t (1 + cond (eqb c 39) (1 + 0) 0) 0 ≡ 3 → ⊥) [
          | true ↦
              (elim (eqb c 39) as (λ t. 1 + cond t (1 + 0) 0 ≡ 3 → ⊥) [ true ↦ λ e. cc | false ↦ λ e. cc ])
          | false ↦
              λ e. cc
        ] e)
    go (b ∷ c ∷ d ∷ bs) e =
        let first : b ≡ 39 = grind (arith, nat_tests) in
        let second : c ≡ 39 = grind (arith, nat_tests) in
        let third : d ≡ 39 = grind (arith, nat_tests) in
        (bs, ap (λ x. x ∷ c ∷ d ∷ bs) first ∙ ap (λ x. 39 ∷ x ∷ d ∷ bs) second ∙ ap (λ x. 39 ∷ 39 ∷ x ∷ bs) third)

verbatim_is_good : (os : List Open) (l : Line) (at : ℕ) (bs : List ℕ) (o : Option ℕ) → VerbatimOf bs o
    → OnGood os l at (verbatim at os o) (39 ∷ 39 ∷ 39 ∷ bs)
verbatim_is_good os l at bs None h = open_verbatim bs refl h refl
verbatim_is_good os l at bs (Some n) h =
    let w = h.0 in
    let tail = h.1 in
    let q = quotes 5 tail in
    let some : 0 < q = grind (arith, nat_tests, h.4) in
    let within : q ≤ length tail = (quotes_reach 5 tail some).1 in
    let closing = take q tail in
    let count : length closing ≡ q = length-take-le q tail within in
    let seam : closing ++ drop q tail ≡ tail = take-append-drop q tail in
    let whole : 39 ∷ 39 ∷ 39 ∷ bs ≡ (39 ∷ 39 ∷ 39 ∷ (w ++ closing)) ++ drop q tail =
    ap (λ xs. 39 ∷ 39 ∷ 39 ∷ xs) (h.2 ∙ ap (λ xs. w ++ xs) (sym seam)
    ∙ sym (append_assoc w closing (drop q tail))) in
    let all : n + 3 ≡ suc (suc (suc (length (w ++ closing)))) = omega (arith, h.5, count, length-append w closing) in
    let same : length closing ≡ quotes 5 (closing ++ drop q tail) = count ∙ ap (quotes 5) (sym seam) in
    let three : 3 ≤ length closing = grind (arith, nat_tests, h.4, count) in (
      split_word os l at k.VerbatimText turn.Stays (39 ∷ 39 ∷ 39 ∷ (w ++ closing)) (drop q tail) (39 ∷ 39 ∷ 39 ∷ bs)
          (n + 3) whole all
          (verbatim_word refl refl w closing refl (subst (Throughout three_quotes false w) (sym seam) h.3) same three),
      refl,
    )

text_front_good : (os : List Open) (l : Line) (at b : ℕ) (bs : List ℕ) → eqb b 39 ≡ true
    → OnGood os l at (text_front at os (b ∷ bs)) (b ∷ bs)
unfolding text_front
text_front_good os l at b bs h =
    if_else (λ o. OnGood os l at o (b ∷ bs)) (eqb (quotes 3 (b ∷ bs)) 3) _ _
    (λ y.
    let three = three_are (b ∷ bs) (eqb-true (quotes 3 (b ∷ bs)) 3 y) in
    subst (λ xs. OnGood os l at (verbatim at os (verbatim_length (drop 3 xs))) xs) (sym three.1)
    (verbatim_is_good os l at three.0 (verbatim_length three.0) (verbatim_good three.0)))
    (λ short.
    let is = eqb-true b 39 h in
    subst (λ x. OnGood os l at (piece at at os (k.Text, turn.Stays) (k.LeftPiece, turn.Opens (opened.Text at))
    (piece_end false bs)) (x ∷ bs)) (sym is)
    (text_good os l at bs (piece_end false bs) (subst (λ x. quotes 3 (x ∷ bs) == 3 ≡ false) is short)
    (inside_good false bs)))

close_good : (os : List Open) (l : Line) (at : ℕ) (bs : List ℕ) (o : Option Open) → innermost os ≡ o
    → OnGood os l at (closed at os o (125 ∷ bs)) (125 ∷ bs)
close_good os l at bs None top = (lone_brace refl refl top refl, refl)
close_good os l at bs (Some opened.Brace) top = (close_brace refl refl top refl, refl)
close_good os l at bs (Some (opened.Text quote)) top =
    later_good os l at quote bs (piece_end false bs) top (inside_good false bs)

-- the rest of a line
line_good : (bytes : List ℕ) → IsLine (take (line_length bytes) bytes) (drop (line_length bytes) bytes)
line_good [] = (tt, inl refl)
line_good (b ∷ bs) =
    let r = line_good bs in
    if_else (λ n. IsLine (take n (b ∷ bs)) (drop n (b ∷ bs))) (eqb (newline_length (b ∷ bs)) 0) _ _
    (λ y.
    let seam : take (line_length bs) bs ++ drop (line_length bs) bs ≡ bs = take-append-drop (line_length bs) bs in
    ((subst (λ xs. ends_line (b ∷ xs) ≡ false) (sym seam) (ap not y), r.0), r.1))
    (λ n. (tt, inr (ap not n)))

slash_line : (bs : List ℕ) → line_length (47 ∷ bs) ≡ suc (line_length bs)
slash_line bs = refl

hash_line : (bs : List ℕ) → line_length (35 ∷ bs) ≡ suc (line_length bs)
hash_line bs = refl

slashes_are : (second b : ℕ) (bs : List ℕ) → opens_comment second (b ∷ bs) ≡ true → (others : List ℕ)
    × (b ∷ bs ≡ 47 ∷ second ∷ others)
slashes_are second b [] h =
    absurd (elim (eqb b 47) as (λ k. (k && false) ≡ true → ⊥) [ true ↦ λ e. cc | false ↦ λ e. cc ] h)
slashes_are second b (c ∷ bs) h =
    let first : b ≡ 47 = grind (arith, nat_tests) in
    let next : c ≡ second = grind (arith, nat_tests) in
    (bs, ap (λ x. x ∷ c ∷ bs) first ∙ ap (λ x. 47 ∷ x ∷ bs) next)

line_comment_good : (os : List Open) (l : Line) (at : ℕ) (others : List ℕ)
    → OnGood os l at (Ok (front.Skipped (line_length (47 ∷ 47 ∷ others)) l)) (47 ∷ 47 ∷ others)
line_comment_good os l at others =
    line_comment refl (take (line_length others) others) refl (line_good (47 ∷ 47 ∷ others))

abbrev CommentOf : List ℕ → Option ℕ → Type 0
CommentOf bs None = Throughout closes_comment false bs []
CommentOf bs (Some n) = (w : List ℕ) × (rest : List ℕ) × (bs ≡ w ++ 42 ∷ 47 ∷ rest)
    × Throughout closes_comment false w (42 ∷ 47 ∷ rest) × (n ≡ length w + 2)

comment_more : (b : ℕ) (bs : List ℕ) (o : Option ℕ) → closes_comment (b ∷ bs) ≡ false → CommentOf bs o
    → CommentOf (b ∷ bs) (option_map suc o)
comment_more b bs None stays h = (subst (λ xs. closes_comment (b ∷ xs) ≡ false) (sym (append-nil bs)) stays, h)
comment_more b bs (Some n) stays h =
    let count : suc n ≡ suc (length h.0) + 2 = omega (arith, h.4) in
    (b ∷ h.0, h.1, ap (λ xs. b ∷ xs) h.2, (subst (λ xs. closes_comment (b ∷ xs) ≡ false) h.2 stays, h.3), count)

closing_are : (b : ℕ) (bs : List ℕ) → closes_comment (b ∷ bs) ≡ true → CommentOf (b ∷ bs) (Some 2)
closing_are b [] h = absurd (elim (eqb b 42) as (λ k. (k && false) ≡ true → ⊥) [ true ↦ λ e. cc | false ↦ λ e. cc ] h)
closing_are b (c ∷ bs) h =
    let first : b ≡ 42 = grind (arith, nat_tests) in
    let next : c ≡ 47 = grind (arith, nat_tests) in
    ([], bs, ap (λ x. x ∷ c ∷ bs) first ∙ ap (λ x. 42 ∷ x ∷ bs) next, tt, refl)

comment_good : (bs : List ℕ) → CommentOf bs (comment_length bs)
comment_good [] = tt
comment_good (b ∷ bs) =
    if_else (CommentOf (b ∷ bs)) (closes_comment (b ∷ bs)) _ _ (λ y. closing_are b bs y)
    (λ n. comment_more b bs (comment_length bs) n (comment_good bs))

comment_is_good : (os : List Open) (l : Line) (at : ℕ) (bs : List ℕ) (o : Option ℕ) → CommentOf bs o
    → OnGood os l at (commented at os l (47 ∷ 42 ∷ bs) o) (47 ∷ 42 ∷ bs)
comment_is_good os l at bs None h = open_comment bs refl h refl
comment_is_good os l at bs (Some n) h =
    let w = h.0 in
    let rest = h.1 in
    let whole : bs ≡ (w ++ 42 ∷ 47 ∷ []) ++ rest = h.2 ∙ sym (append_assoc w (42 ∷ 47 ∷ []) rest) in
    let count : n ≡ length (w ++ 42 ∷ 47 ∷ []) = omega (arith, h.4, length-append w (42 ∷ 47 ∷ [])) in
    let all : n + 2 ≡ suc (suc (length (w ++ 42 ∷ 47 ∷ []))) = omega (arith, count) in
    let word_is : w ++ 42 ∷ 47 ∷ [] ≡ take n bs =
    sym (ap (λ i. take i bs) count ∙ ap (take (length (w ++ 42 ∷ 47 ∷ []))) whole
    ∙ take_seam (w ++ 42 ∷ 47 ∷ []) rest) in
    split_skipped l (line_after_comment l (take n bs)) (47 ∷ 42 ∷ (w ++ 42 ∷ 47 ∷ [])) rest (47 ∷ 42 ∷ bs) (n + 2)
    (ap (λ xs. 47 ∷ 42 ∷ xs) whole) all
    (comment w (ap (line_after_comment l) (sym word_is)) refl h.3)

comment_front_good : (os : List Open) (l : Line) (at : ℕ) (bs : List ℕ)
    → OnGood os l at (comment_front at os l (47 ∷ 42 ∷ bs)) (47 ∷ 42 ∷ bs)
unfolding comment_front
comment_front_good os l at bs = comment_is_good os l at bs (comment_length bs) (comment_good bs)

-- a line's end at the front
line_end_are : (b : ℕ) (bs : List ℕ) → not (eqb (newline_length (b ∷ bs)) 0) ≡ true → (w : List ℕ) × (rest : List ℕ)
    × (b ∷ bs ≡ w ++ rest) × (newline_length (b ∷ bs) ≡ length w) × IsLineEnd w
line_end_are b bs =
    if_else (λ n. not (eqb n 0) ≡ true → (w : List ℕ) × (rest : List ℕ) × (b ∷ bs ≡ w ++ rest) × (n ≡ length w)
    × IsLineEnd w) (eqb b 10) _ _
    (λ y h. (10 ∷ [], bs, ap (λ x. x ∷ bs) (eqb-true b 10 y), refl, inl refl))
    (λ n. second b bs)
  where
    second : (b : ℕ) (bs : List ℕ) → not (eqb (cond (eqb b 13 && begins_with 10 bs) 2 0) 0) ≡ true → (w : List ℕ)
        × (rest : List ℕ) × (b ∷ bs ≡ w ++ rest) × (cond (eqb b 13 && begins_with 10 bs) 2 0 ≡ length w) × IsLineEnd w
    second b [] h =
        absurd (elim (eqb b 13) as (λ k. not (eqb (cond (k && false) 2 0) 0) ≡ true → ⊥) [
          | true ↦ λ e. cc
          | false ↦
              λ e. cc
        ] h)
    second b (c ∷ bs) ends =
        (if_else (λ n. not (eqb n 0) ≡ true → (w : List ℕ) × (rest : List ℕ) × (b ∷ c ∷ bs ≡ w ++ rest)
        × (n ≡ length w) × IsLineEnd w) (eqb b 13 && eqb c 10) _ _
        (λ y h.
        let first : b ≡ 13 = grind (arith, nat_tests) in
        let next : c ≡ 10 = grind (arith, nat_tests) in
        (13 ∷ 10 ∷ [], bs, ap (λ x. x ∷ c ∷ bs) first ∙ ap (λ x. 13 ∷ x ∷ bs) next, refl, inr refl))
        (λ n h. absurd cc)) ends

newline_good : (os : List Open) (l : Line) (at : ℕ) (w rest bytes : List ℕ) (n : ℕ) → bytes ≡ w ++ rest → n ≡ length w
    → IsLineEnd w → OnGood os l at (newline_front l n) bytes
newline_good os line.Folded at w rest bytes n is count h =
    split_skipped line.Folded line.Folded w rest bytes n is count (folded refl refl h)
newline_good os line.Front at w rest bytes n is count h =
    split_word os line.Front at k.Newline turn.Stays w rest bytes n is count (newline refl refl (λ e. cc) h)
newline_good os line.Within at w rest bytes n is count h =
    split_word os line.Within at k.Newline turn.Stays w rest bytes n is count (newline refl refl (λ e. cc) h)

directive_line : (os : List Open) (l : Line) (at : ℕ) (bs : List ℕ) → l ≢ line.Within → is_directive (35 ∷ bs) ≡ true
    → OnGood os l at (Ok (front.Skipped (line_length (35 ∷ bs)) l)) (35 ∷ bs)
directive_line os l at bs place is =
    let seam : take (line_length (35 ∷ bs)) (35 ∷ bs) ++ drop (line_length (35 ∷ bs)) (35 ∷ bs) ≡ 35 ∷ bs =
    take-append-drop (line_length (35 ∷ bs)) (35 ∷ bs) in
    directive refl place (take (line_length bs) bs) refl (subst (λ xs. is_directive xs ≡ true) (sym seam) is)
    (line_good (35 ∷ bs))

hash_alone : (bs : List ℕ) → makes_double 35 bs ≡ false
unfolding double_mark
hash_alone [] = refl
hash_alone (c ∷ bs) = refl

hash_nothing : (l : Line) (bs : List ℕ) → (l ≢ line.Within → is_directive (35 ∷ bs) ≡ false)
    → BeginsNothing l 35 (35 ∷ bs)
unfolding single_mark
hash_nothing l bs h =
    record {
      no_blank = refl;
      no_letter = refl;
      no_digit = refl;
      no_quote = refl;
      no_line_comment = refl;
      no_comment = refl;
      no_line_end = refl;
      no_directive = λ e. h;
      no_open_brace = refl;
      no_close_brace = refl;
      no_mark = refl;
    }

no_directive_good : (os : List Open) (l : Line) (at : ℕ) (bs : List ℕ)
    → (l ≢ line.Within → is_directive (35 ∷ bs) ≡ false) → OnGood os l at (Err (fault.BadCharacter at)) (35 ∷ bs)
no_directive_good os l at bs h = bad_character 35 bs refl (hash_nothing l bs h) (hash_alone bs) refl

directive_good : (os : List Open) (l : Line) (at : ℕ) (bs : List ℕ)
    → OnGood os l at (directive_front at l (35 ∷ bs)) (35 ∷ bs)
directive_good os line.Within at bs = no_directive_good os line.Within at bs (λ ne. absurd (ne refl))
directive_good os line.Front at bs = if_else (λ o. OnGood os line.Front at o (35 ∷ bs)) (is_directive (35 ∷ bs)) _ _
    (λ y. directive_line os line.Front at bs (λ e. cc) y) (λ n. no_directive_good os line.Front at bs (λ ne. n))
directive_good os line.Folded at bs = if_else (λ o. OnGood os line.Folded at o (35 ∷ bs)) (is_directive (35 ∷ bs)) _ _
    (λ y. directive_line os line.Folded at bs (λ e. cc) y) (λ n. no_directive_good os line.Folded at bs (λ ne. n))

-- that nothing else begins here, where no mark does
abbrev NothingElse : Line → ℕ → List ℕ → Type 0
NothingElse l b bs = single_mark b ≡ None → BeginsNothing l b (b ∷ bs)

single_good : (os : List Open) (l : Line) (at b : ℕ) (bs : List ℕ) (o : Option TokenKind) → single_mark b ≡ o
    → makes_double b bs ≡ false → opens_comment 47 (b ∷ bs) ≡ false → opens_comment 42 (b ∷ bs) ≡ false
    → NothingElse l b bs → OnGood os l at (single at o) (b ∷ bs)
single_good os l at b bs None is alone slashes star nothing = bad_character b bs refl (nothing is) alone refl
single_good os l at b bs (Some kind) is alone slashes star nothing =
    let facts : SingleFacts (Some kind) b = subst (λ o. SingleFacts o b) is (single_facts b) in
    (single_word refl b refl is alone slashes star, facts.1)

double_good : (os : List Open) (l : Line) (at a b : ℕ) (bs : List ℕ) (o : Option TokenKind) → double_mark a b ≡ o
    → opens_comment 47 (a ∷ b ∷ bs) ≡ false → opens_comment 42 (a ∷ b ∷ bs) ≡ false → NothingElse l a (b ∷ bs)
    → OnGood os l at (double at a o) (a ∷ b ∷ bs)
double_good os l at a b bs None is slashes star nothing =
    single_good os l at a (b ∷ bs) (single_mark a) refl (ap is_some is) slashes star nothing
double_good os l at a b bs (Some kind) is slashes star nothing =
    let facts : DoubleFacts (Some kind) a = subst (λ o. DoubleFacts o a) is (double_facts a b) in
    (double_word refl a b refl is, facts.2)

mark_good : (os : List Open) (l : Line) (at b : ℕ) (bs : List ℕ) → opens_comment 47 (b ∷ bs) ≡ false
    → opens_comment 42 (b ∷ bs) ≡ false → NothingElse l b bs → OnGood os l at (mark_front at (b ∷ bs)) (b ∷ bs)
unfolding mark_front
mark_good os l at b [] slashes star nothing = single_good os l at b [] (single_mark b) refl refl slashes star nothing
mark_good os l at b (c ∷ bs) slashes star nothing =
    double_good os l at b c bs (double_mark b c) refl slashes star nothing

by_good : (os : List Open) (l : Line) (at b : ℕ) (bs : List ℕ) → OnGood os l at (front_by at os l b (b ∷ bs)) (b ∷ bs)
unfolding close_front
by_good os l at b bs =
    let P : Result Front LexFault → Type 0 = λ o. OnGood os l at o (b ∷ bs) in
    if_else P (is_blank b) _ _ (λ y. blank refl b y refl) (λ no_blank.
    if_else P (is_letter b) _ _ (λ y. name_good os l at b bs y) (λ no_letter.
    if_else P (is_ascii_digit b) _ _ (λ y. number_good os l at b bs y) (λ no_digit.
    if_else P (eqb b 39) _ _ (λ y. text_front_good os l at b bs y) (λ no_quote.
    if_else P (opens_comment 47 (b ∷ bs)) _ _
    (λ y. let s = slashes_are 47 b bs y in subst (λ xs. OnGood os l at (Ok (front.Skipped (line_length xs) l)) xs)
    (sym s.1) (line_comment_good os l at s.0)) (λ slashes.
    if_else P (opens_comment 42 (b ∷ bs)) _ _
    (λ y. let s = slashes_are 42 b bs y in subst (λ xs. OnGood os l at (comment_front at os l xs) xs) (sym s.1)
    (comment_front_good os l at s.0)) (λ star.
    if_else P (not (eqb (newline_length (b ∷ bs)) 0)) _ _
    (λ y. let s = line_end_are b bs y in newline_good os l at s.0 s.1 (b ∷ bs) (newline_length (b ∷ bs)) s.2 s.3 s.4)
    (λ no_line_end.
    if_else P (eqb b 35) _ _
    (λ y. subst (λ x. OnGood os l at (directive_front at l (x ∷ bs)) (x ∷ bs)) (sym (eqb-true b 35 y))
    (directive_good os l at bs)) (λ no_hash.
    if_else P (eqb b 123) _ _ (λ y. (open_brace refl refl (ap (λ x. x ∷ []) (eqb-true b 123 y)), refl)) (λ no_open.
    if_else P (eqb b 125) _ _ (λ y. subst (λ x. OnGood os l at (closed at os (innermost os) (x ∷ bs)) (x ∷ bs))
    (sym (eqb-true b 125 y)) (close_good os l at bs (innermost os) refl)) (λ no_close.
    mark_good os l at b bs slashes star (λ none.
    record {
      no_blank = no_blank;
      no_letter = no_letter;
      no_digit = no_digit;
      no_quote = no_quote;
      no_line_comment = slashes;
      no_comment = star;
      no_line_end = no_line_end;
      no_directive = λ e _. absurd (unequal b 35 no_hash e);
      no_open_brace = no_open;
      no_close_brace = no_close;
      no_mark = none;
    })))))))))))

front_good : (os : List Open) (l : Line) (at b : ℕ) (bs : List ℕ) → OnGood os l at (front_of at os l (b ∷ bs)) (b ∷ bs)
unfolding front_of
front_good os l at b bs = by_good os l at b bs

-- parts in a row, and then this
abbrev RowTo : (List Open → Line → ℕ → Type 0) → List ℕ → List Open → Line → ℕ → List ℕ → List Part → Type 0
RowTo Then rest os l at bytes ps = (bytes_of ps rest ≡ bytes) × InARow Then rest os l at ps

token_row : (Then : List Open → Line → ℕ → Type 0) (rest : List ℕ) (os : List Open) (l : Line) (at : ℕ)
    (bytes : List ℕ) (kind : TokenKind) (n : ℕ) (t : Turn) (ps : List Part) → n ≤ length bytes
    → IsWord os l at kind (take n bytes) (drop n bytes) t
    → RowTo Then rest (turned t os) (line_after_token kind) (at + n) (drop n bytes) ps
    → RowTo Then rest os l at bytes (token kind (take n bytes) t ∷ ps)
token_row Then rest os l at bytes kind n t ps within is_word r =
    let w = take n bytes in
    let count : n ≡ length w = sym (length-take-le n bytes within) in (
      ap (λ xs. w ++ xs) r.0 ∙ take-append-drop n bytes,
      (
        subst (λ xs. IsWord os l at kind w xs t) (sym r.0) is_word,
        subst (λ i. InARow Then rest (turned t os) (line_after_token kind) (at + i) ps) count r.1,
      ),
    )

skip_row : (Then : List Open → Line → ℕ → Type 0) (rest : List ℕ) (os : List Open) (l next : Line) (at : ℕ)
    (bytes : List ℕ) (n : ℕ) (ps : List Part) → n ≤ length bytes → IsSkipped l (take n bytes) (drop n bytes) next
    → RowTo Then rest os next (at + n) (drop n bytes) ps
    → RowTo Then rest os l at bytes (skip (take n bytes) next ∷ ps)
skip_row Then rest os l next at bytes n ps within skipped r =
    let w = take n bytes in
    let count : n ≡ length w = sym (length-take-le n bytes within) in (
      ap (λ xs. w ++ xs) r.0 ∙ take-append-drop n bytes,
      (
        subst (λ xs. IsSkipped l w xs next) (sym r.0) skipped,
        subst (λ i. InARow Then rest os next (at + i) ps) count r.1,
      ),
    )

-- what the reading of what is left says of it
abbrev Reads : Outcome → List Open → Line → ℕ → List ℕ → Type 0
Reads (Ok ts) os l at bytes = (ps : List Part) × RowTo NoneIsOpen [] os l at bytes ps × (ts ≡ tokens_of at ps)
Reads (Err f) os l at bytes = (ps : List Part) × (rest : List ℕ)
    × RowTo (λ os l at. IsFault os l at rest f) rest os l at bytes ps

token_reads : (os : List Open) (l : Line) (at : ℕ) (bytes : List ℕ) (kind : TokenKind) (n : ℕ) (t : Turn) (o : Outcome)
    → n ≤ length bytes → IsWord os l at kind (take n bytes) (drop n bytes) t
    → Reads o (turned t os) (line_after_token kind) (at + n) (drop n bytes)
    → Reads (before (kind, at, take n bytes) o) os l at bytes
token_reads os l at bytes kind n t (Ok ts) within is_word r =
    let w = take n bytes in
    let count : n ≡ length w = sym (length-take-le n bytes within) in (
      token kind w t ∷ r.0,
      token_row NoneIsOpen [] os l at bytes kind n t r.0 within is_word r.1,
      ap (λ xs. (kind, at, w) ∷ xs) (r.2 ∙ ap (λ i. tokens_of (at + i) r.0) count),
    )
token_reads os l at bytes kind n t (Err f) within is_word r = (
  token kind (take n bytes) t ∷ r.0,
  r.1,
  token_row (λ os l at. IsFault os l at r.1 f) r.1 os l at bytes kind n t r.0 within is_word r.2,
)

skip_reads : (os : List Open) (l next : Line) (at : ℕ) (bytes : List ℕ) (n : ℕ) (o : Outcome) → n ≤ length bytes
    → IsSkipped l (take n bytes) (drop n bytes) next → Reads o os next (at + n) (drop n bytes) → Reads o os l at bytes
skip_reads os l next at bytes n (Ok ts) within skipped r =
    let count : n ≡ length (take n bytes) = sym (length-take-le n bytes within) in (
      skip (take n bytes) next ∷ r.0,
      skip_row NoneIsOpen [] os l next at bytes n r.0 within skipped r.1,
      r.2 ∙ ap (λ i. tokens_of (at + i) r.0) count,
    )
skip_reads os l next at bytes n (Err f) within skipped r = (
  skip (take n bytes) next ∷ r.0,
  r.1,
  skip_row (λ os l at. IsFault os l at r.1 f) r.1 os l next at bytes n r.0 within skipped r.2,
)

-- the same for all that is shorter
abbrev ReadsBelow : ℕ → Type 0
ReadsBelow m = (os : List Open) (l : Line) (at : ℕ) (bytes : List ℕ) → length bytes ≤ m
    → Reads (reading_from 0 at os l bytes) os l at bytes

front_reads : (m : ℕ) → ReadsBelow m → (os : List Open) (l : Line) (at : ℕ) (bytes : List ℕ) (o : Result Front LexFault)
    → length bytes ≤ suc m → OnFront o bytes → OnGood os l at o bytes → Reads (by_front at os bytes o) os l at bytes
front_reads m below os l at bytes (Err f) most span good = ([], bytes, (refl, good))
front_reads m below os l at bytes (Ok (front.Skipped n next)) most span good =
    skip_reads os l next at bytes n (reading_from 0 (at + n) os next (drop n bytes)) span.1 good
    (below os next (at + n) (drop n bytes) (omega (arith, length-drop n bytes, span.0, most)))
front_reads m below os l at bytes (Ok (front.Newline n)) most span good =
    token_reads os l at bytes k.Newline n turn.Stays (reading_from 0 (at + n) os line.Folded (drop n bytes))
    span.within good
    (below os line.Folded (at + n) (drop n bytes) (omega (arith, length-drop n bytes, span.some, most)))
front_reads m below os l at bytes (Ok (front.Word kind n t)) most span good =
    token_reads os l at bytes kind n t (reading_from 0 (at + n) (turned t os) line.Within (drop n bytes)) span.within
    good.0
    (subst (λ x. Reads (reading_from 0 (at + n) (turned t os) line.Within (drop n bytes)) (turned t os) x (at + n)
    (drop n bytes)) (sym good.1)
    (below (turned t os) line.Within (at + n) (drop n bytes) (omega (arith, length-drop n bytes, span.some, most))))

end_reads : (os : List Open) (l : Line) (at : ℕ) (o : Option ℕ) → outermost os ≡ o → Reads (ended_by o) os l at []
end_reads os l at None top = ([], (refl, top), refl)
end_reads os l at (Some quote) top = ([], [], (refl, open_at_end refl quote top refl))

reads : (m : ℕ) → ReadsBelow m
reads m os l at [] most = end_reads os l at (outermost os) refl
reads zero os l at (b ∷ bs) most = absurd (omega arith)
reads (suc m) os l at (b ∷ bs) most =
    subst (λ o. Reads o os l at (b ∷ bs)) (sym (read_front at os l (b ∷ bs) (omega arith)))
    (front_reads m (reads m) os l at (b ∷ bs) (front_of at os l (b ∷ bs)) most (front_span at os l (b ∷ bs))
    (front_good os l at b bs))

mark-within : (source : List ℕ) → mark_length source ≤ length source
unfolding mark_length
mark-within [] = omega arith
mark-within (b ∷ []) = elim (eqb 239 b) as (λ t. cond (t && false) 3 0 ≤ 1) [ true ↦ omega arith | false ↦ omega arith ]
mark-within (b ∷ c ∷ []) =
    elim (eqb 239 b) as (λ t. cond (t && (eqb 187 c && false)) 3 0 ≤ 2) [
      | true ↦
          (elim (eqb 187 c) as (λ t. cond (true && (t && false)) 3 0 ≤ 2) [ true ↦ omega arith | false ↦ omega arith ])
      | false ↦ omega arith
    ]
mark-within (b ∷ c ∷ d ∷ source) =
    if_else (λ n. n ≤ suc (suc (suc (length source)))) (eqb 239 b && (eqb 187 c && (eqb 191 d && true))) 3 0
    (λ y. omega arith) (λ n. omega arith)

-- what the reading of a source says of what is below its byte order mark
below_mark : (source : List ℕ)
    → Reads (reading source) [] line.Front (length (take (mark_length source) source))
    (drop (mark_length source) source)
unfolding reading
below_mark source =
    let n = mark_length source in
    let within = mark-within source in
    let e : 0 + n ≡ n = omega arith in
    let count : n ≡ length (take n source) = sym (length-take-le n source within) in
    let read : reading_from 0 n [] line.Front (drop n source) ≡ reading_from n 0 [] line.Front source =
    sym (reading-skip n 0 [] line.Front source within
    ∙ ap (λ i. reading_from 0 i [] line.Front (drop n source)) e) in
    subst (λ i. Reads (reading_from n 0 [] line.Front source) [] line.Front i (drop n source)) count
    (subst (λ o. Reads o [] line.Front n (drop n source)) read
    (reads (length (drop n source)) [] line.Front n (drop n source) (omega arith)))

row_before : (source rest : List ℕ) (ps : List Part) (Then : List Open → Line → ℕ → Type 0)
    → RowTo Then rest [] line.Front (length (take (mark_length source) source)) (drop (mark_length source) source) ps
    → StandsBefore source rest (take (mark_length source) source) ps Then
row_before source rest ps Then r =
    let n = mark_length source in
    record {
      is = sym (ap (λ xs. take n source ++ xs) r.0 ∙ take-append-drop n source);
      is_mark = length-take-le n source (mark-within source);
      row = r.1;
    }

-- a source that is read as tokens spells them
pub sound : (source : List ℕ) (tokens : List Standing) → reading source ≡ Ok tokens → Spells source tokens
sound source tokens h =
    let n = mark_length source in
    let r : Reads (Ok tokens) [] line.Front (length (take n source)) (drop n source) =
    subst (λ o. Reads o [] line.Front (length (take n source)) (drop n source)) h (below_mark source) in
    (take n source, r.0, row_before source [] r.0 NoneIsOpen r.1, r.2)

-- a source that is read as a fault is refused for it
pub sound_fault : (source : List ℕ) (f : LexFault) → reading source ≡ Err f → Refuses source f
sound_fault source f h =
    let n = mark_length source in
    let r : Reads (Err f) [] line.Front (length (take n source)) (drop n source) =
    subst (λ o. Reads o [] line.Front (length (take n source)) (drop n source)) h (below_mark source) in
    (take n source, r.0, r.1, row_before source r.1 r.0 (λ os l at. IsFault os l at r.1 f) r.2)
