-- A front has at least one byte and no more than the rest has, and a token begins and ends with ASCII.
use Rattle.std.proofs.Common.{◌≡◌, ℕ, zero, suc, ◌+◌, ◌-◌, ◌^◌, ◌<◌, ◌≤◌, Bool, true, false, cond, not, ◌&&◌, ◌||◌}
use Rattle.std.proofs.Common.{eqb, nat_lt, nat_le, List, [], ◌∷◌, length, take, drop, get_or, Option, Some, None}
use Rattle.std.proofs.Common.{Result, Ok, option_map, refl, ap, sym, subst, ◌∙◌, arith}
use Rattle.std.specs.Char.{is_ascii_digit}
use Rattle.std.specs.List.{prefix_len}
use Rattle.std.proofs.lemmas.Bool.{eqb-true}
use Rattle.std.proofs.lemmas.Bool.Decides.{nat_tests}
use Rattle.std.proofs.lemmas.List.{get_or-drop, length-drop, length-take}
use Rattle.std.proofs.lemmas.List.Sums.{prefix_len-le-length, prefix_len_passes}
use Rattle.std.proofs.lemmas.List.Folds.{length-prefix_len}
use Rattle.bicep_lexer.specs.declared.kind.TokenKind.{TokenKind}
use Rattle.bicep_lexer.specs.declared.fault.LexFault.{LexFault}
use Rattle.bicep_lexer.specs.declared.front.Open.{Open}
use Rattle.bicep_lexer.specs.declared.front.Open.TheVariants as opened
use Rattle.bicep_lexer.specs.declared.front.Line.{Line}
use Rattle.bicep_lexer.specs.declared.front.Line.TheVariants as line
use Rattle.bicep_lexer.specs.declared.front.Turn.{Turn}
use Rattle.bicep_lexer.specs.declared.front.Front.{Front}
use Rattle.bicep_lexer.specs.declared.front.Front.TheVariants as front
use Rattle.bicep_lexer.specs.declared.texts.PieceEnd.{PieceEnd}
use Rattle.bicep_lexer.specs.declared.texts.PieceEnd.TheVariants as ends
use Rattle.bicep_lexer.specs.Bytes.{is_letter, is_name_byte, is_blank, number_from}
use Rattle.bicep_lexer.specs.Reader.Scanning.{name_length, digits_of}
use Rattle.bicep_lexer.specs.Reader.Scanning.{is_escape}
use Rattle.bicep_lexer.specs.Marks.{double_mark, single_mark}
use Rattle.bicep_lexer.specs.Skipped.{newline_length, closes_comment, is_directive}
use Rattle.bicep_lexer.specs.Reader.Scanning.{line_length, comment_length}
use Rattle.bicep_lexer.specs.Reader.Scanning.{piece_end, further, verbatim_length}
use Rattle.bicep_lexer.specs.Signs.{is_hole}
use Rattle.bicep_lexer.specs.Texts.{is_break, quotes}
use Rattle.bicep_lexer.specs.Grammar.{innermost}
use Rattle.bicep_lexer.specs.Reader.Fronts.{number_front, piece, verbatim, text_front, closed, close_front}
use Rattle.bicep_lexer.specs.Grammar.{opens_comment}
use Rattle.bicep_lexer.specs.Reader.Fronts.{commented, comment_front, newline_front, directive_front, single}
use Rattle.bicep_lexer.specs.Reader.Fronts.{double, mark_front, front_by, front_of}
use Rattle.bicep_lexer.specs.Reader.Steps.{IsSpan, OnFront}
use Rattle.bicep_lexer.proofs.Ends.{hole_room}
use Rattle.foundation.proofs.Choices.{if_else}

abbrev Small : ℕ → Type 0
Small b = b < 128

name_small : (b : ℕ) → is_name_byte b ≡ true → b < 128
name_small b h = grind (arith, nat_tests)

digit_small : (b : ℕ) → is_ascii_digit b ≡ true → b < 128
digit_small b h = grind (arith, nat_tests)

-- the longest front of bytes of one sort, all of them ASCII
run_span : (p : ℕ → Bool) (b : ℕ) (bs : List ℕ) → ((x : ℕ) → p x ≡ true → x < 128) → p b ≡ true
    → IsSpan (prefix_len p (b ∷ bs)) (b ∷ bs)
run_span p b bs small h =
    let e : prefix_len p (b ∷ bs) ≡ 1 + prefix_len p bs = ap (λ k. cond k (1 + prefix_len p bs) 0) h in
    let lt : prefix_len p (b ∷ bs) - 1 < prefix_len p (b ∷ bs) = omega (arith, e) in
    record {
      some = omega (arith, e);
      within = prefix_len-le-length p (b ∷ bs);
      first = small b h;
      last =
          small (get_or (b ∷ bs) (prefix_len p (b ∷ bs) - 1) 0)
          (prefix_len_passes p (b ∷ bs) (prefix_len p (b ∷ bs) - 1) 0 lt);
    }

-- one byte more at the front
push_span : (b : ℕ) (bs : List ℕ) (n : ℕ) → b < 128 → 0 < n → n ≤ length bs → get_or bs (n - 1) 0 < 128
    → IsSpan (n + 1) (b ∷ bs)
push_span b bs n small some within last =
    let e : n + 1 - 1 ≡ suc (n - 1) = omega arith in
    record {
      some = omega arith;
      within = omega arith;
      first = small;
      last = subst (λ k. get_or (b ∷ bs) k 0 < 128) (sym e) last;
    }

-- so many bytes, the last of them ASCII
abbrev pub Reaches : ℕ → List ℕ → Type 0
Reaches n bs = (0 < n) × (n ≤ length bs) × (get_or bs (n - 1) 0 < 128)

one_further : (b n : ℕ) (bs : List ℕ) → Reaches n bs → Reaches (1 + n) (b ∷ bs)
one_further b n bs h =
    let e : 1 + n - 1 ≡ suc (n - 1) = omega (arith, h.0) in
    (omega arith, omega (arith, h.1), subst (λ k. get_or (b ∷ bs) k 0 < 128) (sym e) h.2)

abbrev OnEnd : PieceEnd → List ℕ → Type 0
OnEnd (ends.Quote n) bs = Reaches n bs
OnEnd (ends.Hole n) bs = Reaches n bs
OnEnd ends.Line bs = Unit {0}
OnEnd ends.File bs = Unit {0}
OnEnd (ends.BadEscape n) bs = Unit {0}

end_further : (b : ℕ) (e : PieceEnd) (bs : List ℕ) → OnEnd e bs → OnEnd (further 1 e) (b ∷ bs)
end_further b (ends.Quote n) bs h = one_further b n bs h
end_further b (ends.Hole n) bs h = one_further b n bs h
end_further b ends.Line bs h = tt
end_further b ends.File bs h = tt
end_further b (ends.BadEscape n) bs h = tt

hole_reaches : (b : ℕ) (bs : List ℕ) → is_hole b bs ≡ true → Reaches 2 (b ∷ bs)
hole_reaches b [] h = absurd (omega (arith, hole_room b [] h))
hole_reaches b (c ∷ bs) h = (omega arith, omega arith, grind (arith, nat_tests))

end_reaches : (escaped : Bool) (bs : List ℕ) → OnEnd (piece_end escaped bs) bs
end_reaches escaped [] = tt
end_reaches true (b ∷ bs) = end_further b (piece_end false bs) bs (end_reaches false bs)
end_reaches false (b ∷ bs) =
    let P : PieceEnd → Type 0 = λ e. OnEnd e (b ∷ bs) in
    let more : (escaped : Bool) → P (further 1 (piece_end escaped bs)) =
    λ escaped. end_further b (piece_end escaped bs) bs (end_reaches escaped bs) in
    if_else P (eqb b 39) _ _ (λ y. (omega arith, omega arith, subst Small (sym (eqb-true b 39 y)) (omega arith))) (λ n.
    if_else P (is_hole b bs) _ _ (λ y. hole_reaches b bs y) (λ n.
    if_else P (is_break b) _ _ (λ y. tt) (λ n.
    if_else P (eqb b 92) _ _ (λ y. if_else P (is_escape bs) _ _ (λ y. more true) (λ n. tt)) (λ n. more false))))

piece_span : (quote at b : ℕ) (os : List Open) (last other : TokenKind × Turn) (e : PieceEnd) (bs : List ℕ) → b < 128
    → OnEnd e bs → OnFront (piece quote at os last other e) (b ∷ bs)
piece_span quote at b os last other (ends.Quote n) bs small h = push_span b bs n small h.0 h.1 h.2
piece_span quote at b os last other (ends.Hole n) bs small h = push_span b bs n small h.0 h.1 h.2
piece_span quote at b os last other ends.Line bs small h = tt
piece_span quote at b os last other ends.File bs small h = tt
piece_span quote at b os last other (ends.BadEscape n) bs small h = tt

pub quotes_is : (most : ℕ) (bs : List ℕ) → quotes most bs ≡ prefix_len (λ b. eqb b 39) (take most bs)
unfolding quotes
quotes_is most bs = length-prefix_len (λ b. eqb b 39) (take most bs)

get_or-take : (k i : ℕ) (xs : List ℕ) → i < k → get_or (take k xs) i 0 ≡ get_or xs i 0
get_or-take zero i xs h = absurd (omega arith)
get_or-take (suc k) i [] h = refl
get_or-take (suc k) zero (x ∷ xs) h = refl
get_or-take (suc k) (suc i) (x ∷ xs) h = get_or-take k i xs (omega arith)

pub quotes_reach : (most : ℕ) (bs : List ℕ) → 0 < quotes most bs → Reaches (quotes most bs) bs
quotes_reach most bs some =
    let p : ℕ → Bool = λ b. eqb b 39 in
    let is = quotes_is most bs in
    let within = prefix_len-le-length p (take most bs) in
    let room = length-take most bs in
    let n = quotes most bs in
    let lt : n - 1 < prefix_len p (take most bs) = omega (arith, is) in
    let passes : eqb (get_or (take most bs) (n - 1) 0) 39 ≡ true = prefix_len_passes p (take most bs) (n - 1) 0 lt in
    let quote : get_or (take most bs) (n - 1) 0 ≡ 39 = eqb-true (get_or (take most bs) (n - 1) 0) 39 passes in
    let below : n - 1 < most = omega (arith, is, within, room) in
    let same : get_or (take most bs) (n - 1) 0 ≡ get_or bs (n - 1) 0 = get_or-take most (n - 1) bs below in
    (some, omega (arith, is, within, room), subst Small (sym quote ∙ same) (omega arith))

-- a count that may be missing
abbrev OnCount : Option ℕ → List ℕ → Type 0
OnCount None bs = Unit {0}
OnCount (Some n) bs = Reaches n bs

count_further : (b : ℕ) (o : Option ℕ) (bs : List ℕ) → OnCount o bs → OnCount (option_map suc o) (b ∷ bs)
count_further b None bs h = tt
count_further b (Some n) bs h =
    let e : 1 + n ≡ suc n = omega arith in
    subst (λ k. Reaches k (b ∷ bs)) e (one_further b n bs h)

verbatim_reaches : (bs : List ℕ) → OnCount (verbatim_length bs) bs
verbatim_reaches [] = tt
verbatim_reaches (b ∷ bs) =
    if_else (λ o. OnCount o (b ∷ bs)) (nat_le 3 (quotes 5 (b ∷ bs))) _ _
    (λ y. quotes_reach 5 (b ∷ bs) (grind (arith, nat_tests)))
    (λ n. count_further b (verbatim_length bs) bs (verbatim_reaches bs))

-- three quotes at the front of what reaches that far
verbatim_span : (at : ℕ) (os : List Open) (bytes : List ℕ) (o : Option ℕ) → 3 ≤ length bytes → get_or bytes 0 0 < 128
    → OnCount o (drop 3 bytes) → OnFront (verbatim at os o) bytes
verbatim_span at os bytes None room small h = tt
verbatim_span at os bytes (Some n) room small h =
    let e : 3 + (n - 1) ≡ n + 3 - 1 = omega (arith, h.0) in
    record {
      some = omega arith;
      within = omega (arith, h.1, length-drop 3 bytes);
      first = small;
      last = subst (λ k. get_or bytes k 0 < 128) e (subst Small (get_or-drop 3 bytes (n - 1) 0) h.2);
    }

text_span : (at b : ℕ) (os : List Open) (bs : List ℕ) → b < 128 → OnFront (text_front at os (b ∷ bs)) (b ∷ bs)
unfolding text_front
text_span at b os bs small =
    if_else (λ o. OnFront o (b ∷ bs)) (eqb (quotes 3 (b ∷ bs)) 3) _ _
    (λ y.
    let three : quotes 3 (b ∷ bs) ≡ 3 = eqb-true (quotes 3 (b ∷ bs)) 3 y in
    let r : Reaches (quotes 3 (b ∷ bs)) (b ∷ bs) = quotes_reach 3 (b ∷ bs) (omega (arith, three)) in
    verbatim_span at os (b ∷ bs) (verbatim_length (drop 3 (b ∷ bs))) (omega (arith, three, r.1)) small
    (verbatim_reaches (drop 3 (b ∷ bs))))
    (λ n. piece_span at at b os _ _ (piece_end false bs) bs small (end_reaches false bs))

one_span : (b : ℕ) (bs : List ℕ) → b < 128 → IsSpan 1 (b ∷ bs)
one_span b bs small = record { some = omega arith; within = omega arith; first = small; last = small }

close_span : (at b : ℕ) (os : List Open) (o : Option Open) (bs : List ℕ) → b < 128
    → OnFront (closed at os o (b ∷ bs)) (b ∷ bs)
close_span at b os None bs small = one_span b bs small
close_span at b os (Some opened.Brace) bs small = one_span b bs small
close_span at b os (Some (opened.Text quote)) bs small =
    piece_span quote at b os _ _ (piece_end false bs) bs small (end_reaches false bs)

line_within : (bytes : List ℕ) → line_length bytes ≤ length bytes
line_within [] = omega arith
line_within (b ∷ bs) =
    if_else (λ n. n ≤ suc (length bs)) (eqb (newline_length (b ∷ bs)) 0) _ _ (λ y. omega (arith, line_within bs))
    (λ n. omega arith)

line_some : (b : ℕ) (bs : List ℕ) → newline_length (b ∷ bs) ≡ 0 → 0 < line_length (b ∷ bs)
line_some b bs h =
    let e : line_length (b ∷ bs) ≡ suc (line_length bs) = ap (λ k. cond (eqb k 0) (suc (line_length bs)) 0) h in
    omega (arith, e)

no_newline : (b : ℕ) (bs : List ℕ) → (b ≡ 10 → ⊥) → (b ≡ 13 → ⊥) → newline_length (b ∷ bs) ≡ 0
no_newline b bs lf cr = grind (arith, nat_tests)

comment_reaches : (bs : List ℕ) → (n : ℕ) → comment_length bs ≡ Some n → n ≤ length bs
comment_reaches bs n h = within (comment_length bs) n h (bound bs)
  where
    Within : Option ℕ → List ℕ → Type 0
    Within None bs = Unit {0}
    Within (Some n) bs = n ≤ length bs

    room : (b : ℕ) (bs : List ℕ) → closes_comment (b ∷ bs) ≡ true → 2 ≤ suc (length bs)
    room b [] h = absurd (elim (eqb b 42) as (λ k. (k && false) ≡ true → ⊥) [ true ↦ λ e. cc | false ↦ λ e. cc ] h)
    room b (c ∷ bs) h = omega arith

    further_on : (b : ℕ) (o : Option ℕ) (bs : List ℕ) → Within o bs → Within (option_map suc o) (b ∷ bs)
    further_on b None bs h = tt
    further_on b (Some n) bs h = omega (arith, h)

    bound : (bs : List ℕ) → Within (comment_length bs) bs
    bound [] = tt
    bound (b ∷ bs) = if_else (λ o. Within o (b ∷ bs)) (closes_comment (b ∷ bs)) _ _ (λ y. room b bs y)
        (λ n. further_on b (comment_length bs) bs (bound bs))

    within : (o : Option ℕ) (n : ℕ) → o ≡ Some n → Within o bs → n ≤ length bs
    within None n e h = absurd (cc)
    within (Some m) n e h = let same : m ≡ n = cc in omega (arith, same, h)

comment_span : (at : ℕ) (os : List Open) (l : Line) (bytes : List ℕ) → 2 ≤ length bytes
    → OnFront (comment_front at os l bytes) bytes
unfolding comment_front
comment_span at os l bytes room = go (comment_length (drop 2 bytes)) refl
  where
    go : (o : Option ℕ) → comment_length (drop 2 bytes) ≡ o → OnFront (commented at os l bytes o) bytes
    go None e = tt
    go (Some n) e = (omega arith, omega (arith, comment_reaches (drop 2 bytes) n e, length-drop 2 bytes, room))

comment_room : (second : ℕ) (b : ℕ) (bs : List ℕ) → opens_comment second (b ∷ bs) ≡ true → 2 ≤ suc (length bs)
comment_room second b [] h =
    absurd (elim (eqb b 47) as (λ k. (k && false) ≡ true → ⊥) [ true ↦ λ e. cc | false ↦ λ e. cc ] h)
comment_room second b (c ∷ bs) h = omega arith

comment_slash : (second b : ℕ) (bs : List ℕ) → opens_comment second (b ∷ bs) ≡ true → b ≡ 47
comment_slash second b bs h = grind (arith, nat_tests)

line_span : (b : ℕ) (bs : List ℕ) (l : Line) → (b ≡ 10 → ⊥) → (b ≡ 13 → ⊥)
    → OnFront (Ok (front.Skipped (line_length (b ∷ bs)) l)) (b ∷ bs)
line_span b bs l lf cr = (line_some b bs (no_newline b bs lf cr), line_within (b ∷ bs))

newline_is_span : (b : ℕ) (bs : List ℕ) → not (eqb (newline_length (b ∷ bs)) 0) ≡ true
    → IsSpan (newline_length (b ∷ bs)) (b ∷ bs)
newline_is_span b [] =
    if_else (λ n. not (eqb n 0) ≡ true → IsSpan n (b ∷ [])) (eqb b 10) _ _
    (λ y h. one_span b [] (subst Small (sym (eqb-true b 10 y)) (omega arith)))
    (λ n. elim (eqb b 13) as (λ k. not (eqb (cond (k && false) 2 0) 0) ≡ true
    → IsSpan (cond (k && false) 2 0) (b ∷ [])) [ true ↦ λ h. absurd cc | false ↦ λ h. absurd cc ])
newline_is_span b (c ∷ bs) =
    if_else (λ n. not (eqb n 0) ≡ true → IsSpan n (b ∷ c ∷ bs)) (eqb b 10) _ _
    (λ y h. one_span b (c ∷ bs) (subst Small (sym (eqb-true b 10 y)) (omega arith)))
    (λ n. if_else (λ n. not (eqb n 0) ≡ true → IsSpan n (b ∷ c ∷ bs)) (eqb b 13 && eqb c 10) _ _
    (λ y h. let small : b < 128 = grind (arith, nat_tests) in let small' : c < 128 = grind (arith, nat_tests) in
    record { some = omega arith; within = omega arith; first = small; last = small' })
    (λ n h. absurd cc))

newline_span : (b : ℕ) (bs : List ℕ) (l : Line) → not (eqb (newline_length (b ∷ bs)) 0) ≡ true
    → OnFront (newline_front l (newline_length (b ∷ bs))) (b ∷ bs)
newline_span b bs line.Folded h = let s = newline_is_span b bs h in (s.some, s.within)
newline_span b bs line.Front h = newline_is_span b bs h
newline_span b bs line.Within h = newline_is_span b bs h

directive_span : (at b : ℕ) (bs : List ℕ) (l : Line) → (b ≡ 10 → ⊥) → (b ≡ 13 → ⊥)
    → OnFront (directive_front at l (b ∷ bs)) (b ∷ bs)
directive_span at b bs line.Within lf cr = tt
directive_span at b bs line.Front lf cr =
    if_else (λ o. OnFront o (b ∷ bs)) (is_directive (b ∷ bs)) _ _ (λ y. line_span b bs line.Front lf cr) (λ n. tt)
directive_span at b bs line.Folded lf cr =
    if_else (λ o. OnFront o (b ∷ bs)) (is_directive (b ∷ bs)) _ _ (λ y. line_span b bs line.Folded lf cr) (λ n. tt)

-- the bytes of a mark are ASCII
abbrev IfMark : Option TokenKind → Type 0 → Type 0
IfMark None P = Unit {0}
IfMark (Some k) P = P

small_one : (b x : ℕ) → x < 128 → eqb b x ≡ true → b < 128
small_one b x small h = subst Small (sym (eqb-true b x h)) small

single_small : (b : ℕ) → IfMark (single_mark b) (b < 128)
unfolding single_mark
single_small b =
    let P : Option TokenKind → Type 0 = λ o. IfMark o (b < 128) in
    if_else P (eqb b 64) _ _ (λ y. small_one b 64 (omega arith) y) (λ n.
    if_else P (eqb b 46) _ _ (λ y. small_one b 46 (omega arith) y) (λ n.
    if_else P (eqb b 40) _ _ (λ y. small_one b 40 (omega arith) y) (λ n.
    if_else P (eqb b 41) _ _ (λ y. small_one b 41 (omega arith) y) (λ n.
    if_else P (eqb b 91) _ _ (λ y. small_one b 91 (omega arith) y) (λ n.
    if_else P (eqb b 93) _ _ (λ y. small_one b 93 (omega arith) y) (λ n.
    if_else P (eqb b 44) _ _ (λ y. small_one b 44 (omega arith) y) (λ n.
    if_else P (eqb b 58) _ _ (λ y. small_one b 58 (omega arith) y) (λ n.
    if_else P (eqb b 63) _ _ (λ y. small_one b 63 (omega arith) y) (λ n.
    if_else P (eqb b 61) _ _ (λ y. small_one b 61 (omega arith) y) (λ n.
    if_else P (eqb b 60) _ _ (λ y. small_one b 60 (omega arith) y) (λ n.
    if_else P (eqb b 62) _ _ (λ y. small_one b 62 (omega arith) y) (λ n.
    if_else P (eqb b 43) _ _ (λ y. small_one b 43 (omega arith) y) (λ n.
    if_else P (eqb b 45) _ _ (λ y. small_one b 45 (omega arith) y) (λ n.
    if_else P (eqb b 42) _ _ (λ y. small_one b 42 (omega arith) y) (λ n.
    if_else P (eqb b 47) _ _ (λ y. small_one b 47 (omega arith) y) (λ n.
    if_else P (eqb b 37) _ _ (λ y. small_one b 37 (omega arith) y) (λ n.
    if_else P (eqb b 33) _ _ (λ y. small_one b 33 (omega arith) y) (λ n. tt))))))))))))))))))

small_two : (a b x z : ℕ) → x < 128 → z < 128 → (eqb a x && eqb b z) ≡ true → (a < 128) × (b < 128)
small_two a b x z small small' h =
    elim (eqb a x) as (λ k. eqb a x ≡ k → (k && eqb b z) ≡ true → (a < 128) × (b < 128)) [
      | true ↦ λ e h. (small_one a x small e, small_one b z small' h)
      | false ↦ λ e h. absurd cc
    ] refl h

double_small : (a b : ℕ) → IfMark (double_mark a b) ((a < 128) × (b < 128))
unfolding double_mark
double_small a b =
    let P : Option TokenKind → Type 0 = λ o. IfMark o ((a < 128) × (b < 128)) in
    let two : (x z : ℕ) → x < 128 → z < 128 → (eqb a x && eqb b z) ≡ true → (a < 128) × (b < 128) = small_two a b in
    if_else P (eqb a 61 && eqb b 61) _ _ (λ y. two 61 61 (omega arith) (omega arith) y) (λ n.
    if_else P (eqb a 61 && eqb b 126) _ _ (λ y. two 61 126 (omega arith) (omega arith) y) (λ n.
    if_else P (eqb a 33 && eqb b 61) _ _ (λ y. two 33 61 (omega arith) (omega arith) y) (λ n.
    if_else P (eqb a 33 && eqb b 126) _ _ (λ y. two 33 126 (omega arith) (omega arith) y) (λ n.
    if_else P (eqb a 60 && eqb b 61) _ _ (λ y. two 60 61 (omega arith) (omega arith) y) (λ n.
    if_else P (eqb a 62 && eqb b 61) _ _ (λ y. two 62 61 (omega arith) (omega arith) y) (λ n.
    if_else P (eqb a 38 && eqb b 38) _ _ (λ y. two 38 38 (omega arith) (omega arith) y) (λ n.
    if_else P (eqb a 124 && eqb b 124) _ _ (λ y. two 124 124 (omega arith) (omega arith) y) (λ n.
    if_else P (eqb a 63 && eqb b 63) _ _ (λ y. two 63 63 (omega arith) (omega arith) y) (λ n.
    if_else P (eqb a 46 && eqb b 63) _ _ (λ y. two 46 63 (omega arith) (omega arith) y) (λ n.
    if_else P (eqb a 91 && eqb b 63) _ _ (λ y. two 91 63 (omega arith) (omega arith) y) (λ n.
    if_else P (eqb a 58 && eqb b 58) _ _ (λ y. two 58 58 (omega arith) (omega arith) y) (λ n. tt))))))))))))

single_span : (at b : ℕ) (bs : List ℕ) (o : Option TokenKind) → IfMark o (b < 128) → OnFront (single at o) (b ∷ bs)
single_span at b bs None h = tt
single_span at b bs (Some k) h = one_span b bs h

double_span : (at a b : ℕ) (bs : List ℕ) (o : Option TokenKind) → IfMark o ((a < 128) × (b < 128))
    → OnFront (double at a o) (a ∷ b ∷ bs)
double_span at a b bs None h = single_span at a (b ∷ bs) (single_mark a) (single_small a)
double_span at a b bs (Some k) h = record { some = omega arith; within = omega arith; first = h.0; last = h.1 }

mark_span : (at : ℕ) (bytes : List ℕ) → OnFront (mark_front at bytes) bytes
unfolding mark_front
mark_span at [] = tt
mark_span at (b ∷ []) = single_span at b [] (single_mark b) (single_small b)
mark_span at (b ∷ c ∷ bs) = double_span at b c bs (double_mark b c) (double_small b c)

name_span : (b : ℕ) (bs : List ℕ) → is_letter b ≡ true → IsSpan (name_length (b ∷ bs)) (b ∷ bs)
unfolding name_length
name_span b bs h =
    let starts : is_name_byte b ≡ true = ap (λ k. k || is_ascii_digit b) h in
    subst (λ n. IsSpan n (b ∷ bs)) (sym (length-prefix_len is_name_byte (b ∷ bs)))
    (run_span is_name_byte b bs name_small starts)

number_span : (at b : ℕ) (bs : List ℕ) → is_ascii_digit b ≡ true → OnFront (number_front at (b ∷ bs)) (b ∷ bs)
unfolding number_front
number_span at b bs h =
    let span : IsSpan (length (digits_of (b ∷ bs))) (b ∷ bs) =
    subst (λ n. IsSpan n (b ∷ bs)) (sym (length-prefix_len is_ascii_digit (b ∷ bs)))
    (run_span is_ascii_digit b bs digit_small h) in
    if_else (λ o. OnFront o (b ∷ bs)) (nat_lt (number_from 0 (digits_of (b ∷ bs))) (2 ^ 63)) _ _ (λ y. span) (λ n. tt)

by_span : (at b : ℕ) (os : List Open) (l : Line) (bs : List ℕ) → OnFront (front_by at os l b (b ∷ bs)) (b ∷ bs)
unfolding close_front
by_span at b os l bs =
    let P : Result Front LexFault → Type 0 = λ o. OnFront o (b ∷ bs) in
    if_else P (is_blank b) _ _ (λ y. (omega arith, omega arith)) (λ n.
    if_else P (is_letter b) _ _ (λ y. name_span b bs y) (λ n.
    if_else P (is_ascii_digit b) _ _ (λ y. number_span at b bs y) (λ n.
    if_else P (eqb b 39) _ _ (λ y. text_span at b os bs (small_one b 39 (omega arith) y)) (λ n.
    if_else P (opens_comment 47 (b ∷ bs)) _ _ (λ y. let e = comment_slash 47 b bs y in
    line_span b bs l (λ x. omega (arith, e, x)) (λ x. omega (arith, e, x))) (λ n.
    if_else P (opens_comment 42 (b ∷ bs)) _ _ (λ y. comment_span at os l (b ∷ bs) (comment_room 42 b bs y)) (λ n.
    if_else P (not (eqb (newline_length (b ∷ bs)) 0)) _ _ (λ y. newline_span b bs l y) (λ n.
    if_else P (eqb b 35) _ _ (λ y. let e = eqb-true b 35 y in
    directive_span at b bs l (λ x. omega (arith, e, x)) (λ x. omega (arith, e, x))) (λ n.
    if_else P (eqb b 123) _ _ (λ y. one_span b bs (small_one b 123 (omega arith) y)) (λ n.
    if_else P (eqb b 125) _ _ (λ y. close_span at b os (innermost os) bs (small_one b 125 (omega arith) y)) (λ n.
    mark_span at (b ∷ bs)))))))))))

pub front_span : (at : ℕ) (os : List Open) (l : Line) (bytes : List ℕ) → OnFront (front_of at os l bytes) bytes
unfolding front_of
front_span at os l [] = tt
front_span at os l (b ∷ bs) = by_span at b os l bs
