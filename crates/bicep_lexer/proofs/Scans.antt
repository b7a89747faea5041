-- One byte further on.
use Rattle.std.proofs.Common.{◌≡◌, ℕ, suc, ◌+◌, ◌-◌, ◌*◌, ◌<◌, ◌≤◌, ◌^◌, Bool, true, false, cond, eqb, nat_le, List}
use Rattle.std.proofs.Common.{[], ◌∷◌, length, take, drop, get_or, Option, Some, None, option_map, option_and_then}
use Rattle.std.proofs.Common.{refl, subst, zero, ap, sym, ◌∙◌, arith}
use Rattle.std.proofs.lemmas.List.{at_drop_more, length-drop}
use Rattle.std.proofs.Math.Seq.{take-length}
use Rattle.std.proofs.Math.Nat.{pow-le-pow_right}
use Rattle.std.proofs.lemmas.Grind.{pow_more}
use Rattle.std.proofs.lemmas.Bool.Decides.{nat_tests}
use Rattle.bicep_lexer.specs.Bytes.{number_from}
use Rattle.bicep_lexer.specs.Skipped.{newline_length, closes_comment}
use Rattle.bicep_lexer.specs.Reader.Scanning.{line_length, comment_length}
use Rattle.bicep_lexer.specs.Reader.Scanning.{is_escape, closed_number}
use Rattle.bicep_lexer.specs.Escapes.{hexadecimal}
use Rattle.bicep_lexer.specs.Texts.{quotes, is_break}
use Rattle.bicep_lexer.specs.Reader.Scanning.{verbatim_length, further, piece_end}
use Rattle.bicep_lexer.specs.Signs.{is_hole}
use Rattle.bicep_lexer.specs.declared.texts.PieceEnd.{PieceEnd}
use Rattle.bicep_lexer.specs.declared.texts.PieceEnd.TheVariants as ends

line_one : (b : ℕ) (bs : List ℕ) → newline_length (b ∷ bs) ≡ 0 → line_length (b ∷ bs) ≡ suc (line_length bs)
line_one b bs h = ap (λ k. cond (eqb k 0) (suc (line_length bs)) 0) h

-- where no line ends, the line is one byte longer than from the next byte on
pub line_step : (bytes : List ℕ) (n : ℕ) → n < length bytes → newline_length (drop n bytes) ≡ 0
    → line_length (drop n bytes) ≡ suc (line_length (drop (n + 1) bytes))
line_step bytes n lt h =
    at_drop_more line_length bytes n 0 lt
    ∙ line_one (get_or bytes n 0) (drop (n + 1) bytes) (sym (at_drop_more newline_length bytes n 0 lt) ∙ h)

-- two counts, one after the other
pub option_shift : (n : ℕ) (o : Option ℕ) → option_map (λ m. n + m) (option_map suc o) ≡ option_map (λ m. n + 1 + m) o
option_shift n None = refl
option_shift n (Some m) = let e : n + suc m ≡ n + 1 + m = omega arith in ap (λ k. Some k) e

comment_one : (b : ℕ) (bs : List ℕ) → closes_comment (b ∷ bs) ≡ false
    → comment_length (b ∷ bs) ≡ option_map suc (comment_length bs)
comment_one b bs h = ap (λ k. cond k (Some 2) (option_map suc (comment_length bs))) h

pub comment_step : (bytes : List ℕ) (n : ℕ) → n < length bytes → closes_comment (drop n bytes) ≡ false
    → option_map (λ m. n + m) (comment_length (drop n bytes)) ≡ option_map (λ m. n + 1 + m)
    (comment_length (drop (n + 1) bytes))
comment_step bytes n lt h =
    ap (option_map (λ m. n + m)) (at_drop_more comment_length bytes n 0 lt
    ∙ comment_one (get_or bytes n 0) (drop (n + 1) bytes) (sym (at_drop_more closes_comment bytes n 0 lt) ∙ h))
    ∙ option_shift n (comment_length (drop (n + 1) bytes))

verbatim_one : (b : ℕ) (bs : List ℕ) → nat_le 3 (quotes 5 (b ∷ bs)) ≡ false
    → verbatim_length (b ∷ bs) ≡ option_map suc (verbatim_length bs)
verbatim_one b bs h = ap (λ k. cond k (Some (quotes 5 (b ∷ bs))) (option_map suc (verbatim_length bs))) h

pub verbatim_step : (bytes : List ℕ) (n : ℕ) → n < length bytes → nat_le 3 (quotes 5 (drop n bytes)) ≡ false
    → option_map (λ m. n + m) (verbatim_length (drop n bytes)) ≡ option_map (λ m. n + 1 + m)
    (verbatim_length (drop (n + 1) bytes))
verbatim_step bytes n lt h =
    ap (option_map (λ m. n + m)) (at_drop_more verbatim_length bytes n 0 lt
    ∙ verbatim_one (get_or bytes n 0) (drop (n + 1) bytes)
    (sym (at_drop_more (λ xs. nat_le 3 (quotes 5 xs)) bytes n 0 lt) ∙ h))
    ∙ option_shift n (verbatim_length (drop (n + 1) bytes))

pub number_from-grows : (n : ℕ) (ds : List ℕ) → n ≤ number_from n ds
number_from-grows n [] = omega arith
number_from-grows n (d ∷ ds) = omega (arith, number_from-grows (10 * n + (d - 48)) ds)

pub further-more : (n : ℕ) (e : PieceEnd) → further n (further 1 e) ≡ further (n + 1) e
further-more n (ends.Quote m) = let e : n + (1 + m) ≡ n + 1 + m = omega arith in ap (λ k. ends.Quote k) e
further-more n (ends.Hole m) = let e : n + (1 + m) ≡ n + 1 + m = omega arith in ap (λ k. ends.Hole k) e
further-more n ends.Line = refl
further-more n ends.File = refl
further-more n (ends.BadEscape m) = let e : n + (1 + m) ≡ n + 1 + m = omega arith in ap (λ k. ends.BadEscape k) e

-- what `&bytes[n..]` is
pub tail_is : (bytes : List ℕ) (n : ℕ) → take (length bytes - n) (drop n bytes) ≡ drop n bytes
tail_is bytes n = ap (λ k. take k (drop n bytes)) (sym (length-drop n bytes)) ∙ take-length (drop n bytes)

-- a byte after a `\`
pub escaped_step : (bytes : List ℕ) (n : ℕ) → n < length bytes
    → further n (piece_end true (drop n bytes)) ≡ further (n + 1) (piece_end false (drop (n + 1) bytes))
escaped_step bytes n lt = ap (further n) (at_drop_more (piece_end true) bytes n 0 lt)
    ∙ further-more n (piece_end false (drop (n + 1) bytes))

plain_one : (b : ℕ) (bs : List ℕ) → (b ≡ 39 → ⊥) → is_hole b bs ≡ false → is_break b ≡ false → (b ≡ 92 → ⊥)
    → piece_end false (b ∷ bs) ≡ further 1 (piece_end false bs)
plain_one b bs quote hole break backslash = grind (arith, nat_tests)

-- a byte that is itself
pub plain_step : (bytes rest : List ℕ) (n : ℕ) → rest ≡ drop (n + 1) bytes → n < length bytes
    → (get_or bytes n 0 ≡ 39 → ⊥) → is_hole (get_or bytes n 0) rest ≡ false → is_break (get_or bytes n 0) ≡ false
    → (get_or bytes n 0 ≡ 92 → ⊥)
    → further n (piece_end false (drop n bytes)) ≡ further (n + 1) (piece_end false (drop (n + 1) bytes))
plain_step bytes rest n is lt quote hole break backslash =
    ap (further n) (at_drop_more (piece_end false) bytes n 0 lt
    ∙ plain_one (get_or bytes n 0) (drop (n + 1) bytes) quote
    (subst (λ xs. is_hole (get_or bytes n 0) xs ≡ false) is hole) break backslash)
    ∙ further-more n (piece_end false (drop (n + 1) bytes))

escape_one : (b : ℕ) (bs : List ℕ) → (b ≡ 39 → ⊥) → is_hole b bs ≡ false → is_break b ≡ false → b ≡ 92
    → is_escape bs ≡ true → piece_end false (b ∷ bs) ≡ further 1 (piece_end true bs)
escape_one b bs quote hole break backslash right = grind (arith, nat_tests)

-- a `\` that begins an escape
pub escape_step : (bytes rest : List ℕ) (n : ℕ) → rest ≡ drop (n + 1) bytes → n < length bytes
    → (get_or bytes n 0 ≡ 39 → ⊥) → is_hole (get_or bytes n 0) rest ≡ false → is_break (get_or bytes n 0) ≡ false
    → get_or bytes n 0 ≡ 92 → is_escape rest ≡ true
    → further n (piece_end false (drop n bytes)) ≡ further (n + 1) (piece_end true (drop (n + 1) bytes))
escape_step bytes rest n is lt quote hole break backslash right =
    ap (further n) (at_drop_more (piece_end false) bytes n 0 lt
    ∙ escape_one (get_or bytes n 0) (drop (n + 1) bytes) quote
    (subst (λ xs. is_hole (get_or bytes n 0) xs ≡ false) is hole) break backslash
    (subst (λ xs. is_escape xs ≡ true) is right))
    ∙ further-more n (piece_end true (drop (n + 1) bytes))

hexadecimal_one : (digits v b d : ℕ) (bs : List ℕ) → 0 < digits → (b ≡ 125 → ⊥) → hexadecimal b ≡ Some d
    → closed_number digits v (b ∷ bs) ≡ closed_number (digits - 1) (16 * v + d) bs
hexadecimal_one zero v b d bs some other is = absurd (omega arith)
hexadecimal_one (suc digits) v b d bs some other is =
    let e : suc digits - 1 ≡ digits = omega arith in
    let off : eqb b 125 ≡ false = grind (arith, nat_tests) in
    ap (λ k. cond k (Some v) (option_and_then (λ x. closed_number digits (16 * v + x) bs) (hexadecimal b))) off
    ∙ ap (option_and_then (λ x. closed_number digits (16 * v + x) bs)) is
    ∙ ap (λ k. closed_number k (16 * v + d) bs) (sym e)

pub hexadecimal_step : (digits v d : ℕ) (bytes : List ℕ) (n : ℕ) → n < length bytes → 0 < digits
    → (get_or bytes n 0 ≡ 125 → ⊥) → hexadecimal (get_or bytes n 0) ≡ Some d
    → closed_number digits v (drop n bytes) ≡ closed_number (digits - 1) (16 * v + d) (drop (n + 1) bytes)
hexadecimal_step digits v d bytes n lt some other is =
    at_drop_more (closed_number digits v) bytes n 0 lt
    ∙ hexadecimal_one digits v (get_or bytes n 0) d (drop (n + 1) bytes) some other is

-- one hexadecimal digit more
pub hexadecimal_grows : (digits n d : ℕ) → 0 < digits → digits ≤ 6 → n < 16 ^ (6 - digits) → d < 16
    → 16 * n + d < 16 ^ (6 - (digits - 1))
hexadecimal_grows digits n d some most small digit =
    let e : 6 - (digits - 1) ≡ (6 - digits) + 1 = omega arith in
    omega (arith, ap (λ k. 16 ^ k) e, pow_more 16 (6 - digits))

pub hexadecimal_fits : (digits n d : ℕ) → 0 < digits → digits ≤ 6 → n < 16 ^ (6 - digits) → d < 16 → 16 * n + d < 16 ^ 6
hexadecimal_fits digits n d some most small digit =
    let le : 6 - (digits - 1) ≤ 6 = omega arith in
    let sixteen : 0 < 16 = omega arith in
    let p : 16 ^ (6 - (digits - 1)) ≤ 16 ^ 6 = pow-le-pow_right {n = 16} sixteen {i = 6 - (digits - 1)} {j = 6} le in
    omega (arith, hexadecimal_grows digits n d some most small digit, p)

-- from how what is left ends, before and after a byte, to how the whole ends
pub ended_step : (bytes : List ℕ) (n : ℕ) (e e' x y : Bool) (r : PieceEnd) → e ≡ x → e' ≡ y
    → further n (piece_end x (drop n bytes)) ≡ further (n + 1) (piece_end y (drop (n + 1) bytes))
    → further n (piece_end e (drop n bytes)) ≡ r → further (n + 1) (piece_end e' (drop (n + 1) bytes)) ≡ r
ended_step bytes n e e' x y r is is' step h =
    ap (λ k. further (n + 1) (piece_end k (drop (n + 1) bytes))) is' ∙ sym step
    ∙ ap (λ k. further n (piece_end k (drop n bytes))) (sym is) ∙ h
