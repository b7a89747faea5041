-- What the lexer gives is written.
use Rattle.std.proofs.Common.{◌≡◌, ℕ, Bool, true, false, eqb, cond, List, [], ◌∷◌, ◌++◌, Option, Some, None}
use Rattle.std.proofs.Common.{option_map, option_and_then, refl, ap, sym, subst, ◌∙◌, append_assoc, append-nil}
use Rattle.std.proofs.lemmas.Bool.{eqb-true}
use Rattle.arm_expr.specs.Tokens.{Token, a_text, an_int, a_name, open_paren, close_paren, open_bracket, close_bracket}
use Rattle.arm_expr.specs.Tokens.{comma, dot}
use Rattle.arm_expr.specs.Grammar.{Kind, letter, digit, blank, sign, kind_of, goes_on_name, is_digit, GoOnName}
use Rattle.arm_expr.specs.Grammar.{IsName, AreDigits, value_from, fits, signed, with_sign, doubled, IsNumeral}
use Rattle.arm_expr.specs.Lexer.{Pending, between, naming, signing, counting, quoting, quoted, Turn, marked}
use Rattle.arm_expr.specs.Lexer.{start_sign, start_by, start, after_token, turn, ended, lex}
use Rattle.arm_expr.proofs.Words.{IsWord, Writes}
use Rattle.foundation.proofs.Choices.{if_else}

-- what is pending is the front of a word
abbrev IsPending : Pending → Type 0
IsPending between = Unit {0}
IsPending (naming w) = IsName w
IsPending signing = Unit {0}
IsPending (counting n []) = ⊥
IsPending (counting n (d ∷ ds)) = AreDigits (d ∷ ds)
IsPending (quoting s) = Unit {0}
IsPending (quoted s) = Unit {0}

abbrev pending_text : Pending → List ℕ → List ℕ
pending_text between k = k
pending_text (naming w) k = w ++ k
pending_text signing k = 45 ∷ k
pending_text (counting n ds) k = with_sign n ds ++ k
pending_text (quoting s) k = 39 ∷ (doubled s ++ k)
pending_text (quoted s) k = 39 ∷ (doubled s ++ 39 ∷ k)

abbrev OnTurn : Turn → List ℕ → List ℕ → Type 0
OnTurn None cs before = Unit {0}
OnTurn (Some q) cs before = IsPending q.1
    × ((more : List Token) → Writes more (pending_text q.1 cs) → Writes (q.0 ++ more) before)

blank_before : (c : ℕ) (cs : List ℕ) (ts : List Token) → kind_of c ≡ blank → Writes ts cs → Writes ts (c ∷ cs)
blank_before c cs [] is w = (is, w)
blank_before c cs (t ∷ ts) is w =
    let f = w.1 in (
      w.0,
      record {
        blanks = c ∷ f.blanks;
        word = f.word;
        are_blank = (is, f.are_blank);
        is_word =
            f.is_word;
        chars_are = ap (λ x. c ∷ x) f.chars_are;
      },
      w.2,
    )

-- a token of one character
mark_keeps : (c x : ℕ) (t : Token) (cs : List ℕ) → eqb c x ≡ true → IsWord t (x ∷ [])
    → OnTurn (marked (Some t)) cs (c ∷ cs)
mark_keeps c x t cs y is = (
  tt,
  λ more w. (
    cs,
    record {
      blanks = [];
      word = c ∷ [];
      are_blank = tt;
      is_word =
          subst (λ v. IsWord t (v ∷ [])) (sym (eqb-true c x y)) is;
      chars_are = refl;
    },
    w,
  ),
)

start_sign_keeps : (c : ℕ) (cs : List ℕ) → OnTurn (start_sign c) cs (c ∷ cs)
start_sign_keeps c cs =
    let P : Turn → Type 0 = λ o. OnTurn o cs (c ∷ cs) in
    let Q : Option Token → Type 0 = λ o. OnTurn (marked o) cs (c ∷ cs) in
    if_else P (eqb c 45) _ _ (λ y. (tt, λ more w. subst (λ x. Writes more (x ∷ cs)) (sym (eqb-true c 45 y)) w)) (λ n.
    if_else P (eqb c 39) _ _ (λ y. (tt, λ more w. subst (λ x. Writes more (x ∷ cs)) (sym (eqb-true c 39 y)) w)) (λ n.
    if_else Q (eqb c 40) _ _ (λ y. mark_keeps c 40 open_paren cs y refl) (λ n.
    if_else Q (eqb c 41) _ _ (λ y. mark_keeps c 41 close_paren cs y refl) (λ n.
    if_else Q (eqb c 91) _ _ (λ y. mark_keeps c 91 open_bracket cs y refl) (λ n.
    if_else Q (eqb c 93) _ _ (λ y. mark_keeps c 93 close_bracket cs y refl) (λ n.
    if_else Q (eqb c 44) _ _ (λ y. mark_keeps c 44 comma cs y refl) (λ n.
    if_else Q (eqb c 46) _ _ (λ y. mark_keeps c 46 dot cs y refl) (λ n. tt))))))))

start_by_keeps : (k : Kind) (c : ℕ) (cs : List ℕ) → kind_of c ≡ k → OnTurn (start_by k c) cs (c ∷ cs)
start_by_keeps blank c cs is = (tt, λ more w. blank_before c cs more is w)
start_by_keeps letter c cs is = ((is, tt), λ more w. w)
start_by_keeps digit c cs is = ((ap is_digit is, tt), λ more w. w)
start_by_keeps sign c cs is = start_sign_keeps c cs

start_keeps : (c : ℕ) (cs : List ℕ) → OnTurn (start c) cs (c ∷ cs)
start_keeps c cs = start_by_keeps (kind_of c) c cs refl

-- a token ends, and its text was before
ends_keeps : (t : Token) (word : List ℕ) (c : ℕ) (cs : List ℕ) (o : Turn) → IsWord t word → OnTurn o cs (c ∷ cs)
    → OnTurn (after_token t o) cs (word ++ c ∷ cs)
ends_keeps t word c cs None is h = tt
ends_keeps t word c cs (Some q) is h = (
  h.0,
  λ more w. (
    c ∷ cs,
    record { blanks = []; word = word; are_blank = tt; is_word = is; chars_are = refl },
    h.1 more w,
  ),
)

GoOnName-push : (w : List ℕ) (c : ℕ) → GoOnName w → goes_on_name (kind_of c) ≡ true → GoOnName (w ++ c ∷ [])
GoOnName-push [] c h is = (is, tt)
GoOnName-push (x ∷ w) c h is = (h.0, GoOnName-push w c h.1 is)

IsName-push : (w : List ℕ) (c : ℕ) → IsName w → goes_on_name (kind_of c) ≡ true → IsName (w ++ c ∷ [])
IsName-push [] c h is = absurd h
IsName-push (x ∷ w) c h is = (h.0, GoOnName-push w c h.1 is)

pub AreDigits-push : (w : List ℕ) (c : ℕ) → AreDigits w → is_digit (kind_of c) ≡ true → AreDigits (w ++ c ∷ [])
AreDigits-push [] c h is = (is, tt)
AreDigits-push (x ∷ w) c h is = (h.0, AreDigits-push w c h.1 is)

IsPending-push : (n : Bool) (w : List ℕ) (c : ℕ) → IsPending (counting n w) → is_digit (kind_of c) ≡ true
    → IsPending (counting n (w ++ c ∷ []))
IsPending-push n [] c h is = absurd h
IsPending-push n (x ∷ w) c h is = (h.0, AreDigits-push w c h.1 is)

with_sign-push : (n : Bool) (w : List ℕ) (c : ℕ) (cs : List ℕ)
    → with_sign n (w ++ c ∷ []) ++ cs ≡ with_sign n w ++ c ∷ cs
with_sign-push false w c cs = append_assoc w (c ∷ []) cs
with_sign-push true w c cs = ap (λ x. 45 ∷ x) (append_assoc w (c ∷ []) cs)

-- the characters that stand for one within quotes
abbrev twice : ℕ → List ℕ
twice c = cond (eqb c 39) (39 ∷ 39 ∷ []) (c ∷ [])

doubled-push : (s : List ℕ) (c : ℕ) → doubled (s ++ c ∷ []) ≡ doubled s ++ twice c
doubled-push [] c = refl
doubled-push (x ∷ s) c =
    elim (eqb x 39) as (λ b. cond b (39 ∷ 39 ∷ doubled (s ++ c ∷ [])) (x ∷ doubled (s ++ c ∷ []))
    ≡ cond b (39 ∷ 39 ∷ doubled s) (x ∷ doubled s) ++ twice c) [
      | true ↦ ap (λ y. 39 ∷ 39 ∷ y) (doubled-push s c)
      | false ↦ ap (λ y. x ∷ y) (doubled-push s c)
    ]

doubled-plain : (s : List ℕ) (c : ℕ) (cs : List ℕ) → eqb c 39 ≡ false
    → doubled (s ++ c ∷ []) ++ cs ≡ doubled s ++ c ∷ cs
doubled-plain s c cs h =
    ap (λ x. x ++ cs) (doubled-push s c ∙ ap (λ b. doubled s ++ cond b (39 ∷ 39 ∷ []) (c ∷ [])) h)
    ∙ append_assoc (doubled s) (c ∷ []) cs

doubled-quote : (s cs : List ℕ) → doubled (s ++ 39 ∷ []) ++ cs ≡ doubled s ++ 39 ∷ 39 ∷ cs
doubled-quote s cs = ap (λ x. x ++ cs) (doubled-push s 39) ∙ append_assoc (doubled s) (39 ∷ 39 ∷ []) cs

numeral : (n : Bool) (ds : List ℕ) → IsPending (counting n ds) → fits n (value_from 0 ds) ≡ true
    → IsNumeral (with_sign n ds) (signed n (value_from 0 ds))
numeral n [] h f = absurd h
numeral n (d ∷ ds) h f = record {
  negative = n;
  first = d;
  digits = ds;
  are_digits = h;
  within = f;
  word_is =
      refl;
  value_is = refl;
}

turn_keeps : (p : Pending) (c : ℕ) (cs : List ℕ) → IsPending p → OnTurn (turn p c) cs (pending_text p (c ∷ cs))
turn_keeps between c cs h = start_keeps c cs
turn_keeps (naming w) c cs h =
    if_else (λ o. OnTurn o cs (w ++ c ∷ cs)) (goes_on_name (kind_of c)) _ _
    (λ y. (IsName-push w c h y, λ more m. subst (Writes more) (append_assoc w (c ∷ []) cs) m))
    (λ n. ends_keeps (a_name w) w c cs (start c) (h, refl) (start_keeps c cs))
turn_keeps signing c cs h =
    if_else (λ o. OnTurn o cs (45 ∷ c ∷ cs)) (is_digit (kind_of c)) _ _ (λ y. ((y, tt), λ more m. m)) (λ n. tt)
turn_keeps (counting s ds) c cs h =
    if_else (λ o. OnTurn o cs (with_sign s ds ++ c ∷ cs)) (is_digit (kind_of c)) _ _
    (λ y. (IsPending-push s ds c h y, λ more m. subst (Writes more) (with_sign-push s ds c cs) m))
    (λ n. if_else (λ o. OnTurn (option_and_then (λ t. after_token t (start c)) o) cs (with_sign s ds ++ c ∷ cs))
    (fits s (value_from 0 ds)) _ _
    (λ f. ends_keeps (an_int (signed s (value_from 0 ds))) (with_sign s ds) c cs (start c) (numeral s ds h f)
    (start_keeps c cs))
    (λ f. tt))
turn_keeps (quoting s) c cs h =
    if_else (λ o. OnTurn o cs (39 ∷ (doubled s ++ c ∷ cs))) (eqb c 39) _ _
    (λ y. (tt, λ more m. subst (λ x. Writes more (39 ∷ (doubled s ++ x ∷ cs))) (sym (eqb-true c 39 y)) m))
    (λ n. (tt, λ more m. subst (λ x. Writes more (39 ∷ x)) (doubled-plain s c cs n) m))
turn_keeps (quoted s) c cs h =
    if_else (λ o. OnTurn o cs (39 ∷ (doubled s ++ 39 ∷ c ∷ cs))) (eqb c 39) _ _
    (λ y. (
      tt,
      λ more m. subst (λ x. Writes more (39 ∷ (doubled s ++ 39 ∷ x ∷ cs))) (sym (eqb-true c 39 y))
          (subst (λ x. Writes more (39 ∷ x)) (doubled-quote s cs) m),
    ))
    (λ n. subst (λ x. OnTurn (after_token (a_text s) (start c)) cs (39 ∷ x))
    (append_assoc (doubled s) (39 ∷ []) (c ∷ cs))
    (ends_keeps (a_text s) (39 ∷ (doubled s ++ 39 ∷ [])) c cs (start c) refl (start_keeps c cs)))

abbrev OnEnd : Option (List Token) → List ℕ → Type 0
OnEnd None before = Unit {0}
OnEnd (Some ts) before = Writes ts before

one_token : (t : Token) (word : List ℕ) → IsWord t word → Writes (t ∷ []) (word ++ [])
one_token t word is = ([], record { blanks = []; word = word; are_blank = tt; is_word = is; chars_are = refl }, tt)

ended_keeps : (p : Pending) → IsPending p → OnEnd (ended p) (pending_text p [])
ended_keeps between h = tt
ended_keeps (naming w) h = one_token (a_name w) w (h, refl)
ended_keeps signing h = tt
ended_keeps (counting n ds) h =
    if_else (λ o. OnEnd (option_map (λ t. t ∷ []) o) (with_sign n ds ++ [])) (fits n (value_from 0 ds)) _ _
    (λ f. one_token (an_int (signed n (value_from 0 ds))) (with_sign n ds) (numeral n ds h f)) (λ f. tt)
ended_keeps (quoting s) h = tt
ended_keeps (quoted s) h = subst (λ x. Writes (a_text s ∷ []) x) (append-nil (39 ∷ (doubled s ++ 39 ∷ [])))
    (one_token (a_text s) (39 ∷ (doubled s ++ 39 ∷ [])) refl)

sound : (text : List ℕ) (p : Pending) → IsPending p → OnEnd (lex p text) (pending_text p text)
sound [] p h = ended_keeps p h
sound (c ∷ cs) p h =
    elim (turn p c) as (λ o. OnTurn o cs (pending_text p (c ∷ cs))
    → OnEnd (option_and_then (λ q. option_map (λ ts. q.0 ++ ts) (lex q.1 cs)) o) (pending_text p (c ∷ cs))) [
      | None ↦ λ k. tt
      | Some q ↦ λ k.
          elim (lex q.1 cs) as (λ r. OnEnd r (pending_text q.1 cs)
          → OnEnd (option_map (λ ts. q.0 ++ ts) r) (pending_text p (c ∷ cs))) [
            | None ↦ λ w. tt
            | Some more ↦ λ w. k.1 more w
          ] (sound cs q.1 k.0)
    ] (turn_keeps p c cs h)

pub lexed_is_written : (text : List ℕ) (ts : List Token) → lex between text ≡ Some ts → Writes ts text
lexed_is_written text ts h = subst (λ o. OnEnd o text) h (sound text between tt)
