-- The lexer's steps.
use Rattle.std.proofs.Common.{◌≡◌, ◌≢◌, ◌<◌, length, get_or, drop, take, ℕ, ◌+◌, ◌-◌, ◌*◌, ◌≤◌, ◌==◌, List, [], ◌∷◌}
use Rattle.std.proofs.Common.{◌++◌, refl, ap}
use Rattle.std.proofs.Common.{sym, subst, ◌∙◌, map, Option, Some, None, option_map, option_and_then, append-nil}
use Rattle.std.proofs.Common.{append_assoc, arith, ap₂, Bool, true, false, true≢false, if◌then◌else◌, encode_utf8}
use Rattle.std.proofs.Common.{lit<}
use Rattle.std.proofs.Math.Seq.{take-append_seam, drop-append_seam}
use Rattle.std.specs.Prelude.{encode_utf8_all}
use Rattle.std.specs.Str.{chars, IsUtf8, IsCharBoundary}
use Rattle.std.proofs.lemmas.Str.{chars_from_encodes, encodes-chars, encodes-append, IsUtf8-take}
use Rattle.std.proofs.lemmas.Str.{IsCharBoundary-at_seam}
use Rattle.std.proofs.lemmas.Str.{chars_past_char, chars-nil, chars-append, chars-IsAscii, IsUtf8-from_ascii}
use lib.Utf8.{encodes}
use denote.Ref.{Bor}
use Rattle.std.specs.Prelude.{Result, Ok, Err}
use Rattle.foundation.specs.declared.stop.Stop.{Stop}
use Rattle.foundation.specs.declared.stop.Stop.TheVariants.{Refused}
use Rattle.foundation.specs.Stopping.{Stops}
use Rattle.foundation.proofs.AsciiWords.{one_ascii}
use Rattle.std.proofs.lemmas.List.{at_drop_more, length-append}
use Rattle.std.proofs.lemmas.Bool.{eqb-true}
use Rattle.arm_expr.specs.Grammar.{kind_of, letter, digit, blank, sign, goes_on_name, is_digit, value_from}
use Rattle.arm_expr.specs.Tokens.{Token, token_of, a_name, a_text}
use Rattle.arm_expr.specs.Lexer.{Pending, between, naming, signing, counting, quoting, quoted, Turn, after_token}
use Rattle.arm_expr.specs.Lexer.{turn, lex}
use Rattle.arm_expr.specs.Lexer.{start, start_by, start_sign, number}
use Rattle.arm_expr.specs.Runs.{continues, front, rest, begun, numeral, counted, onto, Reads}
use Rattle.arm_expr.specs.declared.lexer.Run.TheVariants as run
use Rattle.arm_expr.specs.declared.token.Token as tokens

pub value_from-grows : (n : ℕ) (ds : List ℕ) → n ≤ value_from n ds
value_from-grows n [] = omega arith
value_from-grows n (d ∷ ds) = omega (arith, value_from-grows (10 * n + (d - 48)) ds)

pub tokens-push : (vs : List tokens.Token) (v : tokens.Token)
    → map token_of (vs ++ v ∷ []) ≡ map token_of vs ++ token_of v ∷ []
tokens-push [] v = refl
tokens-push (x ∷ vs) v = ap (λ ts. token_of x ∷ ts) (tokens-push vs v)

pub ruleset lexer_views = (tokens-push)

pub cons_at : (all : List ℕ) (n c : ℕ) → (n < length all) × (c ≡ get_or all n c) → drop n all ≡ c ∷ drop (n + 1) all
cons_at all n c t = at_drop_more (λ xs. xs) all n c t.0 ∙ ap (λ x. x ∷ drop (n + 1) all) (sym t.1)

-- ---- runs

rest_goes : (p : ℕ → Bool) (c : ℕ) (cs : List ℕ) → p c ≡ true → rest p (c ∷ cs) ≡ rest p cs
rest_goes p c cs e = ap (λ b. if b then rest p cs else c ∷ cs) e

rest_stops : (p : ℕ → Bool) (c : ℕ) (cs : List ℕ) → p c ≡ false → rest p (c ∷ cs) ≡ c ∷ cs
rest_stops p c cs e = ap (λ b. if b then rest p cs else c ∷ cs) e

front_goes : (p : ℕ → Bool) (c : ℕ) (cs : List ℕ) → p c ≡ true → front p (c ∷ cs) ≡ c ∷ front p cs
front_goes p c cs e = ap (λ b. if b then c ∷ front p cs else []) e

front_stops : (p : ℕ → Bool) (c : ℕ) (cs : List ℕ) → p c ≡ false → front p (c ∷ cs) ≡ []
front_stops p c cs e = ap (λ b. if b then c ∷ front p cs else []) e

pub rest-shorter : (p : ℕ → Bool) (cs : List ℕ) → length (rest p cs) ≤ length cs
rest-shorter p [] = omega arith
rest-shorter p (c ∷ cs) = by (p c) refl (rest-shorter p cs)
  where
    by : (b : Bool) → p c ≡ b → length (rest p cs) ≤ length cs → length (rest p (c ∷ cs)) ≤ length (c ∷ cs)
    by true e h = omega (arith, ap length (rest_goes p c cs e), h)
    by false e h = omega (arith, ap length (rest_stops p c cs e))

pub front_and_rest : (p : ℕ → Bool) (cs : List ℕ) → cs ≡ front p cs ++ rest p cs
front_and_rest p [] = refl
front_and_rest p (c ∷ cs) = by (p c) refl (front_and_rest p cs)
  where
    by : (b : Bool) → p c ≡ b → cs ≡ front p cs ++ rest p cs → c ∷ cs ≡ front p (c ∷ cs) ++ rest p (c ∷ cs)
    by true e h = ap (λ l. c ∷ l) h ∙ sym (ap₂ (λ f r. f ++ r) (front_goes p c cs e) (rest_goes p c cs e))
    by false e h = sym (ap₂ (λ f r. f ++ r) (front_stops p c cs e) (rest_stops p c cs e))

nothing_more : (o : Option (List Token)) → option_map (λ ts. [] ++ ts) o ≡ o
nothing_more None = refl
nothing_more (Some ts) = refl

-- a run is read at once
module _ (p : ℕ → Bool) (P : List ℕ → Pending)
    (step : (w : List ℕ) (c : ℕ) → p c ≡ true → turn (P w) c ≡ Some ([], P (w ++ c ∷ []))) where
  over_run : (cs w : List ℕ) → lex (P w) cs ≡ lex (P (w ++ front p cs)) (rest p cs)
  over_run [] w = ap (λ v. lex (P v) []) (sym (append-nil w))
  over_run (c ∷ cs) w = by (p c) refl (over_run cs (w ++ c ∷ []))
    where
      by : (b : Bool) → p c ≡ b → lex (P (w ++ c ∷ [])) cs ≡ lex (P ((w ++ c ∷ []) ++ front p cs)) (rest p cs)
          → lex (P w) (c ∷ cs) ≡ lex (P (w ++ front p (c ∷ cs))) (rest p (c ∷ cs))
      by true e h =
          ap (λ o. begun o cs) (step w c e) ∙ nothing_more (lex (P (w ++ c ∷ [])) cs) ∙ h
          ∙ ap (λ v. lex (P v) (rest p cs)) (append_assoc w (c ∷ []) (front p cs))
          ∙ sym (ap₂ (λ f r. lex (P (w ++ f)) r) (front_goes p c cs e) (rest_goes p c cs e))
      by false e h =
          ap (λ v. lex (P v) (c ∷ cs)) (sym (append-nil w))
          ∙ sym (ap₂ (λ f r. lex (P (w ++ f)) r) (front_stops p c cs e) (rest_stops p c cs e))

name_goes : (w : List ℕ) (c : ℕ) → continues run.Name c ≡ true → turn (naming w) c ≡ Some ([], naming (w ++ c ∷ []))
name_goes w c e = ap (λ b. if b then Some ([], naming (w ++ c ∷ [])) else after_token (a_name w) (start c)) e

number_goes : (n : Bool) (w : List ℕ) (c : ℕ) → continues run.Digits c ≡ true
    → turn (counting n w) c ≡ Some ([], counting n (w ++ c ∷ []))
number_goes n w c e =
    ap (λ b. if b then Some ([], counting n (w ++ c ∷ []))
    else option_and_then (λ t. after_token t (start c)) (number n w)) e

abbrev text_turn : Bool → List ℕ → ℕ → Turn
text_turn b w c = if b then Some ([], quoted w) else Some ([], quoting (w ++ c ∷ []))

text_goes : (w : List ℕ) (c : ℕ) → continues run.Quoted c ≡ true → turn (quoting w) c ≡ Some ([], quoting (w ++ c ∷ []))
text_goes w c e = by (c == 39) e
  where
    by : (b : Bool) → (if b then false else true) ≡ true → text_turn b w c ≡ Some ([], quoting (w ++ c ∷ []))
    by true f = absurd (true≢false (sym f))
    by false f = refl

-- ---- what follows a run

maps_on : (t : Token) (us : List Token) (o : Option (List Token))
    → option_map (λ ts. (t ∷ us) ++ ts) o ≡ option_map (λ ts. t ∷ ts) (option_map (λ ts. us ++ ts) o)
maps_on t us None = refl
maps_on t us (Some ts) = refl

after_turn : (t : Token) (o : Turn) (cs : List ℕ) → begun (after_token t o) cs ≡ option_map (λ ts. t ∷ ts) (begun o cs)
after_turn t None cs = refl
after_turn t (Some q) cs = maps_on t q.0 (lex q.1 cs)

after_turns : (n : Option Token) (o : Turn) (cs : List ℕ)
    → begun (option_and_then (λ t. after_token t o) n) cs
    ≡ option_and_then (λ t. option_map (λ ts. t ∷ ts) (begun o cs)) n
after_turns None o cs = refl
after_turns (Some t) o cs = after_turn t o cs

alone : (n : Option Token)
    → option_map (λ t. t ∷ []) n ≡ option_and_then (λ t. option_map (λ ts. t ∷ ts) (Some [])) n
alone None = refl
alone (Some t) = refl

abbrev in_name : ℕ → Bool
in_name = continues run.Name

abbrev in_number : ℕ → Bool
in_number = continues run.Digits

abbrev in_text : ℕ → Bool
in_text = continues run.Quoted

-- the text ends the name
abbrev EndsName : List ℕ → List ℕ → Type 0
EndsName w l = lex (naming w) l ≡ option_map (λ ts. a_name w ∷ ts) (lex between l)

name_ends : (cs w : List ℕ) → EndsName w (rest in_name cs)
name_ends [] w = refl
name_ends (c ∷ cs) w = by (in_name c) refl (name_ends cs w)
  where
    by : (b : Bool) → in_name c ≡ b → EndsName w (rest in_name cs) → EndsName w (rest in_name (c ∷ cs))
    by true e h = subst (EndsName w) (sym (rest_goes in_name c cs e)) h
    by false e h =
        subst (EndsName w) (sym (rest_stops in_name c cs e))
        (ap (λ b. begun (if b then Some ([], naming (w ++ c ∷ [])) else after_token (a_name w) (start c)) cs) e
        ∙ after_turn (a_name w) (start c) cs)

-- the tokens of a number and of what follows it
abbrev number_then : Option Token → List ℕ → Option (List Token)
number_then n l = option_and_then (λ t. option_map (λ ts. t ∷ ts) (lex between l)) n

-- the text ends the number
abbrev EndsNumber : Bool → List ℕ → List ℕ → Type 0
EndsNumber n ds l = lex (counting n ds) l ≡ number_then (number n ds) l

number_ends : (n : Bool) (cs ds : List ℕ) → EndsNumber n ds (rest in_number cs)
number_ends n [] ds = alone (number n ds)
number_ends n (c ∷ cs) ds = by (in_number c) refl (number_ends n cs ds)
  where
    by : (b : Bool) → in_number c ≡ b → EndsNumber n ds (rest in_number cs) → EndsNumber n ds (rest in_number (c ∷ cs))
    by true e h = subst (EndsNumber n ds) (sym (rest_goes in_number c cs e)) h
    by false e h =
        subst (EndsNumber n ds) (sym (rest_stops in_number c cs e))
        (ap (λ b. begun (if b then Some ([], counting n (ds ++ c ∷ []))
        else option_and_then (λ t. after_token t (start c)) (number n ds)) cs) e
        ∙ after_turns (number n ds) (start c) cs)

-- ---- strings

is_quote : (b : Bool) → (if b then false else true) ≡ false → b ≡ true
is_quote true f = refl
is_quote false f = absurd (true≢false f)

unclosed_end : (cs w : List ℕ) → ((k : List ℕ) → rest in_text cs ≢ 39 ∷ k) → lex (quoting w) (rest in_text cs) ≡ None
unclosed_end [] w h = refl
unclosed_end (c ∷ cs) w h = by (in_text c) refl (unclosed_end cs w)
  where
    by : (b : Bool) → in_text c ≡ b
        → (((k : List ℕ) → rest in_text cs ≢ 39 ∷ k) → lex (quoting w) (rest in_text cs) ≡ None)
        → lex (quoting w) (rest in_text (c ∷ cs)) ≡ None
    by true e r =
        ap (lex (quoting w)) (rest_goes in_text c cs e) ∙ r (λ k f. h k (rest_goes in_text c cs e ∙ f))
    by false e r =
        absurd (h cs (rest_stops in_text c cs e ∙ ap (λ d. d ∷ cs) (eqb-true c 39 (is_quote (c == 39) e))))

-- no quote ends the string
pub unclosed : (cs s : List ℕ) → ((k : List ℕ) → rest in_text cs ≢ 39 ∷ k) → lex (quoting s) cs ≡ None
unclosed cs s h = over_run in_text quoting text_goes cs s ∙ unclosed_end cs (s ++ front in_text cs) h

-- a quote follows the part
pub closed : (cs k s : List ℕ) → rest in_text cs ≡ 39 ∷ k → lex (quoting s) cs ≡ lex (quoted (s ++ front in_text cs)) k
closed cs k s e =
    over_run in_text quoting text_goes cs s ∙ ap (lex (quoting (s ++ front in_text cs))) e
    ∙ nothing_more (lex (quoted (s ++ front in_text cs)) k)

-- two quotes are one of the string
pub again : (k s : List ℕ) → lex (quoted s) (39 ∷ k) ≡ lex (quoting (s ++ 39 ∷ [])) k
again k s = nothing_more (lex (quoting (s ++ 39 ∷ [])) k)

-- one quote ends the string
pub text_ends : (k s : List ℕ) → ((cs : List ℕ) → k ≢ 39 ∷ cs)
    → lex (quoted s) k ≡ option_map (λ ts. a_text s ∷ ts) (lex between k)
text_ends [] s h = refl
text_ends (c ∷ cs) s h = by (c == 39) refl
  where
    by : (b : Bool) → (c == 39) ≡ b → lex (quoted s) (c ∷ cs) ≡ option_map (λ ts. a_text s ∷ ts) (lex between (c ∷ cs))
    by true e = absurd (h cs (ap (λ d. d ∷ cs) (eqb-true c 39 e)))
    by false e =
        ap (λ b. begun (if b then Some ([], quoting (s ++ 39 ∷ [])) else after_token (a_text s) (start c)) cs) e
        ∙ after_turn (a_text s) (start c) cs

-- ---- what the first character begins

pub blank_first : (c : ℕ) (cs : List ℕ) → kind_of c ≡ blank → lex between (c ∷ cs) ≡ lex between cs
blank_first c cs e = ap (λ k. begun (start_by k c) cs) e ∙ nothing_more (lex between cs)

pub letter_first : (c : ℕ) (cs : List ℕ) → kind_of c ≡ letter
    → lex between (c ∷ cs)
    ≡ option_map (λ ts. a_name (front in_name (c ∷ cs)) ∷ ts) (lex between (rest in_name (c ∷ cs)))
letter_first c cs e =
    let goes : in_name c ≡ true = ap goes_on_name e in
    ap (λ k. begun (start_by k c) cs) e ∙ nothing_more (lex (naming (c ∷ [])) cs)
    ∙ over_run in_name naming name_goes cs (c ∷ []) ∙ name_ends cs (c ∷ front in_name cs)
    ∙ sym (ap₂ (λ f r. option_map (λ ts. a_name f ∷ ts) (lex between r))
    (front_goes in_name c cs goes) (rest_goes in_name c cs goes))

-- a name is shorter than all
pub letter_rest : (c : ℕ) (cs : List ℕ) → kind_of c ≡ letter → length (rest in_name (c ∷ cs)) ≤ length cs
letter_rest c cs e = omega (arith, ap length (rest_goes in_name c cs (ap goes_on_name e)), rest-shorter in_name cs)

pub digit_rest : (c : ℕ) (cs : List ℕ) → kind_of c ≡ digit → length (rest in_number (c ∷ cs)) ≤ length cs
digit_rest c cs e = omega (arith, ap length (rest_goes in_number c cs (ap is_digit e)), rest-shorter in_number cs)

digits_first : (n : Bool) (c : ℕ) (cs : List ℕ) → in_number c ≡ true → lex (counting n (c ∷ [])) cs ≡ counted n (c ∷ cs)
digits_first n c cs goes =
    over_run in_number (counting n) (number_goes n) cs (c ∷ []) ∙ number_ends n cs (c ∷ front in_number cs)
    ∙ sym (ap₂ (λ f r. number_then (numeral n f) r) (front_goes in_number c cs goes) (rest_goes in_number c cs goes))

pub digit_first : (c : ℕ) (cs : List ℕ) → kind_of c ≡ digit → lex between (c ∷ cs) ≡ counted false (c ∷ cs)
digit_first c cs e =
    ap (λ k. begun (start_by k c) cs) e ∙ nothing_more (lex (counting false (c ∷ [])) cs)
    ∙ digits_first false c cs (ap is_digit e)

pub sign_first : (c : ℕ) (cs : List ℕ) → kind_of c ≡ sign → lex between (c ∷ cs) ≡ begun (start_sign c) cs
sign_first c cs e = ap (λ k. begun (start_by k c) cs) e

signed_first : (cs : List ℕ) → lex signing cs ≡ counted true cs
signed_first [] = refl
signed_first (c ∷ cs) = by (in_number c) refl
  where
    by : (b : Bool) → in_number c ≡ b → lex signing (c ∷ cs) ≡ counted true (c ∷ cs)
    by true e =
        ap (λ b. begun (if b then Some ([], counting true (c ∷ [])) else None) cs) e
        ∙ nothing_more (lex (counting true (c ∷ [])) cs) ∙ digits_first true c cs e
    by false e =
        ap (λ b. begun (if b then Some ([], counting true (c ∷ [])) else None) cs) e
        ∙ sym (ap (λ f. number_then (numeral true f) (rest in_number (c ∷ cs))) (front_stops in_number c cs e))

pub minus_first : (cs : List ℕ) → begun (start_sign 45) cs ≡ counted true cs
minus_first cs = nothing_more (lex signing cs) ∙ signed_first cs

pub quote_first : (cs : List ℕ) → begun (start_sign 39) cs ≡ lex (quoting []) cs
quote_first cs = nothing_more (lex (quoting []) cs)

-- one token more is found
pub onto-push : (ts : List Token) (t : Token) (o : Option (List Token))
    → onto (ts ++ t ∷ []) o ≡ onto ts (option_map (λ us. t ∷ us) o)
onto-push ts t None = refl
onto-push ts t (Some us) = ap (λ l. Some l) (append_assoc ts (t ∷ []) us)

pub onto-none : (o : Option (List Token)) → onto [] o ≡ o
onto-none o = nothing_more o

-- ---- readers

pub reads_as : (old new : List Token) (a b : Option (List Token)) (m n : ℕ) (r : Result (Bor (List ℕ)) Stop)
    → a ≡ b → m ≤ n → Reads old new a m r → Reads old new b n r
reads_as old new a b m n (Ok left) e l h = (h.0 ∙ ap (onto old) e, omega (arith, h.1, l))
reads_as old new a b m n (Err s) e l h = subst (Stops s) e h

pub name_found : (old new : List Token) (c : ℕ) (cs all left : List ℕ) → all ≡ c ∷ cs → letter ≡ kind_of c
    → new ≡ old ++ a_name (front in_name all) ∷ [] → left ≡ rest in_name all
    → (onto new (lex between left) ≡ onto old (lex between all)) × (length left ≤ length cs)
name_found old new c cs all left all_is k new_is left_is =
    let first : lex between all
    ≡ option_map (λ ts. a_name (front in_name all) ∷ ts) (lex between (rest in_name all)) =
    subst (λ l. lex between l ≡ option_map (λ ts. a_name (front in_name l) ∷ ts) (lex between (rest in_name l)))
    (sym all_is) (letter_first c cs (sym k)) in (
      ap₂ (λ ts l. onto ts (lex between l)) new_is left_is
          ∙ onto-push old (a_name (front in_name all)) (lex between (rest in_name all))
          ∙ ap (onto old) (sym first),
      omega (arith, ap length left_is, ap (λ l. length (rest in_name l)) all_is, letter_rest c cs (sym k)),
    )

pub digits_found : (c : ℕ) (cs all : List ℕ) → all ≡ c ∷ cs → digit ≡ kind_of c
    → (counted false all ≡ lex between all) × (length (rest in_number all) ≤ length cs)
digits_found c cs all all_is k = (
  subst (λ l. counted false l ≡ lex between l) (sym all_is) (sym (digit_first c cs (sym k))),
  omega (arith, ap (λ l. length (rest in_number l)) all_is, digit_rest c cs (sym k)),
)

pub no_number : (n : Bool) (ds cs : List ℕ) → None ≡ numeral n ds → ds ≡ front in_number cs → counted n cs ≡ None
no_number n ds cs e ds_is =
    ap (λ o. number_then o (rest in_number cs)) (ap (numeral n) (sym ds_is) ∙ sym e)

pub number_found : (n : Bool) (old new : List Token) (t : Token) (ds cs : List ℕ) → new ≡ old ++ t ∷ []
    → Some t ≡ numeral n ds → ds ≡ front in_number cs
    → onto new (lex between (rest in_number cs)) ≡ onto old (counted n cs)
number_found n old new t ds cs new_is e ds_is =
    ap (λ ts. onto ts (lex between (rest in_number cs))) new_is ∙ onto-push old t (lex between (rest in_number cs))
    ∙ ap (λ o. onto old (number_then o (rest in_number cs))) (e ∙ ap (numeral n) ds_is)

pub all_found : (ts : List Token) (bs all : List ℕ) → length bs ≡ 0
    → onto ts (lex between (chars bs)) ≡ lex between all → lex between all ≡ Some ts
all_found ts [] all e inv =
    sym inv ∙ ap (λ l. onto ts (lex between l)) chars-nil ∙ ap (λ l. Some l) (append-nil ts)
all_found ts (b ∷ bs) all e inv = absurd (omega (arith, e))

-- ---- strings, part by part

pub text_found : (old new : List Token) (s v cs k all : List ℕ) → new ≡ old ++ a_text s ∷ [] → s ≡ v ++ front in_text cs
    → rest in_text cs ≡ 39 ∷ k → ((r : List ℕ) → k ≢ 39 ∷ r) → lex (quoting v) cs ≡ lex (quoting []) all
    → onto new (lex between k) ≡ onto old (lex (quoting []) all)
text_found old new s v cs k all n_is s_is e h inv =
    ap (λ ts. onto ts (lex between k)) n_is ∙ onto-push old (a_text s) (lex between k)
    ∙ ap (onto old) (sym (text_ends k s h) ∙ ap (λ u. lex (quoted u) k) s_is ∙ sym (closed cs k v e) ∙ inv)

pub text_rest : (cs k all : List ℕ) → rest in_text cs ≡ 39 ∷ k → length cs ≤ length all → length k ≤ length all
text_rest cs k all e l = omega (arith, ap length e, rest-shorter in_text cs, l)

pub quote_found : (new s v cs k m all : List ℕ) → new ≡ s ++ 39 ∷ [] → s ≡ v ++ front in_text cs
    → rest in_text cs ≡ 39 ∷ k → k ≡ 39 ∷ m → lex (quoting v) cs ≡ lex (quoting []) all
    → lex (quoting new) m ≡ lex (quoting []) all
quote_found new s v cs k m all n_is s_is e f inv =
    ap (λ u. lex (quoting u) m) n_is ∙ sym (again m s) ∙ ap (λ r. lex (quoted s) r) (sym f)
    ∙ ap (λ u. lex (quoted u) k) s_is ∙ sym (closed cs k v e) ∙ inv

pub part_shorter : (cs k m : List ℕ) → rest in_text cs ≡ 39 ∷ k → k ≡ 39 ∷ m → length m < length cs
part_shorter cs k m e f = omega (arith, ap length e, ap length f, rest-shorter in_text cs)

pub unread : (old new : List Token) (whole : Option (List Token)) (most : ℕ) (r : Result (Bor (List ℕ)) Stop)
    → r ≡ Err Refused → whole ≡ None → Reads old new whole most r
unread old new whole most r r_is none = subst (Reads old new whole most) (sym r_is) none

-- ---- in bytes

quote_bytes : (bytes cs : List ℕ) → IsUtf8 bytes → chars bytes ≡ 39 ∷ cs → bytes ≡ 39 ∷ encodes cs
unfolding lib.Utf8.encode
quote_bytes bytes cs u h = sym (encodes-chars bytes u) ∙ ap encodes h

pub no_quote : (bytes : List ℕ) → IsUtf8 bytes → ((left : List ℕ) → bytes ≢ 39 ∷ left) → (cs : List ℕ)
    → chars bytes ≢ 39 ∷ cs
no_quote bytes u none cs h = none (encodes cs) (quote_bytes bytes cs u h)

pub past_quote : (bytes left : List ℕ) → bytes ≡ 39 ∷ left → chars bytes ≡ 39 ∷ chars left
past_quote bytes left h =
    ap chars h
    ∙ chars-append (39 ∷ []) left (IsUtf8-from_ascii (39 ∷ []) (one_ascii 39 (lit< tt)))
    ∙ ap (λ x. x ++ chars left) (chars-IsAscii (39 ∷ []) (one_ascii 39 (lit< tt)))

pub run_stops : (p : ℕ → Bool) (bs new text : List ℕ) (c : ℕ) → IsUtf8 bs → bs ≡ encode_utf8 c ++ new → p c ≡ false
    → rest p (chars bs) ≡ rest p (chars text) → chars bs ≡ rest p (chars text)
run_stops p bs new text c u e stop inv =
    let first = chars_past_char bs new c u e in
    first ∙ sym (rest_stops p c (chars new) stop) ∙ ap (rest p) (sym first) ∙ inv

pub run_goes : (p : ℕ → Bool) (bs new text : List ℕ) (c : ℕ) → IsUtf8 bs → bs ≡ encode_utf8 c ++ new → p c ≡ true
    → rest p (chars bs) ≡ rest p (chars text) → rest p (chars new) ≡ rest p (chars text)
run_goes p bs new text c u e goes inv =
    let first = chars_past_char bs new c u e in
    sym (ap (rest p) first ∙ rest_goes p c (chars new) goes) ∙ inv

pub run_ends : (p : ℕ → Bool) (bs text : List ℕ) → length bs ≡ 0 → rest p (chars bs) ≡ rest p (chars text)
    → chars bs ≡ rest p (chars text)
run_ends p [] text e inv = chars-nil ∙ sym (ap (rest p) chars-nil) ∙ inv
run_ends p (b ∷ bs) text e inv = absurd (omega (arith, e))

pub one_shorter : (bs new : List ℕ) (c : ℕ) → IsUtf8 bs → bs ≡ encode_utf8 c ++ new
    → length (chars new) < length (chars bs)
one_shorter bs new c u e = omega (arith, ap length (chars_past_char bs new c u e))

-- a text is these characters, and then what is left
module _ (bs left w : List ℕ) (u : IsUtf8 bs) (v : IsUtf8 left) (e : chars bs ≡ w ++ chars left) where
  cut : List ℕ
  cut = encode_utf8_all w

  seam : bs ≡ cut ++ left
  unfolding cut
  seam =
      sym (encodes-chars bs u) ∙ ap encode_utf8_all e ∙ encodes-append w (chars left)
      ∙ ap (λ l. cut ++ l) (encodes-chars left v)

  lengths : length bs ≡ length cut + length left
  lengths = ap length seam ∙ length-append cut left

  pub left_fits : length left ≤ length bs
  left_fits = omega (arith, lengths)

  width : length cut ≡ length bs - length left
  width = omega (arith, lengths)

  pub cut_ends : IsCharBoundary bs (length bs - length left)
  cut_ends = subst (IsCharBoundary bs) width (IsCharBoundary-at_seam bs cut left seam v)

  pub cut_is : chars (take (length bs - length left) bs) ≡ w
  unfolding cut
  cut_is =
      sym (chars_from_encodes w (take (length bs - length left) bs)
      (IsUtf8-take bs (length bs - length left) u cut_ends)
      (sym (ap (λ k. take k bs) (sym width) ∙ ap (take (length cut)) seam ∙ take-append_seam cut left)))

  pub left_is : drop (length bs - length left) bs ≡ left
  left_is = ap (λ k. drop k bs) (sym width) ∙ ap (drop (length cut)) seam ∙ drop-append_seam cut left
