-- The tokens of a text, one character after another.
use Rattle.std.specs.Prelude.{ℕ, Bool, true, false, ◌==◌, List, [], ◌∷◌, ◌++◌, Option, Some, None, option_map}
use Rattle.std.specs.Prelude.{option_and_then, if◌then◌else◌}
use Rattle.arm_expr.specs.Tokens.{Token, a_text, an_int, a_name, open_paren, close_paren, open_bracket, close_bracket}
use Rattle.arm_expr.specs.Tokens.{comma, dot}
use Rattle.arm_expr.specs.Grammar.{Kind, letter, digit, blank, sign, kind_of, goes_on_name, is_digit, value_from}
use Rattle.arm_expr.specs.Grammar.{fits, signed}

-- the front of a token
pub data Pending : Type 0 where
  between : Pending
  naming : List ℕ → Pending
  -- a `-`, which a digit is to follow
  signing : Pending
  counting : Bool → List ℕ → Pending
  quoting : List ℕ → Pending
  -- a quote, which ends the string or is the first of two
  quoted : List ℕ → Pending

-- the tokens that end at a character, and what is pending after it
abbrev pub Turn : Type 0
Turn = Option (List Token × Pending)

-- a token of one character
abbrev pub mark_of : ℕ → Option Token
mark_of c =
    if c == 40 then Some open_paren
    else if c == 41 then Some close_paren
    else if c == 91 then Some open_bracket
    else if c == 93 then Some close_bracket
    else if c == 44 then Some comma
    else if c == 46 then Some dot
    else None

abbrev pub marked : Option Token → Turn
marked None = None
marked (Some t) = Some (t ∷ [], between)

abbrev pub start_sign : ℕ → Turn
start_sign c =
    if c == 45 then Some ([], signing)
    else if c == 39 then Some ([], quoting [])
    else marked (mark_of c)

abbrev pub start_by : Kind → ℕ → Turn
start_by blank c = Some ([], between)
start_by letter c = Some ([], naming (c ∷ []))
start_by digit c = Some ([], counting false (c ∷ []))
start_by sign c = start_sign c

abbrev pub start : ℕ → Turn
start c = start_by (kind_of c) c

-- a token ends, and what follows begins
abbrev pub after_token : Token → Turn → Turn
after_token t = option_map (λ p. (t ∷ p.0, p.1))

-- the token of a number, where it is of signed 64 bits
abbrev pub number : Bool → List ℕ → Option Token
number negative ds = let n = value_from 0 ds in if fits negative n then Some (an_int (signed negative n)) else None

abbrev pub turn : Pending → ℕ → Turn
turn between c = start c
turn (naming w) c = if goes_on_name (kind_of c) then Some ([], naming (w ++ c ∷ []))
    else after_token (a_name w) (start c)
turn signing c = if is_digit (kind_of c) then Some ([], counting true (c ∷ [])) else None
turn (counting negative ds) c =
    if is_digit (kind_of c) then Some ([], counting negative (ds ++ c ∷ []))
    else option_and_then (λ t. after_token t (start c)) (number negative ds)
turn (quoting s) c = if c == 39 then Some ([], quoted s) else Some ([], quoting (s ++ c ∷ []))
turn (quoted s) c = if c == 39 then Some ([], quoting (s ++ 39 ∷ [])) else after_token (a_text s) (start c)

-- the last token, at the end of the text
abbrev pub ended : Pending → Option (List Token)
ended between = Some []
ended (naming w) = Some (a_name w ∷ [])
ended signing = None
ended (counting negative ds) = option_map (λ t. t ∷ []) (number negative ds)
ended (quoting s) = None
ended (quoted s) = Some (a_text s ∷ [])

abbrev pub lex : Pending → List ℕ → Option (List Token)
lex p [] = ended p
lex p (c ∷ cs) = option_and_then (λ q. option_map (λ ts. q.0 ++ ts) (lex q.1 cs)) (turn p c)
