-- What the lexer finds at the front of a text, and what it leaves.
use denote.Ref.{Bor}
use Rattle.std.specs.Prelude.{◌≡◌, ◌≤◌, ◌==◌, ℕ, Bool, true, false, List, [], ◌∷◌, ◌++◌, length, chars, Option, None}
use Rattle.std.specs.Prelude.{option_map, option_and_then, if◌then◌else◌, Result, Ok, Err}
use Rattle.arm_expr.specs.declared.lexer.Kind as kinds
use Rattle.arm_expr.specs.declared.lexer.Kind.TheVariants as kind
use Rattle.arm_expr.specs.declared.lexer.Run as runs
use Rattle.arm_expr.specs.declared.lexer.Run.TheVariants as run
use Rattle.arm_expr.specs.Tokens.{Token}
use Rattle.arm_expr.specs.Grammar.{Kind, letter, digit, blank, sign, kind_of, goes_on_name, is_digit}
use Rattle.arm_expr.specs.Lexer.{between, Turn, lex, number}
use Rattle.foundation.specs.declared.stop.Stop.{Stop}
use Rattle.foundation.specs.Stopping.{Stops}

abbrev pub kind_view : kinds.Kind → Kind
kind_view kind.Letter = letter
kind_view kind.Digit = digit
kind_view kind.Blank = blank
kind_view kind.Sign = sign

-- whether a character continues a run
abbrev pub continues : runs.Run → ℕ → Bool
continues run.Name c = goes_on_name (kind_of c)
continues run.Digits c = is_digit (kind_of c)
continues run.Quoted c = if c == 39 then false else true

-- the characters at the front of a text that pass a test
abbrev pub front : (ℕ → Bool) → List ℕ → List ℕ
front p [] = []
front p (c ∷ cs) = if p c then c ∷ front p cs else []

-- what follows them
abbrev pub rest : (ℕ → Bool) → List ℕ → List ℕ
rest p [] = []
rest p (c ∷ cs) = if p c then rest p cs else c ∷ cs

-- the tokens of a text, from those that end at its first character and what is pending after it
abbrev pub begun : Turn → List ℕ → Option (List Token)
begun o cs = option_and_then (λ q. option_map (λ ts. q.0 ++ ts) (lex q.1 cs)) o

-- the token of a number, which has a digit
abbrev pub numeral : Bool → List ℕ → Option Token
numeral negative [] = None
numeral negative (d ∷ ds) = number negative (d ∷ ds)

-- the tokens of a text that begins with digits, after a `-` or not
abbrev pub counted : Bool → List ℕ → Option (List Token)
counted negative cs =
    option_and_then (λ t. option_map (λ ts. t ∷ ts) (lex between (rest (continues run.Digits) cs)))
    (numeral negative (front (continues run.Digits) cs))

-- the tokens so far, and others after them
abbrev pub onto : List Token → Option (List Token) → Option (List Token)
onto ts o = option_map (λ us. ts ++ us) o

-- of the tokens of a text some are found and the others are those of what is left, which has at most so many
-- characters; or the text has no tokens
abbrev pub Reads : List Token → List Token → Option (List Token) → ℕ → Result (Bor (List ℕ)) Stop → Type 0
Reads old new whole most (Ok left) = (onto new (lex between (chars left.now)) ≡ onto old whole)
    × (length (chars left.now) ≤ most)
Reads old new whole most (Err e) = Stops e whole
