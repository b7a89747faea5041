-- Between characters and expressions: the words of tokens, and the tokens of an expression.
use Rattle.std.proofs.Common.{◌≡◌, ℕ, List, [], ◌∷◌, ◌++◌}
use Rattle.arm_expr.specs.Tree.{Tree, text, int, call, member, index, Trees, none, more}
use Rattle.arm_expr.specs.Tokens.{Token, a_text, an_int, a_name, open_paren, close_paren, open_bracket, close_bracket}
use Rattle.arm_expr.specs.Tokens.{comma, dot}
use Rattle.arm_expr.specs.Grammar.{doubled, IsName, IsNumeral, AreBlank}

-- the tokens of an expression, before those that follow it
abbrev mutual
  pub spelled : Tree → List Token → List Token
  spelled (text s) k = a_text s ∷ k
  spelled (int z) k = an_int z ∷ k
  spelled (call name es) k = a_name name ∷ open_paren ∷ arguments_spelled es k
  spelled (member e name) k = spelled e (dot ∷ a_name name ∷ k)
  spelled (index e i) k = spelled e (open_bracket ∷ spelled i (close_bracket ∷ k))

  pub arguments_spelled : Trees → List Token → List Token
  arguments_spelled none k = close_paren ∷ k
  arguments_spelled (more e es) k = spelled e (further_spelled es k)

  pub further_spelled : Trees → List Token → List Token
  further_spelled none k = close_paren ∷ k
  further_spelled (more e es) k = comma ∷ spelled e (further_spelled es k)

-- the characters of a token
abbrev pub IsWord : Token → List ℕ → Type 0
IsWord (a_name n) word = IsName n × (word ≡ n)
IsWord (an_int z) word = IsNumeral word z
IsWord (a_text s) word = word ≡ 39 ∷ (doubled s ++ 39 ∷ [])
IsWord open_paren word = word ≡ 40 ∷ []
IsWord close_paren word = word ≡ 41 ∷ []
IsWord open_bracket word = word ≡ 91 ∷ []
IsWord close_bracket word = word ≡ 93 ∷ []
IsWord comma word = word ≡ 44 ∷ []
IsWord dot word = word ≡ 46 ∷ []

-- one token, after blanks and before the rest
pub record First (t : Token) (rest chars : List ℕ) : Type 0 where
  pub blanks : List ℕ
  pub word : List ℕ
  pub are_blank : AreBlank blanks
  pub is_word : IsWord t word
  pub chars_are : chars ≡ blanks ++ (word ++ rest)

-- the text is these tokens, with any blanks before, between and after them
abbrev pub Writes : List Token → List ℕ → Type 0
Writes [] chars = AreBlank chars
Writes (t ∷ ts) chars = (rest : List ℕ) × First t rest chars × Writes ts rest
