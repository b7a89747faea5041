-- How a text spells an expression. Texts are lists of characters.
use Rattle.std.specs.Prelude.{◌≡◌, ℕ, zero, suc, ◌+◌, ◌-◌, ◌*◌, ◌^◌, ℤ, pos, negsuc, Bool, true, false, nat_lt}
use Rattle.std.specs.Prelude.{nat_le, ◌==◌, ◌||◌, List, [], ◌∷◌, ◌++◌, if◌then◌else◌}
use Rattle.std.specs.Char.{is_ascii_alphabetic, is_ascii_digit}
use Rattle.arm_expr.specs.Tree.{Tree, text, int, call, member, index, Trees, none, more}

-- what a character can be outside quotes: a letter is an ASCII letter or `_`, a blank is a space, a tab, a carriage
-- return or a line feed
pub data Kind : Type 0 where
  letter : Kind
  digit : Kind
  blank : Kind
  sign : Kind

abbrev pub kind_of : ℕ → Kind
kind_of c =
    if is_ascii_alphabetic c || c == 95 then letter
    else if is_ascii_digit c then digit
    else if c == 32 || c == 9 || c == 13 || c == 10 then blank
    else sign

-- a name goes on with letters and digits
abbrev pub goes_on_name : Kind → Bool
goes_on_name letter = true
goes_on_name digit = true
goes_on_name _ = false

abbrev pub is_digit : Kind → Bool
is_digit digit = true
is_digit _ = false

abbrev pub AreBlank : List ℕ → Type 0
AreBlank [] = Unit {0}
AreBlank (c ∷ cs) = (kind_of c ≡ blank) × AreBlank cs

abbrev pub GoOnName : List ℕ → Type 0
GoOnName [] = Unit {0}
GoOnName (c ∷ cs) = (goes_on_name (kind_of c) ≡ true) × GoOnName cs

-- a letter, and then letters and digits
abbrev pub IsName : List ℕ → Type 0
IsName [] = ⊥
IsName (c ∷ cs) = (kind_of c ≡ letter) × GoOnName cs

abbrev pub AreDigits : List ℕ → Type 0
AreDigits [] = Unit {0}
AreDigits (c ∷ cs) = (is_digit (kind_of c) ≡ true) × AreDigits cs

-- the number that digits write, after digits that wrote n
abbrev pub value_from : ℕ → List ℕ → ℕ
value_from n [] = n
value_from n (d ∷ ds) = value_from (10 * n + (d - 48)) ds

-- the number, or its negative, is one of signed 64 bits
abbrev pub fits : Bool → ℕ → Bool
fits false n = nat_lt n (2 ^ 63)
fits true n = nat_le n (2 ^ 63)

-- the number, or where `true` its negative
abbrev pub signed : Bool → ℕ → ℤ
signed false n = pos n
signed true zero = pos 0
signed true (suc n) = negsuc n

-- digits, where `true` after a `-` (45)
abbrev pub with_sign : Bool → List ℕ → List ℕ
with_sign false ds = ds
with_sign true ds = 45 ∷ ds

-- The word writes the number: digits, perhaps after a `-`, within signed 64 bits.
pub record IsNumeral (word : List ℕ) (z : ℤ) : Type 0 where
  pub negative : Bool
  pub first : ℕ
  pub digits : List ℕ
  pub are_digits : AreDigits (first ∷ digits)
  pub within : fits negative (value_from 0 (first ∷ digits)) ≡ true
  pub word_is : word ≡ with_sign negative (first ∷ digits)
  pub value_is : z ≡ signed negative (value_from 0 (first ∷ digits))

-- the characters of a string, each quote in it (39) twice
abbrev pub doubled : List ℕ → List ℕ
doubled [] = []
doubled (c ∷ cs) = if c == 39 then 39 ∷ 39 ∷ doubled cs else c ∷ doubled cs

-- A form of text: `f t k` says that the text t begins with something of that form, and that k is the rest.
abbrev pub Form : Type 1
Form = List ℕ → List ℕ → Type 0

infixr 4 ◌▹◌
-- one form, and then another
abbrev pub ◌▹◌ : Form → Form → Form
◌▹◌ f g t k = (m : List ℕ) × f t m × g m k

-- any blanks, or none
abbrev pub blanks : Form
blanks t k = (bs : List ℕ) × AreBlank bs × (t ≡ bs ++ k)

-- one character, by its code: 40 and 41 are `(` and `)`, 44 is `,`, 46 is `.`, 91 and 93 are `[` and `]`
abbrev pub mark : ℕ → Form
mark c t k = t ≡ c ∷ k

-- the name
abbrev pub named : List ℕ → Form
named name t k = IsName name × (t ≡ name ++ k)

-- the string between quotes
abbrev pub quoted : List ℕ → Form
quoted s t k = t ≡ 39 ∷ (doubled s ++ 39 ∷ k)

-- a numeral of the number
abbrev pub numeral : ℤ → Form
numeral z t k = (word : List ℕ) × IsNumeral word z × (t ≡ word ++ k)

-- the expression: a string, an int, `name(argument, ..)`, `expression.name` or `expression[index]`
abbrev mutual
  pub expression : Tree → Form
  expression (text s) = quoted s
  expression (int z) = numeral z
  expression (call name es) = named name ▹ blanks ▹ mark 40 ▹ arguments es ▹ mark 41
  expression (member e name) = expression e ▹ blanks ▹ mark 46 ▹ blanks ▹ named name
  expression (index e i) = expression e ▹ blanks ▹ mark 91 ▹ blanks ▹ expression i ▹ blanks ▹ mark 93

  pub arguments : Trees → Form
  arguments none = blanks
  arguments (more e es) = blanks ▹ expression e ▹ further es

  -- the arguments after the first
  pub further : Trees → Form
  further none = blanks
  further (more e es) = blanks ▹ mark 44 ▹ blanks ▹ expression e ▹ further es

-- The text spells the expression: the text is a `[`, the expression and a `]`, with blanks inside the brackets.
abbrev pub Spells : Tree → List ℕ → Type 0
Spells e t = (mark 91 ▹ blanks ▹ expression e ▹ blanks ▹ mark 93) t []
