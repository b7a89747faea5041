-- The text that is written for an expression.
use Rattle.std.specs.Prelude.{◌≡◌, ℕ, ◌+◌, length, ◌<◌, ◌^◌, ℤ, pos, negsuc, List, [], ◌∷◌, ◌++◌, Bool, true, false}
use Rattle.std.specs.Fmt.{signed_decimal}
use Rattle.arm_expr.specs.Tree.{Tree, text, int, call, member, index, Trees, none, more}
use Rattle.arm_expr.specs.Grammar.{doubled, IsName}

-- the expression, before what follows: `, ` between arguments, and no other blank
abbrev mutual
  pub printed_onto : Tree → List ℕ → List ℕ
  printed_onto (text s) k = 39 ∷ (doubled s ++ 39 ∷ k)
  printed_onto (int z) k = signed_decimal z ++ k
  printed_onto (call name es) k = name ++ 40 ∷ arguments_onto es k
  printed_onto (member e name) k = printed_onto e (46 ∷ (name ++ k))
  printed_onto (index e i) k = printed_onto e (91 ∷ printed_onto i (93 ∷ k))

  pub arguments_onto : Trees → List ℕ → List ℕ
  arguments_onto none k = 41 ∷ k
  arguments_onto (more e es) k = printed_onto e (further_onto es k)

  pub further_onto : Trees → List ℕ → List ℕ
  further_onto none k = 41 ∷ k
  further_onto (more e es) k = 44 ∷ 32 ∷ printed_onto e (further_onto es k)

-- the text of an expression, in brackets
abbrev pub printed : Tree → List ℕ
printed e = 91 ∷ printed_onto e (93 ∷ [])

-- The names in the expression are names of the grammar.
abbrev mutual
  pub HasNames : Tree → Type 0
  HasNames (text s) = Unit {0}
  HasNames (int z) = Unit {0}
  HasNames (call name es) = IsName name × HaveNames es
  HasNames (member e name) = HasNames e × IsName name
  HasNames (index e i) = HasNames e × HasNames i

  pub HaveNames : Trees → Type 0
  HaveNames none = Unit {0}
  HaveNames (more e es) = HasNames e × HaveNames es

abbrev pub IsWhole : ℤ → Type 0
IsWhole (pos n) = n < 2 ^ 63
IsWhole (negsuc n) = n < 2 ^ 63

-- The ints in the expression are of signed 64 bits.
abbrev mutual
  pub HasInts : Tree → Type 0
  HasInts (text s) = Unit {0}
  HasInts (int z) = IsWhole z
  HasInts (call name es) = HaveInts es
  HasInts (member e name) = HasInts e
  HasInts (index e i) = HasInts e × HasInts i

  pub HaveInts : Trees → Type 0
  HaveInts none = Unit {0}
  HaveInts (more e es) = HasInts e × HaveInts es

-- the new text is the old text and then the text that f puts before whatever follows
abbrev pub Adds : List ℕ → List ℕ → (List ℕ → List ℕ) → Type 0
Adds before after f = (k : List ℕ) → after ++ k ≡ before ++ f k

-- the arguments that are left to write, where the first of all is (`true`) or is not among them
abbrev pub left_onto : Bool → Trees → List ℕ → List ℕ
left_onto true es k = arguments_onto es k
left_onto false es k = further_onto es k

-- how many characters are written for an expression
abbrev mutual
  pub size : Tree → ℕ
  size (text s) = 2 + length (doubled s)
  size (int z) = length (signed_decimal z)
  size (call name es) = length name + 1 + arguments_size 0 es
  size (member e name) = size e + 1 + length name
  size (index e i) = 2 + size e + size i

  -- for arguments and the `)` after them, with n characters before the first and `, ` before each other
  pub arguments_size : ℕ → Trees → ℕ
  arguments_size n none = 1
  arguments_size n (more e es) = n + size e + arguments_size 2 es
