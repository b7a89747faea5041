-- Quotes and line ends of texts.
use Rattle.std.specs.Prelude.{ℕ, Bool, ◌==◌, ◌||◌, List, length, take, take_while}

-- LF or CR
abbrev pub is_break : ℕ → Bool
is_break b = b == 10 || b == 13

-- the number of quotes at the front, of the first `most` bytes
unfoldable pub quotes : ℕ → List ℕ → ℕ
quotes most bytes = length (take_while (λ b. b == 39) (take most bytes))
