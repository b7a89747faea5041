-- JSON pointers (RFC 6901, sections 3 and 4), as characters.
use Rattle.std.specs.Prelude.{ℕ, List, [], ◌∷◌, ◌++◌, ◌==◌, if◌then◌else◌}

-- a character of a member's name, as a pointer spells it: `~` as `~0`, `/` as `~1`
abbrev pub token_character : ℕ → List ℕ
token_character c = if c == 126 then 126 ∷ 48 ∷ [] else (if c == 47 then 126 ∷ 49 ∷ [] else c ∷ [])

-- a member's name, as a pointer spells it
abbrev pub token : List ℕ → List ℕ
token [] = []
token (c ∷ cs) = token_character c ++ token cs

-- one step of a pointer: `/` and what follows it
abbrev pub step : List ℕ → List ℕ
step spelled = 47 ∷ spelled
