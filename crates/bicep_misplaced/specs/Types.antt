-- Type texts: `type@version`, where the first `@` divides.
use Rattle.std.specs.Prelude.{ℕ, ◌==◌, ◌||◌, Bool, true, false, List, [], ◌∷◌, Option, Some, None, option_map}
use Rattle.std.specs.Prelude.{if◌then◌else◌}
use Rattle.arm_expr.specs.Brackets.{is_bracketed}

-- what is before the first character of that number and what is after it
abbrev pub divided : ℕ → List ℕ → Option (List ℕ × List ℕ)
divided m [] = None
divided m (c ∷ cs) = if c == m then Some ([], cs) else option_map (λ q. (c ∷ q.0, q.1)) (divided m cs)

-- a text and the type and the version in it
abbrev pub are_bracketed : List ℕ → Option (List ℕ × List ℕ) → Bool
are_bracketed path None = is_bracketed path
are_bracketed path (Some q) = is_bracketed q.0 || is_bracketed q.1

-- a type text of which the type or the version is in brackets; 64 is `@`
abbrev pub is_bad_path : List ℕ → Bool
is_bad_path path = are_bracketed path (divided 64 path)

abbrev pub is_undivided : Option (List ℕ × List ℕ) → Bool
is_undivided None = true
is_undivided (Some q) = false

-- a type of one segment: it has no `/` (47)
abbrev pub has_one_segment : List ℕ → Option (List ℕ × List ℕ) → Bool
has_one_segment path None = is_undivided (divided 47 path)
has_one_segment path (Some q) = is_undivided (divided 47 q.0)

abbrev pub is_one_segment : List ℕ → Bool
is_one_segment path = has_one_segment path (divided 64 path)
