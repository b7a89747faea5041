-- How much of the limits an expression takes: the characters of its text without brackets, and how deep it nests.
use Rattle.std.specs.Prelude.{◌≡◌, ◌+◌, ◌-◌, ◌^◌, ℕ, List, length, min, max}
use Rattle.arm_expr.specs.Grammar.{doubled}
use Rattle.arm_expr.specs.Print.{size, arguments_size}
use Rattle.arm_expr.specs.Tree.{Tree, Trees, nesting, deepest}
use Rattle.emitted_sizes.specs.declared.extent.Extent.{Extent}
use Rattle.emitted_sizes.specs.declared.extent.Row.{Row}

-- at most 2 ^ 64 - 1
abbrev pub bounded : ℕ → ℕ
bounded n = min n (2 ^ 64 - 1)

-- the extent of an expression
abbrev pub IsOf : Tree → Extent → Type 0
IsOf t x = (x.length ≡ bounded (size t)) × (x.depth ≡ bounded (nesting t))

-- the extent of arguments, with the `)` after them
abbrev pub AreOf : Trees → Extent → Type 0
AreOf ts x = (x.length ≡ bounded (arguments_size 0 ts)) × (x.depth ≡ bounded (deepest ts))

-- the extent of the arguments so far, and those that are still to come, make that of all of them
abbrev pub Begins : Row → Trees → Trees → Type 0
Begins r rest all = (bounded (r.length + arguments_size r.before rest) ≡ bounded (arguments_size 0 all))
    × (bounded (max r.depth (deepest rest)) ≡ bounded (deepest all))

-- the extent of a text between quotes
abbrev pub quoted : List ℕ → ℕ
quoted t = 2 + length (doubled t)
