-- The index of a loop (Microsoft Learn, "Template functions", `copyIndex`).
use Rattle.std.specs.Prelude.{ℕ, ℤ, pos, ◌+ℤ◌, Bool, false, List, [], ◌∷◌, Option, Some, None}
use Rattle.std.specs.Prelude.{option_map, if◌then◌else◌}
use Rattle.arm_value.specs.Json.{Json, int, text}
use Rattle.arm_value.specs.Look.{is_same_folded}
use Rattle.function_numbers.specs.Numbers.{within}
use Rattle.arm_env.specs.declared.env.Looping.{Looping}

abbrev pub is_named : List ℕ → Option (List ℕ) → Bool
is_named name None = false
is_named name (Some known) = is_same_folded name known

-- the index of the nearest loop of a name
abbrev pub index_named : List ℕ → List Looping → Option ℕ
index_named name [] = None
index_named name (l ∷ ls) = if is_named name l.name then Some l.index else index_named name ls

-- the index of the loop of a resource or an output
abbrev pub main_index : List Looping → Option ℕ
main_index [] = None
main_index (l ∷ ls) = if l.main then Some l.index else main_index ls

abbrev pub nearest_index : List Looping → Option ℕ
nearest_index [] = None
nearest_index (l ∷ ls) = Some l.index

abbrev pub or_nearest : List Looping → Option ℕ → Option ℕ
or_nearest ls None = nearest_index ls
or_nearest ls (Some i) = Some i

-- the index of the loop of a resource or an output, else of the nearest loop
abbrev pub own_index : List Looping → Option ℕ
own_index ls = or_nearest ls (main_index ls)

-- the index with an offset added, where the sum has at most 64 bits
abbrev pub shifted : Option ℕ → ℤ → Option Json
shifted None offset = None
shifted (Some i) offset = option_map int (within (pos i +ℤ offset))

-- by one argument: a name, or an offset
abbrev pub index_by : List Looping → Json → Option Json
index_by ls (text name) = shifted (index_named name ls) (pos 0)
index_by ls (int offset) = shifted (own_index ls) offset
index_by ls _ = None

-- by a name and an offset
abbrev pub index_from : List Looping → Json → Json → Option Json
index_from ls (text name) (int offset) = shifted (index_named name ls) offset
index_from ls _ _ = None

abbrev pub copy_index : List Looping → List Json → Option Json
copy_index ls [] = shifted (own_index ls) (pos 0)
copy_index ls (j ∷ []) = index_by ls j
copy_index ls (j ∷ k ∷ []) = index_from ls j k
copy_index ls _ = None
