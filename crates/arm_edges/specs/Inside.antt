-- Names that stay inside a folder.
use Rattle.std.specs.Prelude.{◌==◌, ℕ, ◌-◌, Bool, true, false, if◌then◌else◌, bytes_eq, List, [], ◌∷◌}
use Rattle.std.specs.Path.{root_dir, cur_dir, parent_dir}
use Rattle.arm_edges.specs.Calls.{one_more}

-- whether a walk along these parts of a path, begun so many folders below some folder, never leaves that folder
abbrev pub stays_inside : ℕ → List (List ℕ) → Bool
stays_inside depth [] = true
stays_inside depth (part ∷ parts) =
    if bytes_eq part root_dir then false else
    (if bytes_eq part cur_dir then stays_inside depth parts else
    (if bytes_eq part parent_dir then (if depth == 0 then false else stays_inside (depth - 1) parts)
    else stays_inside (one_more depth) parts))
