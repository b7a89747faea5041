-- A graph of dependencies as a set of edges and a set of marks.
use Rattle.std.specs.Prelude.{ℕ, ◌==◌, ◌&&◌, ◌||◌, Bool, true, false, not, List, [], ◌∷◌, filter, slice_index_or}
use Rattle.std.specs.List.{range_with_len}

-- whether a node needs another
abbrev pub is_edge : List (ℕ × ℕ) → ℕ → ℕ → Bool
is_edge [] node need = false
is_edge (e ∷ es) node need = (e.0 == node && e.1 == need) || is_edge es node need

-- whether an edge says that a node needs another, and that is not done
abbrev pub is_blocker : List (ℕ × ℕ) → List Bool → ℕ → ℕ → Bool
is_blocker edges done node need = is_edge edges node need && not (slice_index_or done need false)

-- the needs of a node that are not done, rising
abbrev pub blockers_of : List (ℕ × ℕ) → List Bool → ℕ → ℕ → List ℕ
blockers_of edges done count node = filter (is_blocker edges done node) (range_with_len 0 count)

-- the first of these, else the end
abbrev pub first_or : List ℕ → ℕ → ℕ
first_or [] end = end
first_or (node ∷ rest) end = node

-- whether each of these is undone and needs the next, and the last the end
abbrev pub is_chain : List (ℕ × ℕ) → List Bool → List ℕ → ℕ → Bool
is_chain edges done [] end = true
is_chain edges done (node ∷ rest) end =
    (not (slice_index_or done node false) && is_edge edges node (first_or rest end)) && is_chain edges done rest end
