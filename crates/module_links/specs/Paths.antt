-- Which file a path names, which is written in another file.
use Rattle.std.specs.Prelude.{ℕ, ◌-◌, Bool, false, not, List, [], ◌∷◌, ◌++◌, length, take, if◌then◌else◌, bytes_eq}
use Rattle.std.specs.Prelude.{codes, Option, Some, None, option_map, option_and_then}
use Rattle.arm_ids.specs.Segments.{segments, joined, is_empty}

-- all but the last
abbrev pub front : List (List ℕ) → List (List ℕ)
front names = take (length names - 1) names

-- the last
abbrev pub last : List (List ℕ) → List ℕ
last [] = []
last (name ∷ []) = name
last (name ∷ next ∷ names) = last (next ∷ names)

-- the folder around a folder, where there is one
abbrev pub parent : List (List ℕ) → Option (List (List ℕ))
parent [] = None
parent (name ∷ names) = Some (front (name ∷ names))

-- the folder in which a file is: all segments of its name but the last
abbrev pub folder_of : List ℕ → List (List ℕ)
folder_of file = front (segments file)

-- the folder that a segment of a path leads to: the same by `.`, the one around it by `..`, one in it by another name
unfoldable pub entered : List (List ℕ) → List ℕ → Option (List (List ℕ))
entered folder step = if bytes_eq (codes ".") step then Some folder else
    (if bytes_eq (codes "..") step then parent folder else
    (if is_empty step then None else Some (folder ++ step ∷ [])))

-- the folder that these segments lead to, one after another
abbrev pub walked : List (List ℕ) → List (List ℕ) → Option (List (List ℕ))
walked folder [] = Some folder
walked folder (step ∷ steps) = option_and_then (λ inner. walked inner steps) (entered folder step)

-- whether a segment may be the name of a file
unfoldable pub is_name : List ℕ → Bool
is_name name = if bytes_eq (codes ".") name then false else
    (if bytes_eq (codes "..") name then false else not (is_empty name))

-- the file of that name in a folder
abbrev pub file_in : List ℕ → List (List ℕ) → List ℕ
file_in name folder = joined (folder ++ name ∷ [])

abbrev pub named_in : List ℕ → Option (List (List ℕ)) → Option (List ℕ)
named_in name folder = if is_name name then option_map (file_in name) folder else None

-- the file that a path names in another file: its name from the folder of all files on, where it is in that folder
unfoldable pub file_at : List ℕ → List ℕ → Option (List ℕ)
file_at file path = named_in (last (segments path)) (walked (folder_of file) (front (segments path)))
