-- What one file may hold after a crash: the moves since the disk was made, one after the other.
use Rattle.std.specs.Prelude.{◌≡◌, ◌⊎◌, ℕ, List, [], ◌∷◌, ◌++◌, length, take}
use Rattle.arm_edges.specs.Disk.{Parts, resized, overwritten, Torn, Cut}
use Rattle.arm_edges.specs.declared.disk.Part.{Part}
use Rattle.arm_edges.specs.declared.disk.Part.TheVariants.{A, B}

-- a write of bytes at a place and one that failed, a cut to a length and one that failed, a sync
pub data Move : Type 0 where
  wrote : ℕ → List ℕ → Move
  tore : ℕ → List ℕ → Move
  shortened : ℕ → Move
  tore_off : ℕ → Move
  synced : Move

-- a move of a part of the disk
abbrev pub Step : Type 0
Step = Part × Move

-- the move, before the moves that follow, where the first part is the second
abbrev pub if_same : Part → Part → Move → List Move → List Move
if_same A A move moves = move ∷ moves
if_same A B move moves = moves
if_same B A move moves = moves
if_same B B move moves = move ∷ moves

-- the moves of a part
abbrev pub moves_on : Part → List Step → List Move
moves_on part [] = []
moves_on part (step ∷ steps) = if_same part step.0 step.1 (moves_on part steps)

-- what a read returns after a move; a call that failed changes no read
abbrev pub read_after : Move → List ℕ → List ℕ
read_after (wrote at bytes) file = overwritten at bytes file
read_after (tore at bytes) file = file
read_after (shortened n) file = resized n file
read_after (tore_off n) file = file
read_after synced file = file

-- what a read returns after these moves
abbrev pub reads_after : List Move → List ℕ → List ℕ
reads_after [] file = file
reads_after (move ∷ moves) file = reads_after moves (read_after move file)

-- what a read of both parts gives after these steps
abbrev pub parts_after : List Step → Parts → Parts
parts_after steps first =
    record { a = reads_after (moves_on A steps) first.a; b = reads_after (moves_on B steps) first.b }

-- what a crash may leave of a file after a move, where it might have left this before it and a read returned now
abbrev pub Leaves : Move → List ℕ → List ℕ → List ℕ → Type 0
Leaves (wrote at bytes) now before after = Torn at (length bytes) before after
Leaves (tore at bytes) now before after = Torn at (length bytes) before after
Leaves (shortened n) now before after = Cut n before after
Leaves (tore_off n) now before after = Cut n before after
Leaves synced now before after = after ≡ now

-- a part of the disk at a move of some part: where it is the move's part, what a read returns takes the move and what a
-- crash leaves may take it, else both stay
abbrev pub Walks : Part → Part → Move → List ℕ → List ℕ → List ℕ → List ℕ → Type 0
Walks A A move now new_now left new_left = (new_now ≡ read_after move now) × Leaves move now left new_left
Walks A B move now new_now left new_left = (new_now ≡ now) × (new_left ≡ left)
Walks B A move now new_now left new_left = (new_now ≡ now) × (new_left ≡ left)
Walks B B move now new_now left new_left = (new_now ≡ read_after move now) × Leaves move now left new_left

-- what a crash may leave after a move: now is what a read returns then, and set is what a crash might have left before
abbrev pub image_after : Move → List ℕ → (List ℕ → Type 0) → List ℕ → Type 0
image_after (wrote at bytes) now set image = (before : List ℕ) × set before × Torn at (length bytes) before image
image_after (tore at bytes) now set image = (before : List ℕ) × set before × Torn at (length bytes) before image
image_after (shortened n) now set image = (before : List ℕ) × set before × Cut n before image
image_after (tore_off n) now set image = (before : List ℕ) × set before × Cut n before image
image_after synced now set image = set image × (image ≡ now)

-- what a crash may leave after these moves, where a read returned now and a crash might have left set before them
abbrev pub images_after : List Move → List ℕ → (List ℕ → Type 0) → List ℕ → Type 0
images_after [] now set image = set image
images_after (move ∷ moves) now set image =
    images_after moves (read_after move now) (image_after move (read_after move now) set) image

-- what a crash may leave of a file that began so
abbrev pub left_after : List ℕ → List Move → List ℕ → Type 0
left_after first moves image = images_after moves first (λ (file : List ℕ). file ≡ first) image

-- what a crash at the moment after so many of the steps may leave of a disk that began so
abbrev pub left_at : Parts → List Step → ℕ → Parts → Type 0
left_at first steps moment image = left_after first.a (moves_on A (take moment steps)) image.a
    × left_after first.b (moves_on B (take moment steps)) image.b

-- one step more, or none
abbrev pub IsOneMore : List Step → Step → List Step → Type 0
IsOneMore steps step more = (more ≡ steps ++ step ∷ []) ⊎ (more ≡ steps)
