-- One move more.
use Rattle.std.proofs.Common.{◌≡◌, ℕ, List, [], ◌∷◌, ◌++◌, refl}
use Rattle.mem_disk.specs.Moves.{Move, read_after, reads_after, image_after, images_after}

-- one move more
pub reads-push : (moves : List Move) (move : Move) (first : List ℕ)
    → reads_after (moves ++ move ∷ []) first ≡ read_after move (reads_after moves first)
reads-push [] move first = refl
reads-push (m ∷ moves) move first = reads-push moves move (read_after m first)

pub images-push : (moves : List Move) (move : Move) (now : List ℕ) (set : List ℕ → Type 0) (image : List ℕ)
    → images_after (moves ++ move ∷ []) now set image
    → image_after move (read_after move (reads_after moves now)) (images_after moves now set) image
images-push [] move now set image h = h
images-push (m ∷ moves) move now set image h =
    images-push moves move (read_after m now) (image_after m (read_after m now) set) image h

pub push-images : (moves : List Move) (move : Move) (now : List ℕ) (set : List ℕ → Type 0) (image : List ℕ)
    → image_after move (read_after move (reads_after moves now)) (images_after moves now set) image
    → images_after (moves ++ move ∷ []) now set image
push-images [] move now set image h = h
push-images (m ∷ moves) move now set image h =
    push-images moves move (read_after m now) (image_after m (read_after m now) set) image h
