-- What is open on top.
use Rattle.std.proofs.Common.{◌≡◌, ℕ, zero, suc, ◌-◌, List, [], ◌∷◌, length, Some, ap, arith}
use Rattle.std.specs.List.{slice_get}
use Rattle.bicep_machine.specs.declared.frame.Frame as frames
use Rattle.bicep_machine.specs.Stack.{Frame}
use Rattle.bicep_machine.specs.Views.{frame_of, frames_onto, frames_of}
use Rattle.bicep_parser.specs.Depth.{frame_depth, top_depth}

last_at : (fs : List frames.Frame) (S : List Frame) (n : ℕ) (f : frames.Frame) → length fs ≡ suc n
    → slice_get fs n ≡ Some f → top_depth (frames_onto S fs) ≡ frame_depth (frame_of f)
last_at [] S n f l e = absurd cc
last_at (g ∷ []) S zero f l e = let same : g ≡ f = cc in ap (λ x. frame_depth (frame_of x)) same
last_at (g ∷ []) S (suc n) f l e = absurd cc
last_at (g ∷ (h ∷ fs)) S zero f l e = absurd (omega arith)
last_at (g ∷ (h ∷ fs)) S (suc n) f l e = last_at (h ∷ fs) (frame_of g ∷ S) n f (omega arith) e

-- the last frame of the code is on top
pub last_on_top : (fs : List frames.Frame) (f : frames.Frame) → slice_get fs (length fs - 1) ≡ Some f
    → top_depth (frames_of fs) ≡ frame_depth (frame_of f)
last_on_top [] f e = absurd cc
last_on_top (g ∷ fs) f e = last_at (g ∷ fs) [] (length (g ∷ fs) - 1) f (omega arith) e
