-- Runs of loops, one more at a time.
use Rattle.std.proofs.Common.{◌≡◌, ◌<◌, ◌+◌, ℕ, zero, suc, List, [], ◌∷◌, ◌++◌, length, take, refl, ap, sym}
use Rattle.std.proofs.Common.{◌∙◌, arith, get_or, append_assoc}
use Rattle.std.specs.Prelude.{Result, Ok, Err}
use Rattle.std.specs.declared.vec.Vec.{Vec}
use Rattle.std.specs.declared.alloc.Global.{Global}
use Rattle.std.specs.declared.alloc.AllocError.{AllocError}
use Rattle.emitted_parts.specs.Emitted.{Frame}
use Rattle.emitted_parts.specs.Built.{AreWith}
use Rattle.emitted_expressions.specs.Sight.{frame_of, frames_of, IsFrame}
use Rattle.emitted_expressions.specs.declared.turns.Turn.{Turn}

one : 1 ≡ 0 + 1
one = omega arith

one_after : (i : ℕ) → suc i + 1 ≡ suc (i + 1)
one_after i = omega arith

take_next : (xs : List Turn) (i : ℕ) (x : Turn) → i < length xs → x ≡ get_or xs i x
    → take (i + 1) xs ≡ take i xs ++ x ∷ []
take_next [] i x l e = absurd (omega (arith, l))
take_next (y ∷ xs) zero x l e = ap (λ n. take n (y ∷ xs)) (sym one) ∙ ap (λ z. z ∷ []) (sym e)
take_next (y ∷ xs) (suc i) x l e =
    ap (λ n. take n (y ∷ xs)) (one_after i) ∙ ap (λ ys. y ∷ ys) (take_next xs i x (omega (arith, l)) e)

frames_more : (xs : List Turn) (t : Turn) → frames_of (xs ++ t ∷ []) ≡ frames_of xs ++ frame_of t ∷ []
frames_more [] t = refl
frames_more (x ∷ xs) t = ap (λ fs. frame_of x ∷ fs) (frames_more xs t)

-- a copy of the next run after the copies of those before it
pub next_frames : (all : Vec Turn Global) (x : Result Turn AllocError) (ys : List Turn) (start : List Frame)
    (ts : List Turn) (i : ℕ) (t : Turn) → i < length ts → t ≡ get_or ts i t → AreWith (Ok all) x ys
    → IsFrame (frame_of t) x → frames_of all.items ≡ start ++ frames_of (take i ts)
    → frames_of ys ≡ start ++ frames_of (take (i + 1) ts)
next_frames all (Ok u) ys start ts i t l e w f h =
    ap frames_of w ∙ frames_more all.items u ∙ ap (λ g. frames_of all.items ++ g ∷ []) f
    ∙ ap (λ fs. fs ++ frame_of t ∷ []) h ∙ append_assoc start (frames_of (take i ts)) (frame_of t ∷ [])
    ∙ ap (λ fs. start ++ fs) (sym (frames_more (take i ts) t) ∙ ap frames_of (sym (take_next ts i t l e)))
next_frames all (Err x) ys start ts i t l e w f h = absurd w

-- the first run, and then others
pub first_frame : (new : Vec Turn Global) (f : Frame) (t : Result Turn AllocError) (all : Vec Turn Global)
    → new.items ≡ [] → AreWith (Ok new) t all.items → IsFrame f t → frames_of all.items ≡ f ∷ []
first_frame new f (Ok t) all n a i = ap frames_of a ∙ ap (λ ts. frames_of (ts ++ t ∷ [])) n ∙ ap (λ g. g ∷ []) i
first_frame new f (Err x) all n a i = absurd a
