-- A list of one run.
use Rattle.std.proofs.Common.{◌≡◌, [], ◌∷◌, ◌++◌, ap, ◌∙◌}
use Rattle.std.specs.Prelude.{Result, Ok, Err}
use Rattle.std.specs.declared.vec.Vec.{Vec}
use Rattle.std.specs.declared.alloc.Global.{Global}
use Rattle.std.specs.declared.alloc.AllocError.{AllocError}
use Rattle.emitted_parts.specs.Emitted.{Frame}
use Rattle.emitted_parts.specs.Built.{IsAdded}
use Rattle.emitted_expressions.specs.Sight.{frames_of, IsFrame, AreFrames}
use Rattle.emitted_expressions.specs.declared.turns.Turn.{Turn}

pub one_frame : (new : Vec Turn Global) (f : Frame) (t : Result Turn AllocError)
    (r : Result (Vec Turn Global) AllocError) → new.items ≡ [] → IsAdded (Ok new) t r → IsFrame f t
    → AreFrames (f ∷ []) r
one_frame new f (Ok t) (Ok v) n a i =
    ap frames_of a ∙ ap (λ ts. frames_of (ts ++ t ∷ [])) n ∙ ap (λ g. g ∷ []) i
one_frame new f (Err x) (Ok v) n a i = absurd a
one_frame new f t (Err x) n a i = tt
