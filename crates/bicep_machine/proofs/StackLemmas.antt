-- The stack of the code as the machine's.
use Rattle.std.proofs.Common.{◌≡◌, ℕ, ◌+◌, List, [], ◌∷◌, ◌++◌, map, refl, ap, sym, ◌∙◌, Option, Some, None}
use Rattle.std.proofs.Common.{option_to_list, MatchOption, length}
use Rattle.bicep_machine.specs.declared.frame.Frame as frames
use Rattle.bicep_machine.specs.Stack.{Frame}
use Rattle.bicep_machine.specs.Views.{frame_of, frames_onto, frames_of}
use Rattle.foundation.proofs.Lists.{map-push}

onto-push : (S : List Frame) (fs : List frames.Frame) (f : frames.Frame)
    → frames_onto S (fs ++ f ∷ []) ≡ frame_of f ∷ frames_onto S fs
onto-push S [] f = refl
onto-push S (g ∷ fs) f = onto-push (frame_of g ∷ S) fs f

pub frames_of-push : (fs : List frames.Frame) (f : frames.Frame) → frames_of (fs ++ f ∷ []) ≡ frame_of f ∷ frames_of fs
frames_of-push fs f = onto-push [] fs f

pub popped : (o : Option frames.Frame) (old new : List frames.Frame) (n m : ℕ) → old ≡ new ++ option_to_list o
    → n ≡ length old → MatchOption o ((n ≡ 0) × (m ≡ 0)) (λ _. m + 1 ≡ n)
    → MatchOption o ((frames_of old ≡ []) × (frames_of new ≡ [])) (λ f. frames_of old ≡ frame_of f ∷ frames_of new)
popped None old new n m h n_is zero = (ap frames_of is_empty, ap frames_of (new_is_empty new (sym is_empty ∙ h)))
  where
    empty : (xs : List frames.Frame) → length xs ≡ 0 → xs ≡ []
    empty [] h = refl
    empty (x ∷ xs) h = cc

    new_is_empty : (xs : List frames.Frame) → [] ≡ xs ++ [] → xs ≡ []
    new_is_empty [] e = refl
    new_is_empty (x ∷ xs) e = cc

    is_empty : old ≡ []
    is_empty = empty old (sym n_is ∙ zero.0)
popped (Some f) old new n m h n_is zero = ap frames_of h ∙ frames_of-push new f

pub ruleset stacks = (frames_of-push, map-push)
