-- What the step after a paused expression comes to, where the token is none of those that it names, and the end after
-- a last statement.
use Rattle.std.proofs.Common.{◌≡◌, ℕ, List, [], ◌∷◌, Some, refl, ap, ◌∙◌, option_and_then, option_map}
use Rattle.bicep_tree.specs.declared.terminal.Terminal.{Terminal}
use Rattle.bicep_tree.specs.declared.terminal.Terminal.TheVariants as t
use Rattle.bicep_tree.specs.Tree.{Tree, StatementTree}
use Rattle.foundation.specs.declared.stop.Stop.{Stop}
use Rattle.foundation.specs.declared.stop.Stop.TheVariants as stop
use Rattle.bicep_machine.specs.Stack.{Frame, in_file}
use Rattle.bicep_machine.specs.Kept.{Kept, put}
use Rattle.bicep_machine.specs.Closing.{closed, newline_on}
use Rattle.bicep_machine.specs.Machine.{rejoined, paused_step, ended, ended_between}
use Rattle.foundation.specs.Stopping.{Stops}

pub paused-other : (e : Kept Tree) (S : List Frame) (at : ℕ) (x : Terminal) → (x ≡ t.Newline → ⊥)
    → (x ≡ t.Question → ⊥) → (x ≡ t.Colon → ⊥)
    → paused_step 64 e S at x ≡ option_and_then (λ q. rejoined 64 q at x) (newline_on 64 (closed 64 0 e S))
paused-other e S at t.Newline h g k = absurd (h refl)
paused-other e S at t.Question h g k = absurd (g refl)
paused-other e S at t.Colon h g k = absurd (k refl)
paused-other e S at x h g k = refl

ended-between : (s : Kept StatementTree) (S : List Frame)
    → ended 64 s S ≡ option_map (λ ss. put ss s) (ended_between 64 S)
ended-between s [] = refl
ended-between s (in_file ss ∷ []) = refl
ended-between s (in_file ss ∷ F ∷ S) = refl
ended-between s (F ∷ S) = refl

pub ended-put : (s : Kept StatementTree) (S : List Frame) (ss : Kept (List StatementTree))
    → ended_between 64 S ≡ Some ss → ended 64 s S ≡ Some (put ss s)
ended-put s S ss e = ended-between s S ∙ ap (option_map (λ r. put r s)) e

pub ended-stops : (x : Stop) (s : Kept StatementTree) (S : List Frame) → Stops x (ended_between 64 S)
    → Stops x (ended 64 s S)
ended-stops stop.Refused s S e = ended-between s S ∙ ap (option_map (λ r. put r s)) e
ended-stops stop.OutOfMemory s S e = tt

pub ruleset ends = (ended-put, ended-stops)
