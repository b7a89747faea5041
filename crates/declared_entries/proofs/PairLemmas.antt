-- Results of which both are there.
use Rattle.std.proofs.Common.{◌≡◌, Ok, Err, subst}
use Rattle.std.specs.Prelude.{Result, IfOk}
use Rattle.std.specs.declared.alloc.AllocError.{AllocError}

pub both_are : {A B : Type 0} (P : A → Type 0) (Q : B → Type 0) (one : Result A AllocError)
    (other : Result B AllocError) (r : Result (A × B) AllocError)
    → IfOk r (λ p. (one ≡ Ok p.0) × (other ≡ Ok p.1)) → IfOk one P → IfOk other Q
    → IfOk r (λ p. P p.0 × Q p.1)
both_are P Q one other (Ok p) h f g = (subst (λ x. IfOk x P) h.0 f, subst (λ x. IfOk x Q) h.1 g)
both_are P Q one other (Err e) h f g = tt
