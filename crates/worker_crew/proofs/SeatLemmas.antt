-- New seats.
use Rattle.std.proofs.Common.{arith, ◌≡◌, ◌≢◌, ◌<◌, ◌+◌, ⊎_elim, eqb, true, false, ℕ, zero, suc, List, [], ◌∷◌, ◌++◌}
use Rattle.std.proofs.Common.{refl, ap, ◌∙◌, subst, length, get_or, None}
use Rattle.std.proofs.lemmas.Bool.Decides.{eqb_tells}
use Rattle.seat_calls.specs.declared.seat.Seat.{Seat}
use Rattle.worker_crew.specs.Driven.{HasNoJobs}
use Rattle.foundation.proofs.Lists.{get_new, get_old, length_more}

pub no_jobs_none : {P : Type 0} → HasNoJobs {P = P} []
no_jobs_none k s low = absurd (omega arith)

pub no_jobs_more : {P : Type 0} (l : List (Seat P)) (x : Seat P) → HasNoJobs l → x.job ≡ None → HasNoJobs (l ++ x ∷ [])
no_jobs_more {P} l x was none k s low = ⊎_elim
    (λ (e : (eqb k (length l) ≡ true) × (k ≡ length l)).
    ap (λ (y : Seat P). y.job) (ap (λ n. get_or (l ++ x ∷ []) n s) e.1 ∙ get_new l x s) ∙ none)
    (λ (e : (eqb k (length l) ≡ false) × (k ≢ length l)).
    let below : k < length l = apart k (length l) (subst (λ n. k < n) (length_more l x) low) e.1 in
    ap (λ (y : Seat P). y.job) (get_old l x k s below) ∙ was k s below)
    (eqb_tells k (length l))
  where
    apart : (k n : ℕ) → k < n + 1 → k ≢ n → k < n
    apart zero zero h x = absurd (x refl)
    apart zero (suc n) h x = omega arith
    apart (suc k) zero h x = absurd (omega arith)
    apart (suc k) (suc n) h x = let r = apart k n (omega arith) (λ e. x (ap suc e)) in omega arith

pub ruleset fresh = (no_jobs_none, no_jobs_more)
