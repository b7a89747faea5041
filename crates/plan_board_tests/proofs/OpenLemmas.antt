-- What stays open where a dealer is asked, and where a job has its answer.
use Rattle.std.proofs.Common.{◌≡◌, ◌≢◌, ⊎_elim, eqb, true, false, ℕ, List, [], ◌∷◌, ◌++◌, Option, None, Some}
use Rattle.std.proofs.Common.{Result, Ok, refl, sym, ap, subst, ◌∙◌, eq-eqb}
use Rattle.std.specs.declared.alloc.AllocError.{AllocError}
use Rattle.std.proofs.lemmas.Bool.Decides.{eqb_tells}
use Rattle.foundation.proofs.Choices.{cond_true, cond_false}
use Rattle.provider_trait.specs.Work.{Work}
use Rattle.provider_trait.specs.declared.answer.Answer.{Answer}
use Rattle.dealer_trait.specs.declared.dealer_step.DealerStep.{DealerStep}
use Rattle.dealer_trait.specs.declared.next.Next.{Next}
use Rattle.dealer_trait.specs.declared.next.Next.TheVariants.{Begun}
use Rattle.dealer_trait.specs.Steps.{begun, begun_from, begun_after, begin, answered, given_back, AsksFor}
use Rattle.plan_board_tests.specs.Open.{StayOpen, OthersStay}

begun_append : (t : ℕ) (o : Option Work) (l m : List DealerStep)
    → begun_from t o (l ++ m) ≡ begun_from t (begun_from t o l) m
unfolding begun_from
begun_append t o [] m = refl
begun_append t o (s ∷ l) m = begun_append t (begun_after t o s) l m

begun_one : (t : ℕ) (o : Option Work) (s : DealerStep) → begun_from t o (s ∷ []) ≡ begun_after t o s
unfolding begun_from
begun_one t o s = refl

begun_more : (t : ℕ) (l : List DealerStep) (s : DealerStep) → begun t (l ++ s ∷ []) ≡ begun_after t (begun t l) s
begun_more t l s = begun_append t None l (s ∷ []) ∙ begun_one t (begun t l) s

-- what is known of a dealer that has begun a job
pub asked_job : (worker : ℕ) (old new : List DealerStep) (r : Result Next AllocError) (n : Next) (job : Work) → r ≡ Ok n
    → n ≡ Begun job → AsksFor worker old new r
    → (job.worker ≡ worker) × (begun job.task old ≡ None) × (new ≡ old ++ begin job ∷ [])
asked_job worker old new r n job e b a = subst (λ x. AsksFor worker old new x) (e ∙ ap (λ x. Ok x) b) a

no_some : (o : Option Work) (a : Work) → o ≡ None → o ≡ Some a → ⊥
no_some o a p q = cc

-- an answer to the job of a task leaves the others as they are
pub answered_others : (old new : List DealerStep) (u n : ℕ) (a : Answer) → n ≡ u → new ≡ old ++ answered n a ∷ []
    → OthersStay u old new
answered_others old new u n a s is t e =
    ap (λ (l : List DealerStep). begun t l) is ∙ begun_more t old (answered n a)
    ∙ cond_false (eqb n t) None (begun t old) (ap (λ k. eqb k t) s ∙ e)

-- a job that is given back leaves the others as they are
pub given_back_others : (old new : List DealerStep) (u n : ℕ) → n ≡ u → new ≡ old ++ given_back n ∷ []
    → OthersStay u old new
given_back_others old new u n s is t e =
    ap (λ (l : List DealerStep). begun t l) is ∙ begun_more t old (given_back n)
    ∙ cond_false (eqb n t) None (begun t old) (ap (λ k. eqb k t) s ∙ e)

module _ (old mid : List DealerStep) (job : Work) (none : begun job.task old ≡ None)
    (is : mid ≡ old ++ begin job ∷ []) where
  -- the job is open
  pub just_open : begun job.task mid ≡ Some job
  just_open =
      ap (λ (l : List DealerStep). begun job.task l) is ∙ begun_more job.task old (begin job)
      ∙ cond_true (eqb job.task job.task) (Some job) (begun job.task old) (eq-eqb job.task job.task refl)

  other : (t : ℕ) (a : Work) → begun t old ≡ Some a → eqb job.task t ≡ false
  other t a e = ⊎_elim
      (λ (x : (eqb job.task t ≡ true) × (job.task ≡ t)).
      absurd (no_some (begun t old) a (ap (λ n. begun n old) (sym x.1) ∙ none) e))
      (λ (x : (eqb job.task t ≡ false) × (job.task ≢ t)). x.0) (eqb_tells job.task t)

  -- what was open is open still
  pub begun_stays : StayOpen old mid
  begun_stays t a e =
      ap (λ (l : List DealerStep). begun t l) is ∙ begun_more t old (begin job)
      ∙ cond_false (eqb job.task t) (Some job) (begun t old) (other t a e) ∙ e

  -- and so it is after the job has its answer
  pub settled_stays : (new : List DealerStep) → OthersStay job.task mid new → StayOpen old new
  settled_stays new o t a e = o t (other t a e) ∙ begun_stays t a e
