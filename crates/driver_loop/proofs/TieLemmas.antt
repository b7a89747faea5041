-- The dealer's open Begins are the open jobs of the seats.
use Rattle.std.proofs.Common.{arith, true, false, cond, eqb, ◌≡◌, ◌≢◌, ◌<◌, ⊎_elim, ℕ, zero, suc, List, [], ◌∷◌}
use Rattle.std.proofs.Common.{◌++◌, refl, sym, ap, ◌∙◌, subst, length, get_or, set, Option, None, Some, eq-eqb, ne_eqb}
use Rattle.std.proofs.lemmas.Bool.Decides.{eqb_tells}
use Rattle.std.proofs.lemmas.Option.{same_Some}
use Rattle.provider_trait.specs.Work.{Work}
use Rattle.dealer_trait.specs.declared.dealer_step.DealerStep.{DealerStep}
use Rattle.dealer_trait.specs.declared.dealer_step.DealerStep.TheVariants.{Begin}
use Rattle.dealer_trait.specs.Steps.{begun, begun_from, begun_after, NoneBegun}
use Rattle.driver_loop.specs.declared.open_job.OpenJob.{OpenJob}
use Rattle.driver_loop.specs.OpenJobs.{open_at, job_at, job_in}
use Rattle.driver_loop.specs.Runs.{IsRight, Tied}
use Rattle.foundation.proofs.Choices.{cond_true, cond_false}

begun_append : (t : ℕ) (o : Option Work) (l m : List DealerStep)
    → begun_from t o (l ++ m) ≡ begun_from t (begun_from t o l) m
unfolding begun_from
begun_append t o [] m = refl
begun_append t o (s ∷ l) m = begun_append t (begun_after t o s) l m

begun_one : (t : ℕ) (o : Option Work) (s : DealerStep) → begun_from t o (s ∷ []) ≡ begun_after t o s
unfolding begun_from
begun_one t o s = refl

-- what is begun after one more step
pub begun_more : (t : ℕ) (l : List DealerStep) (s : DealerStep) → begun t (l ++ s ∷ []) ≡ begun_after t (begun t l) s
begun_more t l s = begun_append t None l (s ∷ []) ∙ begun_one t (begun t l) s

pub here_set : {A : Type 0} (l : List A) (i : ℕ) (a d : A) → i < length l → get_or (set l i a) i d ≡ a
here_set [] i a d h = absurd (omega arith)
here_set (x ∷ l) zero a d h = refl
here_set (x ∷ l) (suc i) a d h = here_set l i a d (omega arith)

pub else_set : {A : Type 0} (l : List A) (i j : ℕ) (a d : A) → j ≢ i → get_or (set l i a) j d ≡ get_or l j d
else_set [] i j a d n = refl
else_set (x ∷ l) zero zero a d n = absurd (n refl)
else_set (x ∷ l) zero (suc j) a d n = refl
else_set (x ∷ l) (suc i) zero a d n = refl
else_set (x ∷ l) (suc i) (suc j) a d n = else_set l i j a d (λ e. n (ap suc e))

no_some : {A : Type 0} (o : Option A) (a : A) → o ≡ None → o ≡ Some a → ⊥
no_some o a p q = cc

module _ (steps : List DealerStep) (opens : List (Option OpenJob)) (tied : Tied steps opens) where
  -- a job is begun at a free seat
  pub tied_hand : (k : ℕ) (o : OpenJob) (job : Work) → k < length opens → open_at opens k ≡ None → o.job.value ≡ job
      → o.task ≡ job.task → o.act ≡ job.act → job.worker ≡ k
      → begun job.task steps ≡ None → Tied (steps ++ Begin job ∷ []) (set opens k (Some o))
  tied_hand k o job low free is task act worker none = record {
    right = λ j p e. ⊎_elim
        (λ (x : (eqb j k ≡ true) × (j ≡ k)).
        let own : Some o ≡ Some p = sym (here_set opens k (Some o) None low)
        ∙ ap (λ n. open_at (set opens k (Some o)) n) (sym x.1) ∙ e in
        subst (λ (y : ℕ × OpenJob). IsRight (steps ++ Begin job ∷ []) y.0 y.1) (λ i. (sym x.1 i, same_Some o p own i))
        (record {
          task = task ∙ ap (λ (b : Work). b.task) (sym is);
          act = act ∙ ap (λ (b : Work). b.act) (sym is);
          worker = ap (λ (b : Work). b.worker) is ∙ worker;
          open_there = begun_more o.task steps (Begin job)
              ∙ cond_true (eqb job.task o.task) (Some job) (begun o.task steps) (eq-eqb job.task o.task (sym task))
              ∙ ap (λ b. Some b) (sym is);
        }))
        (λ (x : (eqb j k ≡ false) × (j ≢ k)).
        let r = tied.right j p (sym (else_set opens k j (Some o) None x.1) ∙ e) in
        record {
          task = r.task;
          act = r.act;
          worker = r.worker;
          open_there = begun_more p.task steps (Begin job)
              ∙ cond_false (eqb job.task p.task) (Some job) (begun p.task steps)
              (ne_eqb job.task p.task (λ t. no_some (begun p.task steps) p.job.value
              (ap (λ n. begun n steps) (sym t) ∙ none) r.open_there))
              ∙ r.open_there;
        })
        (eqb_tells j k);
    all = λ t b e. ⊎_elim
        (λ (x : (eqb job.task t ≡ true) × (job.task ≡ t)).
        let own : job ≡ b = same_Some job b (sym (begun_more t steps (Begin job)
        ∙ cond_true (eqb job.task t) (Some job) (begun t steps) x.0) ∙ e) in (
          ap (λ (y : Work). y.task) (sym own) ∙ x.1,
          ap (λ (y : Work). job_at (set opens k (Some o)) y.worker) (sym own)
              ∙ ap (λ n. job_at (set opens k (Some o)) n) worker ∙ ap job_in (here_set opens k (Some o) None low)
              ∙ ap (λ y. Some y) (is ∙ own),
        ))
        (λ (x : (eqb job.task t ≡ false) × (job.task ≢ t)).
        let a = tied.all t b (sym (begun_more t steps (Begin job)
        ∙ cond_false (eqb job.task t) (Some job) (begun t steps) x.0) ∙ e) in (
          a.0,
          ap job_in (else_set opens k b.worker (Some o) None
              (λ w. no_some (job_at opens b.worker) b (ap (λ n. job_at opens n) w ∙ ap job_in free) a.1)) ∙ a.1,
        ))
        (eqb_tells job.task t);
  }

  -- the open job of a seat ends
  pub tied_end : (k : ℕ) (o : OpenJob) (s : DealerStep) → k < length opens → open_at opens k ≡ Some o
      → ((t : ℕ) (b : Option Work) → begun_after t b s ≡ cond (eqb o.task t) None b)
      → Tied (steps ++ s ∷ []) (set opens k None)
  tied_end k o s low was ends =
      let mine = tied.right k o was in record {
        right = λ j p e. ⊎_elim
            (λ (x : (eqb j k ≡ true) × (j ≡ k)). absurd
            (no_some (open_at (set opens k None) k) p (here_set opens k None None low)
            (ap (λ n. open_at (set opens k None) n) (sym x.1) ∙ e)))
            (λ (x : (eqb j k ≡ false) × (j ≢ k)).
            let r = tied.right j p (sym (else_set opens k j None None x.1) ∙ e) in
            let other : o.task ≢ p.task = λ t. x.1 (sym r.worker
            ∙ ap (λ (y : Work). y.worker) (same_Some p.job.value o.job.value (sym r.open_there
            ∙ ap (λ n. begun n steps) (sym t) ∙ mine.open_there)) ∙ mine.worker) in
            record {
              task = r.task;
              act = r.act;
              worker = r.worker;
              open_there = begun_more p.task steps s ∙ ends p.task (begun p.task steps)
                  ∙ cond_false (eqb o.task p.task) None (begun p.task steps)
                  (ne_eqb o.task p.task other) ∙ r.open_there;
            })
            (eqb_tells j k);
        all = λ t b e. ⊎_elim
            (λ (x : (eqb o.task t ≡ true) × (o.task ≡ t)). absurd
            (no_some (begun t (steps ++ s ∷ [])) b (begun_more t steps s ∙ ends t (begun t steps)
            ∙ cond_true (eqb o.task t) None (begun t steps) x.0) e))
            (λ (x : (eqb o.task t ≡ false) × (o.task ≢ t)).
            let a = tied.all t b (sym (begun_more t steps s ∙ ends t (begun t steps)
            ∙ cond_false (eqb o.task t) None (begun t steps) x.0) ∙ e) in
            let other : b.worker ≢ k = λ w. x.1 (mine.task
            ∙ ap (λ (y : Work). y.task) (same_Some o.job.value b (sym (ap job_in was)
            ∙ ap (λ n. job_at opens n) (sym w) ∙ a.1)) ∙ a.0) in (
              a.0,
              ap job_in (else_set opens k b.worker None None other) ∙ a.1,
            ))
            (eqb_tells o.task t);
      }

-- where no job is open at a seat, none is at the dealer
pub tied_none : (steps : List DealerStep) (opens : List (Option OpenJob)) → Tied steps opens
    → ((k : ℕ) → open_at opens k ≡ None) → NoneBegun steps
tied_none steps opens tied free t = closed t (begun t steps) refl
  where
    closed : (t : ℕ) (b : Option Work) → begun t steps ≡ b → begun t steps ≡ None
    closed t None e = e
    closed t (Some j) e = let a = tied.all t j e
        in absurd (no_some (job_at opens j.worker) j (ap job_in (free j.worker)) a.1)

-- where no Begin is open and no seat has a job, they are tied
pub tied_first : (steps : List DealerStep) (opens : List (Option OpenJob)) → NoneBegun steps
    → ((k : ℕ) → open_at opens k ≡ None) → Tied steps opens
tied_first steps opens none free = record {
  right = λ k o e. absurd (no_some (open_at opens k) o (free k) e);
  all = λ t b e. absurd (no_some (begun t steps) b (none t) e);
}
