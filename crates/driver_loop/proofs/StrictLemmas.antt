-- When all seats have taken back, each result was of the job that was open.
use Rattle.std.proofs.Common.{true, false, cond, eqb, leb, ◌≡◌, ◌≢◌, ◌<◌, ◌≤◌, ⊎_elim, ℕ, List, [], ◌∷◌, ◌++◌, refl}
use Rattle.std.proofs.Common.{sym, ap, ◌∙◌, append_assoc, append-nil, Option, None, Some, eq-eqb, ne_eqb}
use Rattle.std.proofs.lemmas.List.{append_cancel_left}
use Rattle.std.proofs.lemmas.Bool.Decides.{eqb_tells, leb_tells}
use Rattle.provider_trait.specs.Work.{Work}
use Rattle.seat_calls.specs.declared.done.Done.{Done}
use Rattle.seat_calls.specs.Dones.{of, jobs_of, Answers}
use Rattle.seat_calls.proofs.DoneLemmas.{of_append, of_none, of_own, of_other, jobs_append, jobs_cons, jobs_none}
use Rattle.driver_loop.specs.declared.action.Action.{Action}
use Rattle.driver_loop.specs.declared.action.Action.TheVariants.{Hand, Take}
use Rattle.driver_loop.specs.declared.open_job.OpenJob.{OpenJob}
use Rattle.driver_loop.specs.Actions.{each, if_own, hands_of, dones_of}
use Rattle.driver_loop.specs.Courses.{Goes, Resembles, IsOfJob}
use Rattle.driver_loop.specs.OpenJobs.{open_at, job_at, job_in, IsStray}

-- the open job, as a list
abbrev held : Option Work → List Work
held None = []
held (Some job) = job ∷ []

its_own : (k w : ℕ) (j : Work) → w ≡ k → if_own k w j ≡ j ∷ []
its_own k w j e = ap (λ b. cond b (j ∷ []) []) (eq-eqb w k e)

its_other : (k w : ℕ) (j : Work) → w ≢ k → if_own k w j ≡ []
its_other k w j e = ap (λ b. cond b (j ∷ []) []) (ne_eqb w k e)

heads : (a b : Work) (l m : List Work) → a ∷ l ≡ b ∷ m → (a ≡ b) × (l ≡ m)
heads a b l m e = (cc, cc)

module _ (k : ℕ) where
  pub strict : (o p : Option Work) (course : List Action) (rest : List Work) → Goes Resembles k o course p
      → held o ++ hands_of k course ≡ jobs_of (of k (dones_of course)) ++ rest → Goes IsOfJob k o course p
  unfolding Goes each
  strict o p [] rest g e = g
  strict o p (Hand j ∷ course) rest g e = (
    g.0,
    (g.1.0, g.1.1),
    strict g.0 p course rest g.2
        (⊎_elim
        (λ (x : (eqb j.worker k ≡ true) × (j.worker ≡ k)).
        ap (λ y. held y ++ hands_of k course) (g.1.0 x.1).1
        ∙ ap (λ y. y ++ hands_of k course) (sym (its_own k j.worker j x.1))
        ∙ ap (λ y. held y ++ (if_own k j.worker j ++ hands_of k course)) (sym (g.1.0 x.1).0) ∙ e)
        (λ (x : (eqb j.worker k ≡ false) × (j.worker ≢ k)).
        ap (λ y. held y ++ hands_of k course) (g.1.1 x.1)
        ∙ ap (λ y. held o ++ (y ++ hands_of k course)) (sym (its_other k j.worker j x.1)) ∙ e)
        (eqb_tells j.worker k)),
  )
  strict o p (Take d r ∷ course) rest g e =
      ⊎_elim
      (λ (x : (eqb d.worker k ≡ true) × (d.worker ≡ k)).
      let m = g.1.0 x.1 in
      let parts : m.0 ∷ hands_of k course ≡ d.job ∷ (jobs_of (of k (dones_of course)) ++ rest)
      = ap (λ y. held y ++ hands_of k course) (sym m.1) ∙ e
      ∙ ap (λ y. jobs_of y ++ rest) (of_own k d (dones_of course) x.1)
      ∙ ap (λ y. y ++ rest) (jobs_cons d (of k (dones_of course))) in
      let both = heads m.0 d.job (hands_of k course) (jobs_of (of k (dones_of course)) ++ rest) parts in (
        g.0,
        ((λ w. (m.0, m.1, sym both.0, m.3)), (λ w. absurd (w x.1))),
        strict g.0 p course rest g.2 (ap (λ y. held y ++ hands_of k course) m.3 ∙ both.1),
      ))
      (λ (x : (eqb d.worker k ≡ false) × (d.worker ≢ k)). (
        g.0,
        ((λ w. absurd (x.1 w)), g.1.1),
        strict g.0 p course rest g.2 (ap (λ y. held y ++ hands_of k course) (g.1.1 x.1) ∙ e
            ∙ ap (λ y. jobs_of y ++ rest) (of_other k d (dones_of course) x.1)),
      ))
      (eqb_tells d.worker k)

  -- the jobs begun are those that came, and then the one that is open
  pub evened : (o p : Option Work) (course : List Action) → Goes IsOfJob k o course p
      → held o ++ hands_of k course ≡ jobs_of (of k (dones_of course)) ++ held p
  unfolding Goes each
  evened o p [] g = append-nil (held o) ∙ ap held (sym g) ∙ ap (λ y. y ++ held p) (sym jobs_none)
      ∙ ap (λ y. jobs_of y ++ held p) (sym (of_none k))
  evened o p (Hand j ∷ course) g =
      let more = evened g.0 p course g.2 in
      ⊎_elim
      (λ (x : (eqb j.worker k ≡ true) × (j.worker ≡ k)).
      ap (λ y. held y ++ (if_own k j.worker j ++ hands_of k course)) (g.1.0 x.1).0
      ∙ ap (λ y. y ++ hands_of k course) (its_own k j.worker j x.1)
      ∙ ap (λ y. held y ++ hands_of k course) (sym (g.1.0 x.1).1) ∙ more)
      (λ (x : (eqb j.worker k ≡ false) × (j.worker ≢ k)).
      ap (λ y. held o ++ (y ++ hands_of k course)) (its_other k j.worker j x.1)
      ∙ ap (λ y. held y ++ hands_of k course) (sym (g.1.1 x.1)) ∙ more)
      (eqb_tells j.worker k)
  evened o p (Take d r ∷ course) g =
      let more = evened g.0 p course g.2 in
      ⊎_elim
      (λ (x : (eqb d.worker k ≡ true) × (d.worker ≡ k)).
      let m = g.1.0 x.1 in
      ap (λ y. held y ++ hands_of k course) m.1 ∙ ap (λ y. y ∷ hands_of k course) (sym m.2)
      ∙ ap (λ y. d.job ∷ (held y ++ hands_of k course)) (sym m.3) ∙ ap (λ y. d.job ∷ y) more
      ∙ ap (λ y. y ++ held p) (sym (jobs_cons d (of k (dones_of course))))
      ∙ ap (λ y. jobs_of y ++ held p) (sym (of_own k d (dones_of course) x.1)))
      (λ (x : (eqb d.worker k ≡ false) × (d.worker ≢ k)).
      ap (λ y. held y ++ hands_of k course) (sym (g.1.1 x.1)) ∙ more
      ∙ ap (λ y. jobs_of y ++ held p) (sym (of_other k d (dones_of course) x.1)))
      (eqb_tells d.worker k)

no_end : {A : Type 0} (l : List A) (a : A) → l ++ a ∷ [] ≡ [] → ⊥
no_end [] a e = cc
no_end (x ∷ l) a e = cc

-- no result is of no open job
pub no_stray : (n : ℕ) (course : List Action) (opens : List (Option OpenJob)) (d : Done) (received : List Done)
    (sent : ℕ → List Work) → IsStray opens d
    → ((k : ℕ) (p : OpenJob) → open_at opens k ≡ Some p → (p.task ≡ p.job.value.task) × (p.act ≡ p.job.value.act))
    → received ≡ dones_of course ++ d ∷ [] → ((k : ℕ) → sent k ≡ hands_of k course)
    → ((k : ℕ) → Goes Resembles k None course (job_at opens k)) → Answers n sent received → ⊥
no_stray n course opens d received sent stray right is jobs goes back =
    let k = d.worker in
    let parts : of k received ≡ of k (dones_of course) ++ d ∷ []
    = ap (of k) is ∙ of_append k (dones_of course) (d ∷ [])
    ∙ ap (λ y. of k (dones_of course) ++ y) (of_own k d [] refl)
    ∙ ap (λ y. of k (dones_of course) ++ d ∷ y) (of_none k) in
    ⊎_elim
    (λ (x : (leb n k ≡ true) × (n ≤ k)). no_end (of k (dones_of course)) d (sym parts ∙ back.others k x.1))
    (λ (x : (leb n k ≡ false) × (k < n)).
    let f = back.first k x.1 in
    let all : hands_of k course ≡ jobs_of (of k (dones_of course)) ++ (d.job ∷ f.0)
    = sym (jobs k) ∙ f.1 ∙ ap (λ y. jobs_of y ++ f.0) parts
    ∙ ap (λ y. y ++ f.0) (jobs_append (of k (dones_of course)) (d ∷ []))
    ∙ append_assoc (jobs_of (of k (dones_of course))) (jobs_of (d ∷ [])) f.0
    ∙ ap (λ y. jobs_of (of k (dones_of course)) ++ (y ++ f.0)) (jobs_cons d [] ∙ ap (λ y. d.job ∷ y) jobs_none) in
    let even = evened k None (job_at opens k) course
    (strict k None (job_at opens k) course (d.job ∷ f.0) (goes k) all) in
    open_one (open_at opens k) refl f.0
    (append_cancel_left (jobs_of (of k (dones_of course))) (held (job_at opens k)) (d.job ∷ f.0) (sym even ∙ all)))
    (leb_tells n k)
  where
    open_one : (o : Option OpenJob) → open_at opens d.worker ≡ o → (rest : List Work)
        → held (job_in o) ≡ d.job ∷ rest → ⊥
    open_one None e rest h = cc
    open_one (Some p) e rest h = let r = right d.worker p e in let same = (heads p.job.value d.job [] rest h).0 in
        stray p e (r.0 ∙ ap (λ (y : Work). y.task) same) (r.1 ∙ ap (λ (y : Work). y.act) same)

-- where no job is left open, each seat's results are of if_own jobs, in order
pub all_strict : (n : ℕ) (course : List Action) (received : List Done) (sent : ℕ → List Work)
    → received ≡ dones_of course → ((k : ℕ) → sent k ≡ hands_of k course)
    → ((k : ℕ) → Goes Resembles k None course None) → Answers n sent received
    → (k : ℕ) → k < n → Goes IsOfJob k None course None × (hands_of k course ≡ jobs_of (of k (dones_of course)))
all_strict n course received sent is jobs goes back k low =
    let f = back.first k low in
    let g = strict k None None course f.0 (goes k) (sym (jobs k) ∙ f.1 ∙ ap (λ y. jobs_of (of k y) ++ f.0) is) in
    (g, evened k None None course g ∙ append-nil (jobs_of (of k (dones_of course))))
