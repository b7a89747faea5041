-- Where tasks are: by the steps, and by a list of stages.
use Rattle.std.proofs.Common.{◌≡◌, ◌<◌, ◌≤◌, ◌+◌, ℕ, zero, suc, Bool, true, false, cond, eqb, ◌||◌, ◌&&◌, List}
use Rattle.std.proofs.Common.{[], ◌∷◌, ◌++◌, length, set, Option, None, Some, is_some, refl, sym, ap, ap₂, ◌∙◌}
use Rattle.std.proofs.Common.{arith, replicate, inl, inr}
use Rattle.std.proofs.lemmas.Bool.Decides.{eqb_tells}
use Rattle.std.proofs.lemmas.List.{get_or-set_same, get_or-set_other}
use Rattle.std.specs.List.{list_all}
use Rattle.provider_trait.specs.Work.{Work}
use Rattle.provider_trait.specs.declared.answer.Answer.{Answer}
use Rattle.dealer_trait.specs.declared.dealer_step.DealerStep.{DealerStep}
use Rattle.dealer_trait.specs.declared.dealer_step.DealerStep.TheVariants.{Begin, Answer as Answered, Back}
use Rattle.dealer_trait.specs.Steps.{begun, begun_after, begun_from, IsBegun}
use Rattle.driver_fakes.specs.Stages.{is_waiting, is_open, is_done, stage_after, stage_from, stage_of, is_refusal}
use Rattle.driver_fakes.specs.Stages.{has_refusal, stage_at, count_open, is_ready, is_ready_at}
use Rattle.driver_fakes.specs.declared.stage.Stage.{Stage}
use Rattle.driver_fakes.specs.declared.stage.Stage.TheVariants.{Waiting, Open, Done}
use Rattle.foundation.proofs.TruthValues.{or_assoc, or_false, first_of_both, never_true}

-- ---- one step more

pub stage_from-push : (task : ℕ) (stage : Stage) (steps : List DealerStep) (step : DealerStep)
    → stage_from task stage (steps ++ step ∷ []) ≡ stage_after task (stage_from task stage steps) step
unfolding stage_from
stage_from-push task stage [] step = refl
stage_from-push task stage (s ∷ rest) step = stage_from-push task (stage_after task stage s) rest step

pub has_refusal-push : (steps : List DealerStep) (step : DealerStep)
    → has_refusal (steps ++ step ∷ []) ≡ (has_refusal steps || is_refusal step)
unfolding has_refusal
has_refusal-push [] step = or_false (is_refusal step)
has_refusal-push (s ∷ rest) step =
    ap (λ b. is_refusal s || b) (has_refusal-push rest step)
    ∙ sym (or_assoc (is_refusal s) (has_refusal rest) (is_refusal step))

-- ---- stages and open Begins

open_cond : (b : Bool) (o p : Option Work) (s t : Stage) → is_some o ≡ is_open s → is_some p ≡ is_open t
    → is_some (cond b o p) ≡ is_open (cond b s t)
open_cond true o p s t e f = e
open_cond false o p s t e f = f

open_after : (task : ℕ) (o : Option Work) (s : Stage) (step : DealerStep) → is_some o ≡ is_open s
    → is_some (begun_after task o step) ≡ is_open (stage_after task s step)
open_after task o s (Begin job) e = open_cond (eqb job.task task) (Some job) o Open s refl e
open_after task o s (Answered other answer) e = open_cond (eqb other task) None o Done s refl e
open_after task o s (Back other) e = open_cond (eqb other task) None o Waiting s refl e

open_from : (task : ℕ) (o : Option Work) (s : Stage) (steps : List DealerStep) → is_some o ≡ is_open s
    → is_some (begun_from task o steps) ≡ is_open (stage_from task s steps)
unfolding begun_from stage_from
open_from task o s [] e = e
open_from task o s (step ∷ rest) e =
    open_from task (begun_after task o step) (stage_after task s step) rest (open_after task o s step e)

-- a Begin of a task is open where the task is open
pub open_of : (task : ℕ) (steps : List DealerStep) → is_some (begun task steps) ≡ is_open (stage_of task steps)
open_of task steps = open_from task None Waiting steps refl

some_there : (o : Option Work) → is_some o ≡ true → (job : Work) × (o ≡ Some job)
some_there None e = absurd (cc)
some_there (Some job) e = (job, refl)

none_there : (o : Option Work) → is_some o ≡ false → o ≡ None
none_there None e = refl
none_there (Some job) e = absurd (cc)

pub begun_where_open : (task : ℕ) (steps : List DealerStep) → stage_of task steps ≡ Open → IsBegun task steps
begun_where_open task steps e = some_there (begun task steps) (open_of task steps ∙ ap is_open e)

pub not_begun : (task : ℕ) (steps : List DealerStep) → is_open (stage_of task steps) ≡ false → begun task steps ≡ None
not_begun task steps e = none_there (begun task steps) (open_of task steps ∙ e)

is_open_stage : (s : Stage) → is_open s ≡ true → s ≡ Open
is_open_stage Waiting e = absurd (cc)
is_open_stage Open e = refl
is_open_stage Done e = absurd (cc)

pub open_where_begun : (task : ℕ) (steps : List DealerStep) (job : Work) → begun task steps ≡ Some job
    → stage_of task steps ≡ Open
open_where_begun task steps job e = is_open_stage (stage_of task steps) (sym (open_of task steps) ∙ ap is_some e)

waiting_is : (s : Stage) → is_waiting s ≡ true → s ≡ Waiting
waiting_is Waiting e = refl
waiting_is Open e = absurd (cc)
waiting_is Done e = absurd (cc)

pub done_is : (s : Stage) → is_done s ≡ true → s ≡ Done
done_is Waiting e = absurd (cc)
done_is Open e = absurd (cc)
done_is Done e = refl

-- a task that may begin waits
pub ready_waits : (stages : List Stage) (needs : List ℕ) (task : ℕ) → is_ready_at stages needs task ≡ true
    → stage_at stages task ≡ Waiting
ready_waits stages needs task e = waiting_is (stage_at stages task) (first_of_both _ _ e)

not_ready : (s : Stage) (b : Bool) → s ≡ Done → (is_waiting s && b) ≡ false
not_ready Done b e = refl
not_ready Waiting b e = absurd (cc)
not_ready Open b e = absurd (cc)

-- a task that is done may not begin
pub done_is_not_ready : (stages : List Stage) (needs : List ℕ) (task : ℕ) → stage_at stages task ≡ Done
    → is_ready_at stages needs task ≡ false
done_is_not_ready stages needs task e = not_ready (stage_at stages task) _ e

all_same : (f g : ℕ → Bool) (needs : List ℕ) → ((n : ℕ) → f n ≡ g n) → list_all f needs ≡ list_all g needs
all_same f g [] e = refl
all_same f g (n ∷ ns) e = ap₂ (λ a b. a && b) (e n) (all_same f g ns e)

-- readiness by the list is readiness by the steps
pub ready_same : (stages : List Stage) (steps : List DealerStep) (needs : List ℕ) (task : ℕ)
    → ((t : ℕ) → stage_at stages t ≡ stage_of t steps) → is_ready needs task steps ≡ is_ready_at stages needs task
ready_same stages steps needs task e =
    ap₂ (λ s b. is_waiting s && b) (sym (e task))
    (all_same (λ need. is_done (stage_of need steps)) (λ need. is_done (stage_at stages need)) needs
    (λ n. ap is_done (sym (e n))))

-- ---- a list of stages

pub open_within : (stages : List Stage) (task : ℕ) → stage_at stages task ≡ Open → task < length stages
open_within [] task e = absurd (cc)
open_within (s ∷ stages) zero e = omega arith
open_within (s ∷ stages) (suc task) e = let h = open_within stages task e in omega arith

pub waiting_at_first : (count task : ℕ) → stage_at (replicate count Waiting) task ≡ Waiting
waiting_at_first zero task = refl
waiting_at_first (suc count) zero = refl
waiting_at_first (suc count) (suc task) = waiting_at_first count task

pub none_open_at_first : (count : ℕ) → count_open (replicate count Waiting) ≡ 0
none_open_at_first zero = refl
none_open_at_first (suc count) = ap (λ n. 0 + n) (none_open_at_first count)

abbrev open_count : Stage → ℕ
open_count s = cond (is_open s) 1 0

small : (s : Stage) → open_count s ≤ 1
small Waiting = omega arith
small Open = omega arith
small Done = omega arith

pub count_open_within : (stages : List Stage) → count_open stages ≤ length stages
count_open_within [] = omega arith
count_open_within (s ∷ stages) = omega (arith, small s, count_open_within stages)

pub count_open-set : (stages : List Stage) (task : ℕ) (s : Stage) → task < length stages
    → count_open (set stages task s) + open_count (stage_at stages task) ≡ count_open stages + open_count s
count_open-set [] task s h = absurd (omega arith)
count_open-set (x ∷ stages) zero s h = omega arith
count_open-set (x ∷ stages) (suc task) s h = omega (arith, count_open-set stages task s (omega arith))

-- where some are open, there is one
pub one_open : (stages : List Stage) → 0 < count_open stages → (task : ℕ) × (stage_at stages task ≡ Open)
one_open [] h = absurd (omega arith)
one_open (Open ∷ stages) h = (0, refl)
one_open (Waiting ∷ stages) h = let w = one_open stages (omega arith) in (suc w.0, w.1)
one_open (Done ∷ stages) h = let w = one_open stages (omega arith) in (suc w.0, w.1)

-- where none is open, no task is
pub no_open : (stages : List Stage) (task : ℕ) → count_open stages ≡ 0 → is_open (stage_at stages task) ≡ false
no_open [] task h = refl
no_open (Open ∷ stages) task h = absurd (omega arith)
no_open (Waiting ∷ stages) zero h = refl
no_open (Waiting ∷ stages) (suc task) h = no_open stages task (omega arith)
no_open (Done ∷ stages) zero h = refl
no_open (Done ∷ stages) (suc task) h = no_open stages task (omega arith)

stage_at-set : (stages : List Stage) (at task : ℕ) (s : Stage) → at < length stages
    → stage_at (set stages at s) task ≡ cond (eqb at task) s (stage_at stages task)
stage_at-set stages at task s h = elim (eqb_tells at task) [
  | inl p ↦ ap (stage_at (set stages at s)) (sym p.1) ∙ get_or-set_same stages at s Waiting h
      ∙ sym (ap (λ b. cond b s (stage_at stages task)) p.0)
  | inr q ↦ get_or-set_other stages at task s Waiting (λ e. q.1 (sym e))
      ∙ sym (ap (λ b. cond b s (stage_at stages task)) q.0)
]

-- ---- a step of one task

-- the stages after a step of one task, where it sets the task's stage and no other
pub stages_after : (stages : List Stage) (steps : List DealerStep) (task : ℕ) (s : Stage) (step : DealerStep)
    → ((t : ℕ) (x : Stage) → stage_after t x step ≡ cond (eqb task t) s x) → task < length stages
    → ((t : ℕ) → stage_at stages t ≡ stage_of t steps) → (t : ℕ)
    → stage_at (set stages task s) t ≡ stage_of t (steps ++ step ∷ [])
stages_after stages steps task s step sets h same t =
    stage_at-set stages task t s h ∙ ap (cond (eqb task t) s) (same t) ∙ sym (sets t (stage_of t steps))
    ∙ sym (stage_from-push t Waiting steps step)

pub begin_sets : (job : Work) (task : ℕ) → job.task ≡ task → (t : ℕ) (x : Stage)
    → stage_after t x (Begin job) ≡ cond (eqb task t) Open x
begin_sets job task e t x = ap (λ n. cond (eqb n t) Open x) e

pub answer_sets : (task : ℕ) (answer : Answer) (t : ℕ) (x : Stage)
    → stage_after t x (Answered task answer) ≡ cond (eqb task t) Done x
answer_sets task answer t x = refl

pub back_sets : (task : ℕ) (t : ℕ) (x : Stage) → stage_after t x (Back task) ≡ cond (eqb task t) Waiting x
back_sets task t x = refl

-- one more is open
pub count_begun : (stages : List Stage) (task : ℕ) → task < length stages → stage_at stages task ≡ Waiting
    → count_open (set stages task Open) ≡ count_open stages + 1
count_begun stages task h e =
    let counts = count_open-set stages task Open h in
    let waits : open_count (stage_at stages task) ≡ 0 = ap open_count e in
    omega (arith, counts, waits)

-- one less is open
pub count_closed : (stages : List Stage) (task : ℕ) (s : Stage) → task < length stages → stage_at stages task ≡ Open
    → open_count s ≡ 0 → count_open (set stages task s) + 1 ≡ count_open stages
count_closed stages task s h e closed =
    let counts = count_open-set stages task s h in
    let opens : open_count (stage_at stages task) ≡ 1 = ap open_count e in
    omega (arith, counts, opens, closed)

pub some_open : (stages : List Stage) (task : ℕ) → task < length stages → stage_at stages task ≡ Open
    → 1 ≤ count_open stages
some_open stages task h e = let counts = count_closed stages task Waiting h e refl in omega (arith, counts)

set_other : (b : Bool) (s x : Stage) → x ≡ Done → (b ≡ true → ⊥) → cond b s x ≡ Done
set_other true s x e n = absurd (n refl)
set_other false s x e n = e

same_place : (task k : ℕ) → eqb task k ≡ true → task ≡ k
same_place task k e = elim (eqb_tells task k) [ inl p ↦ p.1 | inr q ↦ absurd (never_true (eqb task k) q.0 e) ]

-- the tasks that are done stay so, where another task gets a stage
pub done_after : (stages : List Stage) (task low : ℕ) (s : Stage) → task < length stages
    → (stage_at stages task ≡ Done → ⊥) → ((k : ℕ) → k < low → stage_at stages k ≡ Done) → (k : ℕ) → k < low
    → stage_at (set stages task s) k ≡ Done
done_after stages task low s h other done k below =
    stage_at-set stages task k s h
    ∙ set_other (eqb task k) s (stage_at stages k) (done k below)
    (λ e. other (ap (stage_at stages) (same_place task k e) ∙ done k below))

pub waiting_not_done : (s : Stage) → s ≡ Waiting → s ≡ Done → ⊥
waiting_not_done s e f = cc

pub open_not_done : (s : Stage) → s ≡ Open → s ≡ Done → ⊥
open_not_done s e f = cc

-- what holds of a task of which a Begin is open
pub record IsEnding (stages : List Stage) (task : ℕ) : Type 0 where
  pub opens : stage_at stages task ≡ Open
  pub within : task < length stages
  pub some : 1 ≤ count_open stages

pub ending : (stages : List Stage) (steps : List DealerStep) (task : ℕ) (job : Work)
    → ((t : ℕ) → stage_at stages t ≡ stage_of t steps) → begun task steps ≡ Some job → IsEnding stages task
ending stages steps task job same e =
    let opens = same task ∙ open_where_begun task steps job e in
    let within = open_within stages task opens in
    record { opens = opens; within = within; some = some_open stages task within opens }
