-- What a scripted dealer deals, by the stages that it keeps.
use Rattle.std.proofs.Common.{◌≡◌, ◌<◌, ℕ, true, List, length, sym, ap, ◌∙◌, Ok, Err}
use Rattle.std.proofs.Common.{Result, None}
use Rattle.std.specs.declared.alloc.AllocError.{AllocError}
use Rattle.provider_trait.specs.Work.{Work}
use Rattle.dealer_trait.specs.Steps.{begun, IsBegun, NoneBegun, AsksFor}
use Rattle.dealer_trait.specs.declared.next.Next.{Next}
use Rattle.dealer_trait.specs.declared.next.Next.TheVariants.{Begun, Wait, End}
use Rattle.driver_fakes.specs.Dealing.{Hand, Begins}
use Rattle.driver_fakes.specs.Needs.{needs_at}
use Rattle.driver_fakes.specs.Stages.{is_open, is_ready_at, is_ready, stage_at, stage_of, count_open}
use Rattle.driver_fakes.specs.declared.stage.Stage.{Stage}
use Rattle.driver_fakes.specs.declared.stage.Stage.TheVariants.{Waiting, Done}
use Rattle.driver_fakes.proofs.StageLemmas.{ready_same, ready_waits, begun_where_open, not_begun}
use Rattle.driver_fakes.proofs.StageLemmas.{one_open, no_open}

module _ (h : Hand) (stages : List Stage) (low : ℕ) (same : (t : ℕ) → stage_at stages t ≡ stage_of t h.steps)
    (sizes : length stages ≡ length h.jobs) (done : (k : ℕ) → k < low → stage_at stages k ≡ Done) where
  by_steps : (k : ℕ) → is_ready (needs_at h.needs k) k h.steps ≡ is_ready_at stages (needs_at h.needs k) k
  by_steps k = ready_same stages h.steps (needs_at h.needs k) k same

  -- a task that may begin waits
  pub waits : (task : ℕ) → is_ready (needs_at h.needs task) task h.steps ≡ true → stage_at stages task ≡ Waiting
  waits task ready = ready_waits stages (needs_at h.needs task) task (sym (by_steps task) ∙ ready)

  pub one_is_begun : 0 < count_open stages → (task : ℕ) × IsBegun task h.steps
  one_is_begun some =
      let p = one_open stages some in (p.0, begun_where_open p.0 h.steps (sym (same p.0) ∙ p.1))

  pub none_is_begun : count_open stages ≡ 0 → NoneBegun h.steps
  none_is_begun none = λ task. not_begun task h.steps (ap is_open (sym (same task)) ∙ no_open stages task none)

-- ---- what is answered

pub begins_asks : (old new : Hand) (task worker : ℕ) (r : Result Next AllocError) → begun task old.steps ≡ None
    → Begins old new task worker r → AsksFor worker old.steps new.steps r
begins_asks old new task worker (Ok (Begun job)) free b = (
  ap (λ (j : Work). j.worker) b.0.2,
  ap (λ (j : Work). begun j.task old.steps) b.0.2 ∙ free,
  ap (λ (h : Hand). h.steps) b.1,
)
begins_asks old new task worker (Ok Wait) free b = absurd b
begins_asks old new task worker (Ok End) free b = absurd b
begins_asks old new task worker (Err e) free b = ap (λ (h : Hand). h.steps) b
