-- A worker receives jobs one after another, and then Stop.
use Rattle.std.proofs.Common.{◌≡◌, true, false, true≢false, List, [], ◌∷◌, ◌++◌, refl, sym, ap, ◌∙◌, append-nil}
use Rattle.std.proofs.Common.{append_assoc}
use Rattle.crew_channels.specs.declared.order.Order.{Order}
use Rattle.crew_channels.specs.declared.order.Order.TheVariants.{Run, Stop}
use Rattle.crew_workers.specs.Received.{is_job, runs}
use Rattle.provider_trait.specs.Work.{Work}

runs_more : (jobs : List Work) (job : Work) → runs (jobs ++ job ∷ []) ≡ runs jobs ++ Run job ∷ []
unfolding runs
runs_more [] job = refl
runs_more (x ∷ jobs) job = ap (λ l. Run x ∷ l) (runs_more jobs job)

-- a worker has received only jobs since then
abbrev pub HasRun : List Order → List Order → Type 0
HasRun old new = (jobs : List Work) × (new ≡ old ++ runs jobs)

pub none_run : (got : List Order) → HasRun got got
unfolding runs
none_run got = ([], sym (append-nil got))

-- one job more was received
pub run_more : (old got new : List Order) (o : Order) → HasRun old got → new ≡ got ++ o ∷ [] → is_job o ≡ true
    → HasRun old new
run_more old got new (Run job) was more is = (
  was.0 ++ job ∷ [],
  more ∙ ap (λ l. l ++ Run job ∷ []) was.1 ∙ append_assoc old (runs was.0) (Run job ∷ [])
      ∙ ap (λ l. old ++ l) (sym (runs_more was.0 job)),
)
run_more old got new Stop was more is = absurd (true≢false (sym is))

-- Stop was received after these jobs
pub run_last : (old got new : List Order) (o : Order) → HasRun old got → new ≡ got ++ o ∷ [] → is_job o ≡ false
    → (jobs : List Work) × (new ≡ old ++ (runs jobs ++ Stop ∷ []))
run_last old got new (Run job) was more is = absurd (true≢false is)
run_last old got new Stop was more is =
    (was.0, more ∙ ap (λ l. l ++ Stop ∷ []) was.1 ∙ append_assoc old (runs was.0) (Stop ∷ []))
