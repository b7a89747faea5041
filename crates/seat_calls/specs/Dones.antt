-- What the calls of seats amount to.
use Rattle.std.specs.Prelude.{◌≡◌, ◌≤◌, ◌<◌, ◌==◌, if◌then◌else◌, ℕ, List, [], ◌∷◌, ◌++◌, ◌||◌, Bool, true, false}
use Rattle.std.specs.Prelude.{IfOk, Result, Ok, Err}
use Rattle.arm_edges.specs.Faults.{Rose}
use Rattle.provider_trait.specs.Calls.{call}
use Rattle.provider_trait.specs.Work.{Work}
use Rattle.provider_trait.specs.declared.answer.Answer.{Answer}
use Rattle.provider_trait.specs.declared.answer.ProviderFault.{ProviderFault}
use Rattle.provider_trait.specs.declared.answer.ProviderFault.TheVariants.{Fault, OutOfMemory}
use Rattle.provider_trait.specs.declared.call.Call.{Call}
use Rattle.seat_calls.specs.Called.{Kind, MayGive}
use Rattle.seat_calls.specs.declared.done.Done.{Done}

-- those of the seat of this number, in order
unfoldable pub of : ℕ → List Done → List Done
of k [] = []
of k (done ∷ rest) = if done.worker == k then done ∷ of k rest else of k rest

-- their jobs, in order
unfoldable pub jobs_of : List Done → List Work
jobs_of [] = []
jobs_of (done ∷ rest) = done.job ∷ jobs_of rest

-- the call that a provider reports of this, none where it was out of memory
abbrev pub reported : Work → Result Answer ProviderFault → List Call
reported job (Ok answer) = call job (Ok answer) ∷ []
reported job (Err Fault) = call job (Err Fault) ∷ []
reported job (Err OutOfMemory) = []

-- the calls that a provider reports of these, in order
unfoldable pub calls_of : List Done → List Call
calls_of [] = []
calls_of (done ∷ rest) = reported done.job done.got ++ calls_of rest

-- whether a call failed
abbrev pub is_failure : Result Answer ProviderFault → Bool
is_failure (Ok answer) = false
is_failure (Err Fault) = true
is_failure (Err OutOfMemory) = false

-- whether one of these calls failed
unfoldable pub has_failure : List Done → Bool
has_failure [] = false
has_failure (done ∷ rest) = is_failure done.got || has_failure rest

-- each answer is one that providers of this kind may give to its job
unfoldable pub AllMay : Kind → List Done → Type 0
AllMay may [] = Unit {0}
AllMay may (done ∷ rest) = IfOk done.got (MayGive may done.job) × AllMay may rest

-- a provider has made these calls one after another, and was this before them and that after them
pub record Made {P : Type 0} (may : Kind) (tells : Bool) (calls : P → List Call) (faults : P → ℕ)
    (before after : P) (dones : List Done) : Type 0 where
  -- it reports these calls after those that it had reported
  pub report : tells ≡ true → calls after ≡ calls before ++ calls_of dones
  -- its count of faults never fell
  pub kept : faults before ≤ faults after
  -- its count of faults rose where one of these calls failed
  pub rose : has_failure dones ≡ true → Rose (faults before) (faults after)
  -- each answer is one that it may give
  pub fits : AllMay may dones

-- all seats with numbers below this have come back: what was received of one is of the first jobs that it was sent,
-- in order, and nothing was received of any other seat
pub record Answers (seats : ℕ) (sent : ℕ → List Work) (received : List Done) : Type 0 where
  pub first : (k : ℕ) → k < seats → (rest : List Work) × (sent k ≡ jobs_of (of k received) ++ rest)
  pub others : (k : ℕ) → seats ≤ k → of k received ≡ []
