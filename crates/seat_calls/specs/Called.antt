-- One call on a provider.
use Rattle.std.specs.Prelude.{◌≡◌, ℕ, Bool, true, List, IfOk, Result}
use Rattle.arm_value.specs.Json.{Json}
use Rattle.provider_trait.specs.Answer.{Suits}
use Rattle.provider_trait.specs.Calls.{AddsCall, Counts}
use Rattle.provider_trait.specs.Work.{Work}
use Rattle.provider_trait.specs.declared.act.Act.{Act}
use Rattle.provider_trait.specs.declared.act.Act.TheVariants.{Put, Delete}
use Rattle.provider_trait.specs.declared.answer.Answer.{Answer}
use Rattle.provider_trait.specs.declared.answer.Answer.TheVariants.{Stored, Gone, Refused}
use Rattle.provider_trait.specs.declared.answer.ProviderFault.{ProviderFault}
use Rattle.provider_trait.specs.declared.call.Call.{Call}

-- what providers of a kind may answer to an act on an id with a version and a body
abbrev pub Kind : Type 1
Kind = Act → List ℕ → List ℕ → Json → Answer → Type 0

-- the answer is one that providers of this kind may give to the job
abbrev pub MayGive : Kind → Work → Answer → Type 0
MayGive may job answer = may job.act job.id job.api job.body answer

-- one call with this job was made on a provider, which was this before it and that after it, and it returned this
pub record Called {P : Type 0} (may : Kind) (tells : Bool) (calls : P → List Call) (faults : P → ℕ)
    (before after : P) (job : Work) (got : Result Answer ProviderFault) : Type 0 where
  pub fits : IfOk got (MayGive may job)
  pub suits : IfOk got (Suits job.act)
  pub count : Counts (faults before) (faults after) got
  pub report : tells ≡ true → AddsCall (calls before) (calls after) job got

-- that an answer suits an act is a fact
pub suits_prop : (act : Act) (answer : Answer) → IsProp (Suits act answer)
suits_prop Put (Stored state) = hlevel
suits_prop Put Gone = hlevel
suits_prop Put (Refused code) = hlevel
suits_prop Delete (Stored state) = hlevel
suits_prop Delete Gone = hlevel
suits_prop Delete (Refused code) = hlevel
