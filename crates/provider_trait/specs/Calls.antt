-- The calls that a provider makes, and its count of faults.
use Rattle.std.specs.Prelude.{◌≡◌, ◌≤◌, ℕ, List, [], ◌∷◌, ◌++◌, Result, Ok, Err}
use Rattle.arm_edges.specs.Faults.{Rose}
use Rattle.provider_trait.specs.Work.{Work}
use Rattle.provider_trait.specs.declared.answer.Answer.{Answer}
use Rattle.provider_trait.specs.declared.answer.ProviderFault.{ProviderFault}
use Rattle.provider_trait.specs.declared.answer.ProviderFault.TheVariants.{Fault, OutOfMemory}
use Rattle.provider_trait.specs.declared.call.Call.{Call}

-- the call of this job that returned this
abbrev pub call : Work → Result Answer ProviderFault → Call
call job gave = record { job = job; gave = gave }

-- the reported calls have one more at their end, unless the call was out of memory
abbrev pub AddsCall : List Call → List Call → Work → Result Answer ProviderFault → Type 0
AddsCall old new job (Ok answer) = new ≡ old ++ call job (Ok answer) ∷ []
AddsCall old new job (Err Fault) = new ≡ old ++ call job (Err Fault) ∷ []
AddsCall old new job (Err OutOfMemory) = new ≡ old

-- the count of faults rises where a call fails, and is unchanged after every other result
abbrev pub Counts : ℕ → ℕ → Result Answer ProviderFault → Type 0
Counts before now (Ok answer) = now ≡ before
Counts before now (Err Fault) = (before ≤ now) × Rose before now
Counts before now (Err OutOfMemory) = now ≡ before

-- a call returns this, unless it is out of memory
abbrev pub GivesUnlessMemory : Result Answer ProviderFault → Result Answer ProviderFault → Type 0
GivesUnlessMemory wanted (Ok answer) = Ok answer ≡ wanted
GivesUnlessMemory wanted (Err Fault) = Err Fault ≡ wanted
GivesUnlessMemory wanted (Err OutOfMemory) = Unit {0}
