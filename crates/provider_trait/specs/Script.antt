-- What a script answers.
use Rattle.std.specs.Prelude.{◌≡◌, ℕ, List, Option, Some, None, Result, Ok, Err}
use Rattle.arm_value.specs.Json.{Json}
use Rattle.provider_trait.specs.Plain.{plain_state}
use Rattle.provider_trait.specs.Work.{Work}
use Rattle.provider_trait.specs.declared.act.Act.{Act}
use Rattle.provider_trait.specs.declared.act.Act.TheVariants.{Put, Delete}
use Rattle.provider_trait.specs.declared.answer.Answer.{Answer}
use Rattle.provider_trait.specs.declared.answer.Answer.TheVariants.{Stored, Gone, Refused}
use Rattle.provider_trait.specs.declared.answer.ProviderFault.{ProviderFault}
use Rattle.provider_trait.specs.declared.answer.ProviderFault.TheVariants.{Fault}
use Rattle.provider_trait.specs.declared.step.Step.{Step}
use Rattle.provider_trait.specs.declared.step.Step.TheVariants.{Store, Refuse, Fail}

-- a put is stored in its plain state, and a deletion done
abbrev pub done : Act → List ℕ → List ℕ → Json → Answer
done Put id api body = Stored (plain_state id api body)
done Delete id api body = Gone

-- what a call with this job returns at a step, and after the last one
abbrev pub scripted : Option Step → Work → Result Answer ProviderFault
scripted None job = Ok (done job.act job.id job.api job.body)
scripted (Some Store) job = Ok (done job.act job.id job.api job.body)
scripted (Some (Refuse code)) job = Ok (Refused code)
scripted (Some Fail) job = Err Fault

-- a script may do what it is asked, or refuse with any code
abbrev pub ScriptMay : Act → List ℕ → List ℕ → Json → Answer → Type 0
ScriptMay act id api body (Refused code) = Unit {0}
ScriptMay act id api body (Stored state) = Stored state ≡ done act id api body
ScriptMay act id api body Gone = Gone ≡ done act id api body

-- what a call returns that has this answer, or none
abbrev pub gives : Option Answer → Result Answer ProviderFault
gives None = Err Fault
gives (Some answer) = Ok answer
