-- What a script has.
use Rattle.std.specs.Prelude.{ℕ, List}
use Rattle.provider_trait.specs.declared.call.Call.{Call}
use Rattle.provider_trait.specs.declared.step.Step.{Step}
use Rattle.provider_trait.specs.declared.script.Script.{Script}

-- its steps: the call after k calls takes the step at k
abbrev pub script_steps : Script → List Step
script_steps s = s.steps.items

-- the calls that were made
abbrev pub script_calls : Script → List Call
script_calls s = s.calls.items

-- how many of them failed, at most 2^64 - 1
abbrev pub script_faults : Script → ℕ
script_faults s = s.faults
