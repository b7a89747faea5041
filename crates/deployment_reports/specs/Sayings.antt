-- What is said of how a deployment has ended.
use Rattle.std.specs.Prelude.{◌≡◌, ◌<◌, ℕ, List, [], ◌∷◌, ◌++◌, map, length, codes, encode_utf8_all, Option, Some}
use Rattle.lock_rules.specs.Causes.{code_of, message_of}
use Rattle.lock_rules.specs.Spaced.{spaced}
use Rattle.lock_rules.specs.declared.cause.Cause.{Cause}
use Rattle.lock_rules.specs.declared.cause.Cause.TheVariants as cause
use Rattle.deploy_histories.specs.Planned.{Planned}
use Rattle.task_standings.specs.declared.standing.TaskFault.{TaskFault}
use Rattle.task_standings.specs.declared.standing.TaskFault.TheVariants.{NoValue, Unsuited}
use Rattle.deploy_core.specs.declared.ending.Ending.{Ending}
use Rattle.deploy_core.specs.declared.ending.Ending.TheVariants.{Succeeded, Refused, Faulty, Circular}
use Rattle.deployment_reports.specs.Lines.{EndsWithOutputs}

-- why a deployment has failed of which a task has this fault
abbrev pub cause_of : TaskFault → Cause
cause_of (NoValue path) = cause.NoValue path
cause_of (Unsuited path why) = cause.Parameter path why

-- the first line of a deployment that succeeded
abbrev pub success_line : List ℕ → List ℕ
success_line name = codes "Succeeded " ++ (name ++ codes "\n")

-- the line of a deployment that failed: its name, and the code and the message of the cause
abbrev pub failure_line : List ℕ → List ℕ → List ℕ → List ℕ
failure_line name code message =
    codes "Failed " ++ (name ++ (codes ": " ++ (code ++ (codes ": " ++ (message ++ codes "\n")))))

-- the text says that the deployment of this name failed for this cause, which is of these tasks
pub record SaysFailure (named : ℕ → Option (List ℕ)) (name : List ℕ) (why : Cause) (us : List ℕ) (text : List ℕ)
    : Type 0 where
  pub names : List (List ℕ)
  pub are_names : map named us ≡ map Some names
  pub is : text ≡ failure_line name (encode_utf8_all (code_of why)) (encode_utf8_all (message_of (spaced names) why))

-- each number is that of a task
abbrev pub AreTasks : Planned → List ℕ → Type 0
AreTasks x [] = Unit {0}
AreTasks x (u ∷ us) = (u < length x.tasks) × AreTasks x us

-- what is said of an ending of the deployment of this name, by the names of its tasks
abbrev pub Says : (ℕ → Option (List ℕ)) → List ℕ → Ending → List ℕ → Type 0
Says named name (Succeeded os) text = EndsWithOutputs (success_line name) os.items text
Says named name (Refused u code) text = SaysFailure named name (cause.Refused code) (u ∷ []) text
Says named name (Faulty u fault) text = SaysFailure named name (cause_of fault) (u ∷ []) text
Says named name (Circular us) text = SaysFailure named name (cause.Circular us.items) us.items text
