-- What the functions of the crate require and ensure.
use Rattle.std.specs.Prelude.{◌≡◌, ◌⊎◌, ◌<◌, ◌≤◌, ℕ, Bool, List, [], ◌++◌, map, codes, Option, Result, Ok}
use Rattle.std.specs.Prelude.{option_map, string_bytes, vec_items, vec_len}
use Rattle.std.specs.declared.alloc.AllocError.{AllocError}
use Rattle.std.specs.declared.alloc.Global.{Global}
use Rattle.std.specs.declared.string.String.{String}
use Rattle.std.specs.declared.vec.Vec.{Vec}
use Rattle.bicep_program.specs.Sources.{folder_of}
use Rattle.command_reports.specs.Reports.{Output}
use Rattle.command_reports.specs.declared.report.Report.{Report}
use Rattle.command_words.specs.Commands.{build_asked, deploy_asked, request_of}
use Rattle.command_words.specs.declared.command.Build.{Build}
use Rattle.command_words.specs.declared.command.Command.{Command}
use Rattle.command_words.specs.declared.command.Deploy.{Deploy}
use Rattle.deploy_cli.specs.declared.running.Ran.{Ran}
pub use Rattle.std.specs.Prelude.{IfOk}
pub use Rattle.deployment_theorem.specs.Commands.{Says}
pub use Rattle.deployment_theorem.specs.Counts.{CountsTree}
pub use Rattle.deployment_theorem.specs.Sides.{outside, moment}
use Rattle.deployment_theorem.specs.Commands.{IsTemplate, IsRefusal, IsSourceOf, Does}
use Rattle.deployment_theorem.specs.Sides.{Outside, Moment}
use Rattle.deployment_theorem.specs.Theorem.{Runs}
use Rattle.provider_trait.specs.declared.call.Call.{Call}
use Rattle.deployment_theorem.specs.Deployed.{place_in}
use Rattle.run_reports.specs.Sides.{ProviderSide, sides}
use Rattle.run_reports.specs.declared.outcome.Outcome.{Outcome}
use Rattle.seat_calls.specs.Called.{Kind}
use Rattle.seat_calls.specs.declared.seat.Seat.{Seat}
use Rattle.deployment_theorem.specs.Refusals.{IsNotBuilt}
use Rattle.deployment_theorem.specs.NotBuilt.{NotBuilt}
use Rattle.deployment_theorem.specs.NotBuilt.TheVariants.{Refused, OutOfMemory}
use Rattle.deployment_theorem.specs.Deploying.{AreReady, CameOut}
use Rattle.worker_crew.specs.Driven.{HasNoJobs}

-- ---- values of the code as the theorem has them

-- the seats, by what their providers have counted and reported
abbrev pub seats_in : {P : Type 0} → (P → ℕ) → (P → List Call) → Vec (Seat P) Global → List (Seat ProviderSide)
seats_in faults calls seats = sides faults calls (vec_items seats)

abbrev pub output : Bool → List ℕ → ℕ → Output
output tells written faults = record { tells = tells; written = written; faults = faults }

-- the words, by their bytes
abbrev pub bytes_of : List (String Global) → List (List ℕ)
bytes_of words = map string_bytes words

abbrev pub IsSame : {R : Type 0} → R → R → Type 0
IsSame a b = a ≡ b

-- ---- parts of reports

-- the bytes and a newline are reported, unless memory was out
abbrev pub IsLineOf : List ℕ → Result Report AllocError → Type 0
IsLineOf bytes r = IfOk r (λ p. (p.text ≡ bytes ++ codes "\n") × (p.status ≡ 0))

abbrev pub IsReasonOf : NotBuilt → Result Report AllocError → Type 0
IsReasonOf (Refused p) r = r ≡ Ok p
IsReasonOf OutOfMemory r = IfOk r (λ p. ⊥)

-- a text with status 2
abbrev pub IsUsageText : Result Report AllocError → Type 0
IsUsageText r = IfOk r (λ p. (text : List ℕ) × (p ≡ record { text = text; status = 2 }))

-- ---- what came of a command

-- a program was built, or it is reported why it was not
pub record HasBuilt (tells : Bool) (file : List ℕ → Option (List ℕ)) (b : Build) (c : Outcome) : Type 0 where
  pub nothing : c.history.items ≡ []
  pub says : IfOk c.report (λ r. IsTemplate (folder_of tells file) (build_asked b) r
      ⊎ IsNotBuilt (folder_of tells file) b.file.now b.form r)

-- there are 1 to 4,294,967,295 seats
abbrev pub AreFew : {P : Type 0} → Vec (Seat P) Global → Type 0
AreFew seats = (0 < vec_len seats) × (vec_len seats ≤ 4294967295)

-- none of them has a job
abbrev pub AreFree : {P : Type 0} → Vec (Seat P) Global → Type 0
AreFree seats = HasNoJobs (vec_items seats)

-- there are so many, of which none has a job
abbrev pub HasSeats : {P : Type 0} → ℕ → Vec (Seat P) Global → Type 0
HasSeats count seats = (vec_len seats ≡ count) × HasNoJobs (vec_items seats)

-- there are 1 to 4,294,967,295 seats, of which none has a job
abbrev pub MayDeploy : {P : Type 0} → Vec (Seat P) Global → Type 0
MayDeploy seats = AreReady (vec_items seats)

module _ {P : Type 0} (may : Kind) (told : Bool) (faults : P → ℕ) (calls : P → List Call)
    (old new : Vec (Seat P) Global) (c : Outcome) where
  -- a program was deployed, or it was refused
  abbrev pub HasDeployed : Bool → (List ℕ → Option (List ℕ)) → Deploy → Type 0
  HasDeployed tells file d =
      CameOut may told faults calls old new c (IsRefusal (folder_of tells file) (deploy_asked d))
      (IsSourceOf (folder_of tells file) (deploy_asked d)) (place_in (deploy_asked d))

  -- this came of the command, whatever the output and the tree have counted
  abbrev pub HasDone : Bool → (List ℕ → Option (List ℕ)) → Option Command → Type 0
  HasDone tells file command =
      (tells_written : Bool) (tree_before tree_now out_before out_now : ℕ) (written_before written_now : List ℕ)
      → Does (outside file tells may told tells_written)
      (moment tree_before (seats_in faults calls old) out_before written_before)
      (moment tree_now (seats_in faults calls new) out_now written_now) (option_map request_of command) c

-- this came of the words
pub record HasRun (o : Outside) (before now : Moment) (words : List (List ℕ)) (ran : Ran) : Type 0 where
  pub outcome : Outcome
  pub runs : Runs o before now words outcome ran.status
  pub handed : ran.history ≡ outcome.history
