-- What is outside the program: each object by what its trait says of it, before and after a call.
use Rattle.std.specs.Prelude.{ℕ, Bool, List, Option}
use Rattle.bicep_program.specs.Sources.{Folder, folder_of}
use Rattle.command_reports.specs.Reports.{Output}
use Rattle.request_deployments.specs.Tells.{tells}
use Rattle.request_deployments.specs.Requested.{Files}
use Rattle.request_deployments.specs.Deployments.{Surroundings}
use Rattle.request_deployments.specs.Reported.{surroundings}
use Rattle.request_deployments.specs.Sides.{ProviderSide}
use Rattle.seat_calls.specs.Called.{Kind}
use Rattle.seat_calls.specs.declared.seat.Seat.{Seat}

-- what does not change in a call
pub record Outside : Type 1 where
  -- the file of each name, and whether trees of this type report their files
  pub file : List ℕ → Option (List ℕ)
  pub tells_files : Bool
  -- which answers providers of this type may give, and whether they report their calls
  pub may : Kind
  pub tells_calls : Bool
  -- whether outputs of this type report what was written
  pub tells_written : Bool

-- what a call may change
pub record Moment : Type 0 where
  -- how often the tree has failed
  pub tree_faults : ℕ
  -- the seats in their order: of the provider of each, how often it has failed, and the calls that it reports
  pub seats : List (Seat ProviderSide)
  -- how often the output has failed, and what was written
  pub out_faults : ℕ
  pub written : List ℕ

-- records of their fields, in this order
abbrev pub outside : (List ℕ → Option (List ℕ)) → Bool → Kind → Bool → Bool → Outside
outside file tells_files may tells_calls tells_written = record {
  file = file;
  tells_files = tells_files;
  may = may;
  tells_calls = tells_calls;
  tells_written = tells_written;
}

abbrev pub moment : ℕ → List (Seat ProviderSide) → ℕ → List ℕ → Moment
moment tree_faults seats out_faults written =
    record { tree_faults = tree_faults; seats = seats; out_faults = out_faults; written = written }

-- the tree of files
abbrev pub folder_in : Outside → Folder
folder_in o = folder_of o.tells_files o.file

abbrev pub files_in : Folder → Files
files_in f = record { told = f.tells; file = f.file }

-- the output at a moment
abbrev pub output_at : Outside → Moment → Output
output_at o m = record { tells = o.tells_written; written = m.written; faults = m.out_faults }

-- the providers of the seats, before and after the call
abbrev pub providers_in : Outside → Moment → Moment → Surroundings
providers_in o before now = surroundings o.may o.tells_calls tells before.seats now.seats
