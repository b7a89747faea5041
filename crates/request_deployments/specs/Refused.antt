-- Why a request is refused, and what is reported of it. An earlier reason hides the later ones.
use Rattle.std.specs.Prelude.{◌≡◌, ◌⊎◌, ℕ, List, Some, Err}
use Rattle.arm_value.specs.Json.{Json}
use Rattle.command_refusals.specs.Requests.{name_report, parameter_report}
use Rattle.command_reports.specs.declared.report.Report.{Report}
use Rattle.command_words.specs.Commands.{DeployRequest}
use Rattle.deployment_requests.specs.Requests.{Request}
use Rattle.parameter_files.specs.Files.{IsFileAnswer}
use Rattle.parameter_files.specs.declared.fault.ParameterFault.{ParameterFault}
use Rattle.read_backs.specs.Texts.{IsReadBack}
use Rattle.request_names.specs.Names.{bad_name}
use Rattle.template_deployments.specs.Refusals.{IsRefusal}
use Rattle.template_parts.specs.declared.given.GivenValue.{GivenValue}
use Rattle.request_deployments.specs.Requested.{Files, AreGiven, IsAsked}

-- its parameter file gives nothing
pub record IsUngiven (fs : Files) (d : DeployRequest) (r : Report) : Type 0 where
  pub file : List ℕ
  pub named : d.parameters ≡ Some file
  pub fault : ParameterFault
  pub answer : IsFileAnswer fs.told (fs.file file) (Err fault)
  pub report : r ≡ parameter_report file fault

-- a name is outside its form
pub record IsMisnamed (fs : Files) (d : DeployRequest) (r : Report) : Type 0 where
  pub values : List GivenValue
  pub given : AreGiven fs d.parameters values
  pub name : List ℕ
  pub is_bad : bad_name d.group d.name d.subscription ≡ Some name
  pub report : r ≡ name_report name

-- what the bytes state is refused
pub record IsUnrunOfBytes (fs : Files) (d : DeployRequest) (bytes : List ℕ) (r : Report) : Type 0 where
  pub request : Request
  pub asked : IsAsked fs d request
  pub value : Json
  pub is_read : IsReadBack bytes value
  pub refused : IsRefusal value request r

abbrev pub IsRefused : Files → DeployRequest → List ℕ → Report → Type 0
IsRefused fs d bytes r = IsUngiven fs d r ⊎ (IsMisnamed fs d r ⊎ IsUnrunOfBytes fs d bytes r)
