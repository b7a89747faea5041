-- What the words of a request ask of a deployment.
use Rattle.std.specs.Prelude.{◌≡◌, ℕ, Bool, List, [], Option, Some, None, Ok}
use Rattle.arm_value.specs.Json.{Json}
use Rattle.command_words.specs.Commands.{DeployRequest}
use Rattle.deploy_histories.specs.Planned.{Planned}
use Rattle.deployment_requests.specs.Requests.{Request, IsPlanBy}
use Rattle.parameter_files.specs.Files.{IsFileAnswer}
use Rattle.read_backs.specs.Texts.{IsReadBack}
use Rattle.request_names.specs.Names.{bad_name}
use Rattle.request_places.specs.Places.{place_of}
use Rattle.template_parts.specs.declared.given.GivenValue.{GivenValue}

-- the files of a tree: whether it reports them, and the file of each name
pub record Files : Type 0 where
  pub told : Bool
  pub file : List ℕ → Option (List ℕ)

-- the values that the parameter file gives; none where no file is named
abbrev pub AreGiven : Files → Option (List ℕ) → List GivenValue → Type 0
AreGiven fs None g = g ≡ []
AreGiven fs (Some f) g = IsFileAnswer fs.told (fs.file f) (Ok g)

-- what is asked by the words: the values of the parameter file, in the place of the names, which are in form, in the
-- mode; nothing is held before
pub record IsAsked (fs : Files) (d : DeployRequest) (q : Request) : Type 0 where
  pub given : AreGiven fs d.parameters q.given
  pub in_form : bad_name d.group d.name d.subscription ≡ None
  pub place : q.place ≡ place_of d.subscription d.group d.name
  pub mode : q.mode ≡ d.mode
  pub held : q.held ≡ []

-- the plan is that of what is read back of the bytes, as it is asked
pub record IsPlanOfBytes (fs : Files) (d : DeployRequest) (bytes : List ℕ) (x : Planned) : Type 0 where
  pub request : Request
  pub asked : IsAsked fs d request
  pub value : Json
  pub is_read : IsReadBack bytes value
  pub is_plan : IsPlanBy value request x
