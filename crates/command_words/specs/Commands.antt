-- Which words are a command, and what it is. Words are their bytes in UTF-8.
use Rattle.std.specs.Prelude.{ℕ, Bool, ◌||◌, List, [], ◌∷◌, bytes_eq, codes, Option, Some, None, is_some}
use Rattle.std.specs.Prelude.{if◌then◌else◌}
use Rattle.template_parts.specs.declared.mode.Mode.{Mode}
use Rattle.template_parts.specs.declared.mode.Mode.TheVariants.{Incremental, Complete}
use Rattle.template_parts.specs.declared.mode.Form.{Form}
use Rattle.template_parts.specs.declared.mode.Form.TheVariants.{One, Two}
use Rattle.std.specs.Str.{str_eq_ignore_ascii_case}
use Rattle.command_words.specs.Reading.{Values, read, text_of}
use Rattle.command_words.specs.declared.command.Build.{Build}
use Rattle.command_words.specs.declared.command.Deploy.{Deploy}
use Rattle.command_words.specs.declared.command.Command.{Command}
use Rattle.command_words.specs.declared.command.Command.TheVariants as code

-- `build`
pub record BuildRequest : Type 0 where
  pub file : List ℕ
  pub form : Form

-- `deploy`
pub record DeployRequest : Type 0 where
  pub file : List ℕ
  pub group : List ℕ
  pub name : List ℕ
  pub mode : Mode
  pub parameters : Option (List ℕ)
  pub subscription : List ℕ
  pub form : Form

pub data Request : Type 0 where
  ABuild : (b : BuildRequest) → Request
  ADeploy : (d : DeployRequest) → Request

-- the mode of a word in letters of any case
unfoldable pub named_mode : List ℕ → Option Mode
named_mode w =
    if str_eq_ignore_ascii_case w (codes "incremental") then Some Incremental else
    (if str_eq_ignore_ascii_case w (codes "complete") then Some Complete else None)

-- `Incremental` where none is given
abbrev pub mode_of : Option (List ℕ) → Option Mode
mode_of None = Some Incremental
mode_of (Some w) = named_mode w

-- the form of a version of the template language
unfoldable pub named_form : List ℕ → Option Form
named_form w =
    if bytes_eq w (codes "1.0") then Some One else (if bytes_eq w (codes "2.0") then Some Two else None)

-- the first where none is given
abbrev pub form_of : Option (List ℕ) → Option Form
form_of None = Some One
form_of (Some w) = named_form w

abbrev pub subscription_of : Option (List ℕ) → List ℕ
subscription_of None = codes "00000000-0000-0000-0000-000000000000"
subscription_of (Some w) = w

-- whether a value is given that `build` has no place for
unfoldable pub has_others : Values → Bool
has_others g =
    is_some g.group || (is_some g.name || (is_some g.mode || (is_some g.parameters || is_some g.subscription)))

abbrev pub build_in : Option (List ℕ) → Option Form → Option Request
build_in (Some file) (Some form) = Some (ABuild (record { file = file; form = form }))
build_in _ _ = None

-- `build FILE [--language VERSION]`
abbrev pub build : Values → Option Request
build g = if has_others g then None else build_in g.file (form_of g.language)

abbrev pub deploy_of : Values → Mode → Form → Option (List ℕ) → Option (List ℕ) → Option (List ℕ) → Option Request
deploy_of g mode form (Some file) (Some group) (Some name) = Some (ADeploy (record {
  file = file;
  group = group;
  name = name;
  mode = mode;
  parameters = g.parameters;
  subscription = subscription_of g.subscription;
  form = form;
}))
deploy_of g mode form _ _ _ = None

abbrev pub deploy_in : Values → Mode → Form → Option Request
deploy_in g mode form = deploy_of g mode form g.file g.group g.name

abbrev pub deploy_with : Values → Option Mode → Option Form → Option Request
deploy_with g (Some mode) (Some form) = deploy_in g mode form
deploy_with g _ _ = None

-- `deploy FILE --group GROUP --name NAME [--mode MODE] [--parameters FILE] [--subscription ID] [--language VERSION]`
abbrev pub deploy : Values → Option Request
deploy g = deploy_with g (mode_of g.mode) (form_of g.language)

abbrev pub built : Option Values → Option Request
built None = None
built (Some g) = build g

abbrev pub deployed : Option Values → Option Request
deployed None = None
deployed (Some g) = deploy g

-- a command by its first word and what the others give
unfoldable pub command_by : List ℕ → Option Values → Option Request
command_by c o =
    if bytes_eq c (codes "build") then built o else (if bytes_eq c (codes "deploy") then deployed o else None)

-- the command that these words are
abbrev pub command_of : List (List ℕ) → Option Request
command_of [] = None
command_of (c ∷ ws) = command_by c (read ws)

abbrev pub build_asked : Build → BuildRequest
build_asked b = record { file = b.file.now; form = b.form }

abbrev pub deploy_asked : Deploy → DeployRequest
deploy_asked d = record {
  file = d.file.now;
  group = d.group.now;
  name = d.name.now;
  mode = d.mode;
  parameters = text_of d.parameters;
  subscription = d.subscription.now;
  form = d.form;
}

abbrev pub request_of : Command → Request
request_of (code.Build b) = ABuild (build_asked b)
request_of (code.Deploy d) = ADeploy (deploy_asked d)
