-- What bodies say. A member is looked for by `look`, and members that are not named here are not used.
use Rattle.std.specs.Prelude.{◌≡◌, ℕ, List, [], codes, Option, Some, None, Result, Ok, Err, ◌⊎◌, if◌then◌else◌}
use Rattle.serde_json.specs.Written.{compact_text}
use Rattle.arm_value.specs.Json.{Json, null, bool, int, text, array, object}
use Rattle.arm_value.specs.Fault.{Gives}
use Rattle.arm_value.specs.Look.{look, is_same_folded}
use Rattle.arm_value.specs.Reading.{data_of, reading}
use Rattle.arm_value.specs.declared.read.JsonFault.{JsonFault}
use Rattle.arm_value.specs.declared.read.JsonFault.TheVariants as json
use Rattle.lock_rules.specs.Levels.{level_of}
use Rattle.lock_rules.specs.declared.level.Level.{Level}
use Rattle.template_parts.specs.declared.mode.Mode.{Mode}
use Rattle.template_parts.specs.declared.mode.Mode.TheVariants.{Incremental, Complete}
use Rattle.http_routes.specs.declared.places.GroupAt.{GroupAt}
use Rattle.http_routes.specs.declared.places.DeploymentAt.{DeploymentAt}
use Rattle.http_routes.specs.declared.places.LockAt.{LockAt}
use Rattle.http_requests.specs.declared.ask.Ask.{Ask}
use Rattle.http_requests.specs.declared.fault.BodyFault.{BodyFault}
use Rattle.http_requests.specs.declared.fault.BodyFault.TheVariants.{BadBody, OutOfMemory}
use Rattle.http_requests.specs.Asks.{Asked, asked, put_group, deploy, put_lock}
use Rattle.http_requests.specs.Calls.{Called, ready, puts_group, deploys, puts_lock}

-- the text that a value is
abbrev pub text_in : Json → Option (List ℕ)
text_in null = None
text_in (bool b) = None
text_in (int z) = None
text_in (text s) = Some s
text_in (array js) = None
text_in (object ms) = None

abbrev pub text_found : Option Json → Option (List ℕ)
text_found (Some value) = text_in value
text_found None = None

-- the text at this member of the value
abbrev pub text_at : List ℕ → Json → Option (List ℕ)
text_at name body = text_found (look name body)

-- that a group is there, in the location that the body has
abbrev pub group_with : GroupAt → Option (List ℕ) → Option Asked
group_with at (Some location) = Some (put_group at location)
group_with at None = None

abbrev pub group_asked : GroupAt → Json → Option Asked
group_asked at body = group_with at (text_at (codes "location") body)

-- the mode of this word, in letters of any case
abbrev pub mode_of : List ℕ → Option Mode
mode_of word =
    if is_same_folded (codes "Incremental") word then Some Incremental else
    (if is_same_folded (codes "Complete") word then Some Complete else None)

abbrev pub word_mode : Option (List ℕ) → Option Mode
word_mode (Some word) = mode_of word
word_mode None = None

-- the mode of a deployment: `Incremental` where none is given
abbrev pub mode_by : Option Json → Option Mode
mode_by (Some value) = word_mode (text_in value)
mode_by None = Some Incremental

abbrev pub mode_in : Json → Option Mode
mode_in properties = mode_by (look (codes "mode") properties)

-- that a template is deployed, where there are a mode and a template
abbrev pub deployment_with : DeploymentAt → Option Mode → Option Json → Option Json → Option Asked
deployment_with at (Some mode) (Some template) parameters =
    Some (deploy (record {
      subscription = at.subscription;
      group = at.group;
      name = at.name;
      mode = mode;
      template = compact_text (data_of template);
      parameters = parameters;
    }))
deployment_with at (Some mode) None parameters = None
deployment_with at None template parameters = None

abbrev pub deployment_in : DeploymentAt → Json → Option Asked
deployment_in at properties =
    deployment_with at (mode_in properties) (look (codes "template") properties)
    (look (codes "parameters") properties)

abbrev pub deployment_by : DeploymentAt → Option Json → Option Asked
deployment_by at (Some properties) = deployment_in at properties
deployment_by at None = None

abbrev pub deployment_asked : DeploymentAt → Json → Option Asked
deployment_asked at body = deployment_by at (look (codes "properties") body)

-- the level of a lock
abbrev pub level_by : Option (List ℕ) → Option Level
level_by (Some word) = level_of word
level_by None = None

abbrev pub level_in : Json → Option Level
level_in properties = level_by (text_at (codes "level") properties)

-- the notes of a lock: empty where there are none
abbrev pub notes_by : Option Json → Option (List ℕ)
notes_by (Some value) = text_in value
notes_by None = Some []

abbrev pub notes_in : Json → Option (List ℕ)
notes_in properties = notes_by (look (codes "notes") properties)

-- that a lock is set, where there are a level and notes
abbrev pub lock_with : LockAt → Option Level → Option (List ℕ) → Option Asked
lock_with at (Some level) (Some notes) = Some (put_lock at level notes)
lock_with at (Some level) None = None
lock_with at None notes = None

abbrev pub lock_in : LockAt → Json → Option Asked
lock_in at properties = lock_with at (level_in properties) (notes_in properties)

abbrev pub lock_by : LockAt → Option Json → Option Asked
lock_by at (Some properties) = lock_in at properties
lock_by at None = None

abbrev pub lock_asked : LockAt → Json → Option Asked
lock_asked at body = lock_by at (look (codes "properties") body)

-- what a call asks with a body that is this value
abbrev pub asked_with : Called → Json → Option Asked
asked_with (ready a) body = Some a
asked_with (puts_group at) body = group_asked at body
asked_with (deploys at) body = deployment_asked at body
asked_with (puts_lock at) body = lock_asked at body

-- why bytes that give no value are no body
abbrev pub fault_of : JsonFault → BodyFault
fault_of json.NotJson = BadBody
fault_of json.TooDeep = BadBody
fault_of (json.NotWhole path) = BadBody
fault_of json.OutOfMemory = OutOfMemory

-- the bytes spell no JSON value
abbrev pub HasNoJson : List ℕ → Type 0
HasNoJson bytes = (j : Json) → ¬ (Gives (reading bytes) j)

-- the call asks this with a body of these bytes
abbrev pub IsAsk : Called → List ℕ → Asked → Type 0
IsAsk (ready a) body what = what ≡ a
IsAsk call body what = (j : Json) × Gives (reading body) j × (asked_with call j ≡ Some what)

-- these bytes are no body of the call
abbrev pub IsBadBody : Called → List ℕ → Type 0
IsBadBody (ready a) body = ⊥
IsBadBody call body = HasNoJson body ⊎ ((j : Json) × Gives (reading body) j × (asked_with call j ≡ None))

-- what a value asks, unless memory runs out
abbrev pub Asks : Option Asked → Result Ask BodyFault → Type 0
Asks given (Ok ask) = given ≡ Some (asked ask)
Asks given (Err BadBody) = given ≡ None
Asks given (Err OutOfMemory) = Unit {0}

-- what a call asks with a body of these bytes, unless memory runs out
abbrev pub Finishes : Called → List ℕ → Result Ask BodyFault → Type 0
Finishes call body (Ok ask) = IsAsk call body (asked ask)
Finishes call body (Err BadBody) = IsBadBody call body
Finishes call body (Err OutOfMemory) = Unit {0}
