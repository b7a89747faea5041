-- The desired states of a template (Microsoft Learn, "Understand the structure and syntax of ARM templates").
use Rattle.std.specs.Prelude.{◌≡◌, ℕ, Bool, true, false, List, ◌∷◌, Option, Some, None, option_map, is_some}
use Rattle.template_parameters.specs.Json.{Json, bool}
use Rattle.deploy_cells.specs.Id.{folded_text}
use Rattle.deploy_cells.specs.Held.{HeldResource, find}
use Rattle.deploy_cells.specs.ResourceId.{ResourceId}
use Rattle.reading.specs.World.{value_in}
use Rattle.deploy_cells.specs.Cells.{Step, Position, Cell, parameter, variable, offered, output, count, included, name, deployments, state, World, is_admitted}
use Rattle.deploy_cells.specs.Guarded.{Reads}
use Rattle.deploy_cells.specs.Puts.{Kind, Kinds, Desired, IsDesired, HaveBodies, ResourcesDiffer, DeploymentsDiffer, OthersAreHeld}
use Rattle.plan_cells.specs.Resources.{Listed, Nested, nested_in}
use Rattle.plan_cells.specs.Scopes.{resource_of, nested_of}
use Rattle.plan_cells.specs.Meaning.{Deployment, meaning, bodies, raw, rule}

abbrev pub kind_of : Listed → Kind
kind_of r = record { type = r.type; api = r.declaration.api_version; is_deployment = is_some (nested_in r.content) }

abbrev pub kinds : Deployment → Kinds
kinds d p r = option_map kind_of (resource_of d.template p r)

-- the state of what is held at a key
abbrev pub held_state : List HeldResource → ResourceId → Option Json
held_state held k = option_map (λ r. r.state) (find (folded_text k) held)

abbrev pub desired : Deployment → List HeldResource → Desired
desired d held = record {
  meaning = meaning d;
  kinds = kinds d;
  bodies = bodies d;
  place = d.place;
  held = held_state held;
}

-- the world is a desired state of the template, but for what providers may answer
abbrev pub Satisfies : Deployment → List HeldResource → World → Type 0
Satisfies d held w = IsDesired (desired d held) w

-- a cell has the value that its reading has in the world, and this meets the cell's rule
pub record HasValue (d : Deployment) (w : World) (c : Cell) (r : Reads Json) : Type 0 where
  pub value : Json
  pub is_read : value_in w r ≡ Some value
  pub meets : rule d c value ≡ true
  pub has : w c ≡ Some value

-- the cell has its value, where the template has it and its parent admits it
abbrev pub IsValued : Deployment → World → Cell → Type 0
IsValued d w c = (r : Reads Json) → raw d c ≡ Some r → is_admitted w c ≡ true → HasValue d w c r

abbrev pub is_state : Cell → Bool
is_state (state k) = true
is_state _ = false

-- a nested deployment that is included has a scope
abbrev pub HasScope : Deployment → World → Position → Step → Type 0
HasScope d w p s = (n : Nested) → nested_of d.template p s ≡ Some n → w (included p s) ≡ Some (bool true)
    → (v : Json) × (w (deployments (s ∷ p)) ≡ Some v)

-- what a desired state of a template is, part by part
pub record HasParts (d : Deployment) (held : List HeldResource) (w : World) : Type 0 where
  -- each parameter of the root is the value that is given, else that of its default, and meets its rule; each of an
  -- inner scope is the value that is given around it, else that of its default, and meets its rule
  pub parameters : (p : Position) (x : List ℕ) → IsValued d w (parameter p x)
  -- each variable of the root and of an inner scope has the value of its text
  pub variables : (p : Position) (x : List ℕ) → IsValued d w (variable p x)
  -- each resource has one instance for each index below its count, which is from 0 to 800
  pub counts : (p : Position) (r : ℕ) → IsValued d w (count p r)
  -- the condition of each instance is true or false, and a key can be formed of its name
  pub conditions : (p : Position) (s : Step) → IsValued d w (included p s)
  pub names : (p : Position) (s : Step) → IsValued d w (name p s)
  -- the body of each included resource is the value of its members
  pub have_bodies : HaveBodies (kinds d) (bodies d) w
  -- each included nested deployment has a scope
  pub scopes : (p : Position) (s : Step) → HasScope d w p s
  pub deployments_listed : (p : Position) → IsValued d w (deployments p)
  -- each output whose condition is true has the value of its text, which is of its type
  pub outputs_offered : (p : Position) (x : List ℕ) → IsValued d w (offered p x)
  pub outputs : (p : Position) (x : List ℕ) → IsValued d w (output p x)
  -- the keys of included resources differ, and those of included nested deployments of one scope
  pub resources_differ : ResourcesDiffer d.place (kinds d) w
  pub deployments_differ : DeploymentsDiffer d.place (kinds d) w
  -- the state at a key at which nothing is put is the one that is held
  pub others_are_held : OthersAreHeld (held_state held) d.place (kinds d) w
  -- nothing else is there
  pub undeclared : (c : Cell) → raw d c ≡ None → is_state c ≡ false → w c ≡ None
  pub not_admitted : (c : Cell) → is_admitted w c ≡ false → w c ≡ None
