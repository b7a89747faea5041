-- What is asked of a desired state beside what its cells are by others: what is put at each key, that providers may
-- have answered so, and that keys differ.
use Rattle.std.specs.Prelude.{◌≡◌, ℕ, Bool, true, false, List, ◌∷◌, Option, Some, None, if◌then◌else◌}
use Rattle.arm_value.specs.Json.{Json, bool, text}
use Rattle.arm_ids.specs.Id.{resource, is_whole, folded, text_of}
use Rattle.arm_ids.specs.declared.id.Place.{Place}
use Rattle.arm_ids.specs.declared.id.ResourceId.{ResourceId}
use Rattle.deploy_cells.specs.Cells.{Step, Position, World, included, name, state}
use Rattle.reading.specs.World.{value_in}
use Rattle.deploy_cells.specs.Guarded.{Reads, Meaning, IsWorld}

-- what a resource is declared as: its full type, the version of it, and whether it is a nested deployment
pub record Kind : Type 0 where
  pub type : List ℕ
  pub api : List ℕ
  pub is_deployment : Bool

-- what the resource of a number is in the scope at a position
abbrev pub Kinds : Type 0
Kinds = Position → ℕ → Option Kind

-- the id of a type and a name in a place, and the key of that id
abbrev pub id_at : Place → List ℕ → List ℕ → ResourceId
id_at place kind title = resource place.subscription place.group kind title

abbrev pub key_at : Place → List ℕ → List ℕ → ResourceId
key_at place kind title = folded (id_at place kind title)

-- the key, where one can be formed
abbrev pub key_formed : Place → List ℕ → List ℕ → Option ResourceId
key_formed place kind title = if is_whole (id_at place kind title) then Some (key_at place kind title) else None

-- an instance is included, is of this kind, and has this name
pub record IsIncluded (kinds : Kinds) (w : World) (p : Position) (s : Step) (k : Kind) (n : List ℕ) : Type 0 where
  pub is_declared : kinds p s.resource ≡ Some k
  pub has_condition : w (included p s) ≡ Some (bool true)
  pub has_name : w (name p s) ≡ Some (text n)

-- an included instance that is put, and one that is a nested deployment
pub record IsPut (kinds : Kinds) (w : World) (p : Position) (s : Step) (k : Kind) (n : List ℕ) : Type 0 where
  pub is_included : IsIncluded kinds w p s k n
  pub is_resource : k.is_deployment ≡ false

pub record IsNested (kinds : Kinds) (w : World) (p : Position) (s : Step) (k : Kind) (n : List ℕ) : Type 0 where
  pub is_included : IsIncluded kinds w p s k n
  pub is_deployment : k.is_deployment ≡ true

-- the reading of the body of an instance that is put
abbrev pub Bodies : Type 0
Bodies = Position → Step → Option (Reads Json)

abbrev pub body_in : World → Option (Reads Json) → Option Json
body_in w None = None
body_in w (Some r) = value_in w r

-- each instance that is put has a body
abbrev pub HaveBodies : Kinds → Bodies → World → Type 0
HaveBodies kinds bodies w = (p : Position) (s : Step) (k : Kind) (n : List ℕ) → IsPut kinds w p s k n
    → (b : Json) × (body_in w (bodies p s) ≡ Some b)

-- what a provider may answer to the put of an id with a version and a body: a state
abbrev pub MayStore : Type 1
MayStore = List ℕ → List ℕ → Json → Json → Type 0

-- the state at the key of what is put is one that a provider may answer
abbrev pub AreAllowed : MayStore → Place → Kinds → Bodies → World → Type 0
AreAllowed may place kinds bodies w = (p : Position) (s : Step) (k : Kind) (n : List ℕ) (b : Json)
    → IsPut kinds w p s k n → body_in w (bodies p s) ≡ Some b
    → (j : Json) × ((w (state (key_at place k.type n)) ≡ Some j) × may (text_of (id_at place k.type n)) k.api b j)

-- no two instances that are put have one key
abbrev pub ResourcesDiffer : Place → Kinds → World → Type 0
ResourcesDiffer place kinds w = (p q : Position) (s t : Step) (k l : Kind) (m n : List ℕ)
    → IsPut kinds w p s k m → IsPut kinds w q t l n → key_at place k.type m ≡ key_at place l.type n → (s ∷ p) ≡ (t ∷ q)

-- no two nested deployments of one scope have one key
abbrev pub DeploymentsDiffer : Place → Kinds → World → Type 0
DeploymentsDiffer place kinds w = (p : Position) (s t : Step) (k l : Kind) (m n : List ℕ)
    → IsNested kinds w p s k m → IsNested kinds w p t l n → key_at place k.type m ≡ key_at place l.type n → s ≡ t

-- something is put at the key
pub record IsPutAt (place : Place) (kinds : Kinds) (w : World) (key : ResourceId) : Type 0 where
  pub at : Position
  pub instance : Step
  pub kind : Kind
  pub title : List ℕ
  pub is_put : IsPut kinds w at instance kind title
  pub has_key : key_at place kind.type title ≡ key

-- the state at a key at which nothing is put is the one that is held
abbrev pub OthersAreHeld : (ResourceId → Option Json) → Place → Kinds → World → Type 0
OthersAreHeld held place kinds w = (key : ResourceId) → (IsPutAt place kinds w key → ⊥) → w (state key) ≡ held key

-- what is desired: what each cell is by others, the kinds of resources, the bodies of what is put, the place, and the
-- states that are held
pub record Desired : Type 0 where
  pub meaning : Meaning
  pub kinds : Kinds
  pub bodies : Bodies
  pub place : Place
  pub held : ResourceId → Option Json

-- the world is a desired state, but for what providers may answer
pub record IsDesired (d : Desired) (w : World) : Type 0 where
  pub is_world : IsWorld d.meaning w
  pub have_bodies : HaveBodies d.kinds d.bodies w
  pub resources_differ : ResourcesDiffer d.place d.kinds w
  pub deployments_differ : DeploymentsDiffer d.place d.kinds w
  pub others_are_held : OthersAreHeld d.held d.place d.kinds w

-- and providers may have answered so
abbrev pub IsReached : MayStore → Desired → World → Type 0
IsReached may d w = IsDesired d w × AreAllowed may d.place d.kinds d.bodies w
