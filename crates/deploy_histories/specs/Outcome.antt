-- What a deployment leaves: the desired state that its answers are of, and what is held after it (Microsoft Learn,
-- "Azure Resource Manager deployment modes").
use Rattle.std.specs.Prelude.{◌≡◌, ℕ, Bool, false, List, [], ◌∷◌, Option, Some, None}
use Rattle.std.specs.Prelude.{option_and_then, slice_get, if◌then◌else◌}
use Rattle.arm_value.specs.Json.{Json, text}
use Rattle.arm_value.specs.Look.{fold}
use Rattle.arm_ids.specs.Held as held
use Rattle.arm_ids.specs.Held.{HeldResource, IsInOrder, HaveKeys}
use Rattle.arm_ids.specs.Id.{folded_text, text_of}
use Rattle.arm_ids.specs.declared.id.Place.{Place}
use Rattle.arm_ids.specs.declared.id.ResourceId.{ResourceId}
use Rattle.provider_trait.specs.declared.act.Act.{Act}
use Rattle.provider_trait.specs.declared.act.Act.TheVariants.{Put, Delete}
use Rattle.provider_trait.specs.declared.answer.Answer.{Answer}
use Rattle.provider_trait.specs.declared.answer.Answer.TheVariants.{Stored, Gone}
use Rattle.template_parts.specs.declared.mode.Mode.{Mode}
use Rattle.template_parts.specs.declared.mode.Mode.TheVariants.{Incremental, Complete}
use Rattle.deploy_cells.specs.Cells.{Step, Position, World, name, state}
use Rattle.arm_env.specs.Find.{id_key}
use Rattle.deploy_cells.specs.Puts.{Kind, IsPut, body_in, id_at, key_at, MayStore}
use Rattle.plan_cells.specs.Meaning.{Deployment, bodies}
use Rattle.plan_cells.specs.Desired.{kinds}
use Rattle.plan_cells.specs.Start.{start_world}
use Rattle.plan_cells.specs.Tasks.{Task, enter, leave, put, delete, is_of_group}
use Rattle.plan_cells.specs.Children.{Has}
use Rattle.deploy_histories.specs.Planned.{Planned}
use Rattle.deploy_histories.specs.Events as event
use Rattle.deploy_histories.specs.Events.{Event, is_begun, Progress, after}
use Rattle.deploy_histories.specs.Answers.{Noted}

-- ---- what a provider is asked, and may answer

-- the id of what a task is for, as it is spelled, and the version of its type, which is empty for a deletion
pub record Target : Type 0 where
  pub act : Act
  pub id : List ℕ
  pub api : List ℕ

abbrev pub put_target : Place → Option Kind → Option Json → Option Target
put_target place (Some k) (Some (text n)) =
    Some (record { act = Put; id = text_of (id_at place k.type n); api = k.api })
put_target place _ _ = None

abbrev pub delete_target : Option HeldResource → Option Target
delete_target None = None
delete_target (Some h) = Some (record { act = Delete; id = h.id; api = [] })

-- what a put or a deletion is for; the entry of a deletion is that of the opening
abbrev pub target : Planned → Task → Option Target
target x (put p s) =
    put_target x.deployment.place (kinds x.deployment p s.resource) (start_world x.known (name p s))
target x (delete k) = delete_target (held.find (folded_text k) x.held)
target x (enter p) = None
target x (leave p) = None

abbrev pub target_of : Planned → ℕ → Option Target
target_of x u = option_and_then (target x) (slice_get x.tasks u)

-- which answers providers may give to an act on an id with a version and a body
abbrev pub MayAnswer : Type 1
MayAnswer = Act → List ℕ → List ℕ → Json → Answer → Type 0

-- which states they may store
abbrev pub stores_by : MayAnswer → MayStore
stores_by may id api body j = may Put id api body (Stored j)

-- an answer that a provider may give to this body; nothing is asked of one without a target
abbrev pub IsGivenTo : MayAnswer → Option Target → Json → Answer → Type 0
IsGivenTo may None body a = Unit {0}
IsGivenTo may (Some g) body a = may g.act g.id g.api body a

-- a provider may have given the answer to the open Begin of its task
abbrev pub IsGiven : MayAnswer → Planned → Progress → Event → Type 0
IsGiven may x p (event.answer u a) = (worker : ℕ) (body : Json) → p.status u ≡ is_begun worker body
    → IsGivenTo may (target_of x u) body a
IsGiven may x p _ = Unit {0}

-- and so each answer of these events
abbrev pub AreGiven : MayAnswer → Planned → Progress → List Event → Type 0
AreGiven may x p [] = Unit {0}
AreGiven may x p (e ∷ es) = IsGiven may x p e × AreGiven may x (after e p) es

-- ---- the desired state that answers are of

-- an instance that is put in a world has this body and this state
pub record IsPutAs (x : Planned) (w : World) (p : Position) (s : Step) (body stored : Json) : Type 0 where
  pub kind : Kind
  pub title : List ℕ
  pub is_put : IsPut (kinds x.deployment) w p s kind title
  pub has_body : body_in w (bodies x.deployment p s) ≡ Some body
  pub has_state : w (state (key_at x.deployment.place kind.type title)) ≡ Some stored

-- the answer says that the instance was put, with its body and its state
pub record IsStoredAs (x : Planned) (w : World) (p : Position) (s : Step) (n : Noted) : Type 0 where
  pub is_task : slice_get x.tasks n.task ≡ Some (put p s)
  pub stored : Json
  pub is_stored : n.answer ≡ Stored stored
  pub is_put_as : IsPutAs x w p s n.body stored

-- the resources that a world includes, with their bodies and states, are those of the stored answers
pub record BelongsTo (x : Planned) (w : World) (answers : List Noted) : Type 0 where
  pub each_put : (p : Position) (s : Step) (k : Kind) (title : List ℕ) → IsPut (kinds x.deployment) w p s k title
      → (n : Noted) × (Has n answers × IsStoredAs x w p s n)
  pub each_stored : (n : Noted) (j : Json) → Has n answers → n.answer ≡ Stored j
      → (p : Position) × ((s : Step) × IsStoredAs x w p s n)

-- ---- what is held afterwards

-- what was put
abbrev pub resource_put : Place → Kind → List ℕ → Json → Json → HeldResource
resource_put place kind title body stored =
    record { id = text_of (id_at place kind.type title); api = kind.api; body = body; state = stored }

abbrev pub key_in_group : Place → Option ResourceId → Bool
key_in_group place None = false
key_in_group place (Some k) = is_of_group place k

abbrev pub unless_in_group : Place → Option HeldResource → Option HeldResource
unless_in_group place None = None
unless_in_group place (Some h) = if key_in_group place (id_key h.id) then None else Some h

-- complete mode deletes what is held in the group
abbrev pub unless_deleted : Mode → Place → Option HeldResource → Option HeldResource
unless_deleted Incremental place o = o
unless_deleted Complete place o = unless_in_group place o

-- nothing is put in the world under this id
abbrev pub NotPutAs : Deployment → World → List ℕ → Type 0
NotPutAs d w id = (p : Position) (s : Step) (k : Kind) (title : List ℕ) → IsPut (kinds d) w p s k title
    → folded_text (key_at d.place k.type title) ≡ id → ⊥

-- what is held after a deployment to a desired state: what it includes is put in its place; in complete mode no other
-- resource of the group is held; every other is held as before
pub record IsHeldAfter (d : Deployment) (mode : Mode) (before : List HeldResource) (w : World)
    (now : List HeldResource) : Type 0 where
  pub in_order : IsInOrder now
  pub have_keys : HaveKeys now
  pub put_in : (p : Position) (s : Step) (k : Kind) (title : List ℕ) (body stored : Json)
      → IsPut (kinds d) w p s k title → body_in w (bodies d p s) ≡ Some body
      → w (state (key_at d.place k.type title)) ≡ Some stored
      → held.find (folded_text (key_at d.place k.type title)) now ≡ Some (resource_put d.place k title body stored)
  pub others : (id : List ℕ) → NotPutAs d w id
      → held.find id now ≡ unless_deleted mode d.place (held.find id before)

-- a stored answer puts the resource in its place, and what is gone is removed
abbrev pub held_by_answer : Option Target → Json → Answer → List HeldResource → List HeldResource
held_by_answer (Some g) body (Stored j) rs =
    held.put (record { id = g.id; api = g.api; body = body; state = j }) rs
held_by_answer (Some g) body Gone rs = held.without (fold g.id) rs
held_by_answer _ body _ rs = rs

-- what is held after these answers
abbrev pub held_after : Planned → List Noted → List HeldResource → List HeldResource
held_after x [] rs = rs
held_after x (n ∷ ns) rs = held_after x ns (held_by_answer (target_of x n.task) n.body n.answer rs)
