-- The tasks of a deployment, in their order.
use Rattle.std.specs.Prelude.{ℕ, zero, suc, ◌+◌, ◌&&◌, not, bytes_eq, Bool, List, [], ◌∷◌, ◌++◌}
use Rattle.std.specs.Prelude.{Option, Some, None, if◌then◌else◌}
use Rattle.std.specs.List.{list_any}
use Rattle.template_parameters.specs.Json.{Json, text}
use Rattle.template_parameters.specs.Look.{fold}
use Rattle.deploy_cells.specs.Held.{HeldResource}
use Rattle.deploy_cells.specs.Place.{Place}
use Rattle.deploy_cells.specs.ResourceId.{ResourceId}
use Rattle.arm_eval.specs.Find.{id_key}
use Rattle.reading.specs.Reading.{done, pure, read, continued}
use Rattle.template_parameters.specs.Declaration.{Declaration}
use Rattle.template_parameters.specs.Mode.{Mode}
use Rattle.template_parameters.specs.Mode.TheVariants.{Incremental, Complete}
use Rattle.template_parameters.specs.Tree.{TemplateTree, template, ResourceTree, resource, BodyTree, body_members, deployment, Trees, no_resources, a_resource}
use Rattle.deploy_cells.specs.Cells.{Step, step, Position, count, included, name, copies}
use Rattle.deploy_cells.specs.Guarded.{Reads}
use Rattle.deploy_cells.specs.Puts.{Kind, key_at}
use Rattle.deploy_cells.specs.Same.{same_id}
use Rattle.plan_cells.specs.Resources.{tree_count}
use Rattle.plan_cells.specs.Meaning.{Deployment}
use Rattle.plan_cells.specs.Desired.{kinds}
use Rattle.template_parameters.specs.Kinds.{is_true}

pub data Task : Type 0 where
  -- a scope is entered, or left
  enter : Position → Task
  leave : Position → Task
  -- an instance is put
  put : Position → Step → Task
  -- what is held at a key is deleted
  delete : ResourceId → Task

abbrev pub both_lists : {A : Type 0} → Reads (List A) → Reads (List A) → Reads (List A)
both_lists r s = continued r (λ xs. continued s (λ ys. pure (xs ++ ys)))

abbrev pub where_included : Json → Reads (List Task) → Reads (List Task)
where_included v r = if is_true (Some v) then r else pure []

-- the tasks of an instance, where it is included
abbrev pub instance_tasks : Position → Step → (Step → Reads (List Task)) → Reads (List Task)
instance_tasks p s f = continued (read (included p s)) (λ v. where_included v (f s))

-- of n instances of a resource from index i on
abbrev pub instances_tasks : Position → ℕ → (Step → Reads (List Task)) → ℕ → ℕ → Reads (List Task)
instances_tasks p r f i zero = pure []
instances_tasks p r f i (suc n) = both_lists (instance_tasks p (step r i) f) (instances_tasks p r f (suc i) n)

abbrev pub all_instances : Position → ℕ → (Step → Reads (List Task)) → Reads (List Task)
all_instances p r f = continued (read (count p r)) (λ v. instances_tasks p r f 0 (copies (Some v)))

abbrev pub unless_existing : Declaration → Reads (List Task) → Reads (List Task)
unless_existing d r = if d.existing then pure [] else r

-- the tasks between its entry and its leave
abbrev pub scope_tasks : Position → Reads (List Task) → Reads (List Task)
scope_tasks p r = continued r (λ ts. pure (enter p ∷ (ts ++ leave p ∷ [])))

abbrev mutual
  -- of a scope: its entry, the tasks of its instances in the order of resources and by index, and its leave
  pub template_tasks : Position → TemplateTree → Reads (List Task)
  template_tasks p (template h rs) = scope_tasks p (trees_tasks p 0 rs)

  -- of resources and their children, where the first has the number r
  pub trees_tasks : Position → ℕ → Trees → Reads (List Task)
  trees_tasks p r no_resources = pure []
  trees_tasks p r (a_resource x xs) = both_lists (tree_tasks p r x) (trees_tasks p (r + tree_count x) xs)

  pub tree_tasks : Position → ℕ → ResourceTree → Reads (List Task)
  tree_tasks p r (resource d b xs) =
      both_lists (unless_existing d (all_instances p r (λ s. body_tasks p s b))) (trees_tasks p (suc r) xs)

  -- of an included instance
  pub body_tasks : Position → Step → BodyTree → Reads (List Task)
  body_tasks p s (body_members ms) = pure (put p s ∷ [])
  body_tasks p s (deployment sc ps t) = template_tasks (s ∷ p) t

abbrev pub key_by : Place → Option Kind → Json → Option ResourceId
key_by place (Some k) (text n) = Some (key_at place k.type n)
key_by place _ _ = None

-- the keys at which these tasks put
abbrev pub put_keys : Deployment → List Task → Reads (List ResourceId)
put_keys d [] = pure []
put_keys d (put p s ∷ ts) =
    continued (read (name p s)) (λ j. continued (done (key_by d.place (kinds d p s.resource) j)) (λ k.
    continued (put_keys d ts) (λ ks. pure (k ∷ ks))))
put_keys d (enter p ∷ ts) = put_keys d ts
put_keys d (leave p ∷ ts) = put_keys d ts
put_keys d (delete k ∷ ts) = put_keys d ts

-- whether the key is in the group of the place
abbrev pub is_of_group : Place → ResourceId → Bool
is_of_group place k = bytes_eq (fold place.subscription) k.subscription && bytes_eq (fold place.group) k.group

-- whether what is held at the key is deleted: it is of the group, and nothing is put there
abbrev pub is_deleted : Place → List ResourceId → ResourceId → Bool
is_deleted place puts k = is_of_group place k && not (list_any (same_id k) puts)

abbrev pub delete_by : Place → List ResourceId → Option ResourceId → List Task
delete_by place puts None = []
delete_by place puts (Some k) = if is_deleted place puts k then delete k ∷ [] else []

-- the deletes of what is held, in its order, which is that of the bytes of folded ids
abbrev pub deletes : Place → List ResourceId → List HeldResource → List Task
deletes place puts [] = []
deletes place puts (h ∷ hs) = delete_by place puts (id_key h.id) ++ deletes place puts hs

abbrev pub deletes_in : Mode → Place → List ResourceId → List HeldResource → List Task
deletes_in Incremental place puts held = []
deletes_in Complete place puts held = deletes place puts held

-- all tasks, and the keys of the puts among them
pub record Work : Type 0 where
  pub tasks : List Task
  pub keys : List ResourceId

abbrev pub work_of : Mode → Place → List HeldResource → List Task → List ResourceId → Work
work_of mode place held ts ks = record { tasks = ts ++ deletes_in mode place ks held; keys = ks }

unfoldable pub work : Deployment → Mode → List HeldResource → Reads Work
work d mode held =
    continued (template_tasks [] d.template) (λ ts. continued (put_keys d ts) (λ ks.
    pure (work_of mode d.place held ts ks)))
