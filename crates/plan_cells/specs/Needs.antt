-- Which task needs which, by what is known at the start.
use Rattle.std.specs.Prelude.{ℕ, suc, ◌/◌, nat_eq, ◌&&◌, ◌||◌, bytes_eq, Bool, true, false, List, []}
use Rattle.std.specs.Prelude.{◌∷◌, ◌++◌, length, is_some, Option, Some, None, if◌then◌else◌}
use Rattle.std.specs.List.{list_any}
use Rattle.template_parameters.specs.Json.{Json, text}
use Rattle.template_parameters.specs.Look.{is_same_folded}
use Rattle.deploy_cells.specs.Parent.{begins}
use Rattle.deploy_cells.specs.Place.{Place}
use Rattle.deploy_cells.specs.ResourceId.{ResourceId}
use Rattle.arm_eval.specs.Find.{id_key, names_resource}
use Rattle.arm_eval.specs.Titles.{element}
use Rattle.arm_eval.specs.Trees.{tree_value}
use Rattle.reading.specs.Reading.{pure, read, continued}
use Rattle.template_parameters.specs.Batches.{Batches}
use Rattle.template_parameters.specs.Batches.TheVariants.{Parallel, Serial}
use Rattle.template_parameters.specs.ResourceCopy.{ResourceCopy}
use Rattle.template_parameters.specs.Form.{Form}
use Rattle.template_parameters.specs.Form.TheVariants.{One, Two}
use Rattle.template_parameters.specs.Tree.{TemplateTree}
use Rattle.deploy_cells.specs.Cells.{Step, Position, name}
use Rattle.deploy_cells.specs.Guarded.{Reads}
use Rattle.deploy_cells.specs.Puts.{key_at}
use Rattle.deploy_cells.specs.Same.{same_id, same_position}
use Rattle.plan_cells.specs.Resources.{Listed, resources_in}
use Rattle.plan_cells.specs.Scopes.{template_at, resource_of}
use Rattle.plan_cells.specs.Sites.{reading_at, body_site, form_at}
use Rattle.plan_cells.specs.Meaning.{Deployment}
use Rattle.plan_cells.specs.Tasks.{Task, enter, leave, put, delete}

-- an instance of a scope
abbrev pub Instance : Type 0
Instance = Position × Step

-- the instance that a task starts
abbrev pub started : Task → Option Instance
started (put p s) = Some (p, s)
started (enter (s ∷ p)) = Some (p, s)
started _ = None

-- the instance that a task ends
abbrev pub ended : Task → Option Instance
ended (put p s) = Some (p, s)
ended (leave (s ∷ p)) = Some (p, s)
ended _ = None

-- whether the resource has a loop of the name
abbrev pub has_loop : List ℕ → Listed → Bool
has_loop t r = loop_named r.declaration.copy
  where
    loop_named : Option ResourceCopy → Bool
    loop_named None = false
    loop_named (Some c) = is_same_folded t c.name

-- whether a loop of the template has the name
abbrev pub is_loop : List ℕ → Option TemplateTree → Bool
is_loop t None = false
is_loop t (Some u) = list_any (has_loop t) (resources_in u)

-- whether the text is the id of the resource of this type and name
abbrev pub is_id_of : Place → List ℕ → Listed → List ℕ → Bool
is_id_of place t r n = is_key (id_key t)
  where
    is_key : Option ResourceId → Bool
    is_key None = false
    is_key (Some k) = same_id k (key_at place r.type n)

-- or its type and name, or its full name
abbrev pub is_of_name : Place → List ℕ → Listed → List ℕ → Bool
is_of_name place t r n =
    is_id_of place t r n || names_resource t (record { spelling = r.type ++ 47 ∷ n; key = key_at place r.type n })

abbrev pub with_text : (List ℕ → Bool) → Json → Bool
with_text f (text n) = f n
with_text f _ = false

-- whether a text names an instance of a resource in the first form: its loop, or else one of its id, its type and
-- name, or its full name
abbrev pub names_in_one : Place → Bool → List ℕ → Listed → Json → Bool
names_in_one place is_loops t r j = if is_loops then has_loop t r else with_text (is_of_name place t r) j

abbrev pub is_symbol : List ℕ → Option (List ℕ) → Bool
is_symbol t None = false
is_symbol t (Some x) = bytes_eq t x

abbrev pub is_element : List ℕ → ℕ → Bool → Option (List ℕ) → Bool
is_element t i looped None = false
is_element t i looped (Some x) = looped && bytes_eq t (element x i)

-- in the second form: by its symbolic name, all instances or one, or by its id
abbrev pub names_in_two : Place → List ℕ → Listed → ℕ → Json → Bool
names_in_two place t r i j =
    is_symbol t r.declaration.symbol
    || (is_element t i (is_some r.declaration.copy) r.declaration.symbol || with_text (is_id_of place t r) j)

abbrev pub names_by_form : Form → Place → Bool → List ℕ → Listed → ℕ → Json → Bool
names_by_form One place is_loops t r i j = names_in_one place is_loops t r j
names_by_form Two place is_loops t r i j = names_in_two place t r i j

-- a value that is no text names nothing
abbrev pub value_names : Form → Place → Option TemplateTree → Json → Listed → ℕ → Json → Bool
value_names form place t v r i j = with_text (λ x. names_by_form form place (is_loop x t) x r i j) v

module _ (d : Deployment) where
  -- whether the value of an element of `dependsOn` of an instance names another instance
  abbrev pub element_names : Position → Step → Json → Step → Listed → Reads Bool
  element_names p s j other r =
      continued (reading_at d.template d.place (body_site d.template p s) (tree_value j)) (λ v.
      continued (read (name p other)) (λ n.
      pure (value_names (form_at (template_at d.template p)) d.place (template_at d.template p) v r other.copy n)))

  abbrev pub or_else : Bool → Reads Bool → Reads Bool
  or_else true r = pure true
  or_else false r = r

  -- whether one of these elements does
  abbrev pub elements_name : Position → Step → List Json → Step → Listed → Reads Bool
  elements_name p s [] other r = pure false
  elements_name p s (j ∷ js) other r =
      continued (element_names p s j other r) (λ b. or_else b (elements_name p s js other r))

  abbrev pub depends_by : Position → Step → Step → Option Listed → Option Listed → Reads Bool
  depends_by p s other (Some r) (Some x) = elements_name p s r.declaration.depends_on other x
  depends_by p s other _ _ = pure false

  -- whether an instance depends on another one of its scope
  abbrev pub depends : Position → Step → Step → Reads Bool
  depends p s other =
      depends_by p s other (resource_of d.template p s.resource) (resource_of d.template p other.resource)

  abbrev pub depends_on : Option Instance → Option Instance → Reads Bool
  depends_on (Some i) (Some j) = if same_position i.0 j.0 then depends i.0 i.1 j.1 else pure false
  depends_on _ _ = pure false

  -- the scope that a task is in
  abbrev pub scope_of : Task → Option Position
  scope_of (put p s) = Some p
  scope_of (enter (s ∷ p)) = Some p
  scope_of (leave (s ∷ p)) = Some p
  scope_of _ = None

  abbrev pub is_position : Position → Option Position → Bool
  is_position p None = false
  is_position p (Some q) = same_position p q

  -- one enters the scope that the other is in
  abbrev pub is_entered_by : Task → Task → Bool
  is_entered_by u (enter p) = is_position p (scope_of u)
  is_entered_by u _ = false

  abbrev pub is_entry_of : Position → Task → Bool
  is_entry_of p (enter q) = same_position p q
  is_entry_of p _ = false

  -- one leaves the scope that the other is in, or that it enters
  abbrev pub leaves : Task → Task → Bool
  leaves (leave p) v = is_position p (scope_of v) || is_entry_of p v
  leaves _ v = false

  abbrev pub is_batch_before : Batches → ℕ → ℕ → Bool
  is_batch_before Parallel i j = false
  is_batch_before (Serial size) i j = nat_eq (i / size) (suc (j / size))

  abbrev pub is_before : Option ResourceCopy → ℕ → ℕ → Bool
  is_before None i j = false
  is_before (Some c) i j = is_batch_before c.batches i j

  abbrev pub copy_of : Option Listed → Option ResourceCopy
  copy_of None = None
  copy_of (Some r) = r.declaration.copy

  -- of one serial loop, the other is of the batch before
  abbrev pub follows_batch : Option Instance → Option Instance → Bool
  follows_batch (Some i) (Some j) =
      same_position i.0 j.0 && (nat_eq i.1.resource j.1.resource
      && is_before (copy_of (resource_of d.template i.0 i.1.resource)) i.1.copy j.1.copy)
  follows_batch _ _ = false

  -- whether the second key is that of a child of the first
  abbrev pub is_child : ResourceId → ResourceId → Bool
  is_child k child =
      begins k child && (nat_eq (length child.types) (suc (length k.types))
      && nat_eq (length child.names) (suc (length k.names)))

  -- a delete comes after the root was left, and after the deletes of children
  abbrev pub deletes_after : Task → Task → Bool
  deletes_after (delete k) (leave []) = true
  deletes_after (delete k) (delete l) = is_child k l
  deletes_after _ _ = false

  -- the needs that need no reading
  abbrev pub needs_by_order : Task → Task → Bool
  needs_by_order u v =
      is_entered_by u v || (leaves u v || (follows_batch (started u) (ended v) || deletes_after u v))

  -- whether the first task needs the second
  unfoldable pub needs : Task → Task → Reads Bool
  needs u v = if needs_by_order u v then pure true else depends_on (started u) (ended v)
