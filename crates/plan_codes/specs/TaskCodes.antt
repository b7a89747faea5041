-- The tags of tasks and those for which they ask, as lists of numbers, with the names of instances among them.
use Rattle.std.specs.Prelude.{◌≡◌, ℕ, List, [], ◌∷◌, ◌++◌, map, Option, Some, None}
use Rattle.arm_value.specs.Json.{Json, text}
use Rattle.plan_tags.specs.Trees.{tree_value}
use Rattle.reading.specs.Knowledge.{Known, known, value, told}
use Rattle.deploy_cells.specs.Cells.{Step, Position, name}
use Rattle.plan_tags.specs.Known.{Table}
use Rattle.plan_tags.specs.Resources.{Listed}
use Rattle.plan_tags.specs.Scopes.{template_at, resource_of}
use Rattle.plan_tags.specs.Sites.{reading_at, body_site, form_at}
use Rattle.plan_tags.specs.Meaning.{Deployment}
use Rattle.plan_tags.specs.Tasks.{Task, enter, leave, put, delete}
use Rattle.plan_tags.specs.Needs.{Instance, started, ended}
use Rattle.plan_tags.specs.Tags.{tags_of, asks_of}
use Rattle.plan_codes.specs.Codes.{code}
use Rattle.plan_codes.specs.NameCodes.{names_of, values_ask}

-- the elements of `dependsOn` of an instance have these values
abbrev pub AreRead : Deployment → Table → Position → Step → List Json → List Json → Type 0
AreRead d q p s [] [] = Unit {0}
AreRead d q p s (j ∷ js) (v ∷ vs) =
    (told q (reading_at d.template d.place (body_site d.template p s) (tree_value j)) ≡ value v)
    × AreRead d q p s js vs
AreRead d q p s _ _ = ⊥

-- an instance is of a resource, and its name is known
pub record IsNamed (d : Deployment) (q : Table) (i : Instance) : Type 0 where
  pub listed : Listed
  pub title : List ℕ
  pub is_listed : resource_of d.template i.0 i.1.resource ≡ Some listed
  pub has_name : q (name i.0 i.1) ≡ known (text title)

-- an instance is of a resource, and the elements of its `dependsOn` have these values
pub record IsDepending (d : Deployment) (q : Table) (i : Instance) (vs : List Json) : Type 0 where
  pub listed : Listed
  pub is_listed : resource_of d.template i.0 i.1.resource ≡ Some listed
  pub are_read : AreRead d q i.0 i.1 listed.declaration.depends_on vs

abbrev pub AreDepending : Deployment → Table → Option Instance → List Json → Type 0
AreDepending d q None vs = vs ≡ []
AreDepending d q (Some i) vs = IsDepending d q i vs

abbrev pub MayBeNamed : Deployment → Table → Option Instance → Type 0
MayBeNamed d q None = Unit {0}
MayBeNamed d q (Some i) = IsNamed d q i

-- the positions of the scopes that a task speaks of
abbrev pub IsTaskIn : (Position → Type 0) → Task → Type 0
IsTaskIn P (enter []) = P []
IsTaskIn P (enter (s ∷ p)) = P (s ∷ p) × P p
IsTaskIn P (leave []) = P []
IsTaskIn P (leave (s ∷ p)) = P (s ∷ p) × P p
IsTaskIn P (put p s) = P p
IsTaskIn P (delete k) = Unit {0}

abbrev pub title_in : Known Json → List ℕ
title_in (known (text n)) = n
title_in _ = []

abbrev pub listed_names : Deployment → (Position → ℕ) → Position → Step → List ℕ → Option Listed → List (List ℕ)
listed_names d number p s n None = []
listed_names d number p s n (Some r) =
    names_of (number p) (form_at (template_at d.template p)) d.place r s.copy n

-- the names of the instance that a task ends
abbrev pub instance_names : Deployment → (Position → ℕ) → Table → Option Instance → List (List ℕ)
instance_names d number q None = []
instance_names d number q (Some i) =
    listed_names d number i.0 i.1 (title_in (q (name i.0 i.1))) (resource_of d.template i.0 i.1.resource)

-- those for which the values of the elements of an instance ask
abbrev pub instance_asks : Deployment → (Position → ℕ) → Option Instance → List Json → List (List ℕ)
instance_asks d number None vs = []
instance_asks d number (Some i) vs =
    values_ask (number i.0) (form_at (template_at d.template i.0)) (template_at d.template i.0) vs

-- all tags of a task, where scopes have numbers and names are known
abbrev pub task_tags : Deployment → (Position → ℕ) → Table → Task → List (List ℕ)
task_tags d number q v = map (code number) (tags_of d v) ++ instance_names d number q (ended v)

-- all for which a task asks, where the elements of `dependsOn` of what it starts have these values
abbrev pub task_asks : Deployment → (Position → ℕ) → Task → List Json → List (List ℕ)
task_asks d number u vs = map (code number) (asks_of d u) ++ instance_asks d number (started u) vs
