-- Tasks by tags: a task has some, and asks for others, so that it needs exactly the tasks that have a tag for which it
-- asks. So needs are found by looking tags up, and no task is compared with each other one.
use Rattle.std.specs.Prelude.{ℕ, suc, ◌/◌, nat_eq, ◌&&◌, Bool, true, false, List, [], ◌∷◌, ◌++◌, Option, Some, None}
use Rattle.std.specs.List.{list_any}
use Rattle.arm_ids.specs.declared.id.ResourceId.{ResourceId}
use Rattle.template_parts.specs.declared.looping.Batches.{Batches}
use Rattle.template_parts.specs.declared.looping.Batches.TheVariants.{Parallel, Serial}
use Rattle.template_parts.specs.declared.looping.ResourceCopy.{ResourceCopy}
use Rattle.deploy_cells.specs.Cells.{Step, Position}
use Rattle.deploy_cells.specs.Same.{same_id, same_position}
use Rattle.plan_cells.specs.Scopes.{resource_of}
use Rattle.plan_cells.specs.Meaning.{Deployment}
use Rattle.plan_cells.specs.Tasks.{Task, enter, leave, delete}
use Rattle.plan_cells.specs.Needs.{Instance, started, ended, scope_of, copy_of}

pub data Tag : Type 0 where
  -- it enters the scope
  entry : Position → Tag
  -- it is a task of the scope
  inside : Position → Tag
  -- it ends an instance of a serial loop, after which this batch may begin
  before : Position → ℕ → ℕ → Tag
  -- it leaves the root
  root_left : Tag
  -- it deletes a child of the resource at the key
  child_of : ResourceId → Tag

abbrev pub same_tag : Tag → Tag → Bool
same_tag (entry p) (entry q) = same_position q p
same_tag (inside p) (inside q) = same_position p q
same_tag (before p r n) (before q s m) = same_position p q && (nat_eq r s && nat_eq n m)
same_tag root_left root_left = true
same_tag (child_of k) (child_of l) = same_id k l
same_tag _ _ = false

-- whether one of the first is among the second
abbrev pub shares : List Tag → List Tag → Bool
shares asks ts = list_any (λ a. list_any (same_tag a) ts) asks

abbrev pub tag_of : (Position → Tag) → Option Position → List Tag
tag_of f None = []
tag_of f (Some p) = f p ∷ []

-- by the number of the batch of an instance in a serial loop
abbrev pub by_batch : (ℕ → ℕ) → Position → Step → Batches → List Tag
by_batch f p s Parallel = []
by_batch f p s (Serial size) = before p s.resource (f (s.copy / size)) ∷ []

abbrev pub by_copy : (ℕ → ℕ) → Position → Step → Option ResourceCopy → List Tag
by_copy f p s None = []
by_copy f p s (Some c) = by_batch f p s c.batches

abbrev pub by_instance : Deployment → (ℕ → ℕ) → Option Instance → List Tag
by_instance d f None = []
by_instance d f (Some i) = by_copy f i.0 i.1 (copy_of d (resource_of d.template i.0 i.1.resource))

-- all but the last
abbrev pub first_ones : List ℕ → List (List ℕ) → List (List ℕ)
first_ones x [] = []
first_ones x (y ∷ ys) = x ∷ first_ones y ys

abbrev pub parent_by : ResourceId → List (List ℕ) → List (List ℕ) → List Tag
parent_by k (x ∷ xs) (y ∷ ys) = child_of (record k { types = first_ones x xs; names = first_ones y ys }) ∷ []
parent_by k _ _ = []

-- what a task enters, leaves and deletes
abbrev pub entry_tags : Task → List Tag
entry_tags (enter p) = entry p ∷ []
entry_tags _ = []

abbrev pub delete_tags : Task → List Tag
delete_tags (leave []) = root_left ∷ []
delete_tags (delete l) = parent_by l l.types l.names
delete_tags _ = []

abbrev pub leave_asks : Task → List Tag
leave_asks (leave p) = inside p ∷ entry p ∷ []
leave_asks _ = []

abbrev pub delete_asks : Task → List Tag
delete_asks (delete k) = root_left ∷ child_of k ∷ []
delete_asks _ = []

-- the tags that a task has
abbrev pub tags_of : Deployment → Task → List Tag
tags_of d v = entry_tags v ++ (tag_of inside (scope_of d v) ++ (by_instance d (λ n. suc n) (ended v) ++ delete_tags v))

-- the tags for which a task asks
abbrev pub asks_of : Deployment → Task → List Tag
asks_of d u = tag_of entry (scope_of d u) ++ (leave_asks u ++ (by_instance d (λ n. n) (started u) ++ delete_asks u))
