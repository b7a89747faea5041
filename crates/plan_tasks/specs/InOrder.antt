-- The tasks of a deployment in their order, where its counts and conditions are those of a table.
use Rattle.std.specs.Prelude.{ℕ, zero, suc, ◌+◌, Bool, List, [], ◌∷◌, ◌++◌, if◌then◌else◌}
use Rattle.reading.specs.Knowledge.{known_value}
use Rattle.template_tree.specs.Tree.{TemplateTree, template, ResourceTree, resource, BodyTree, body_members}
use Rattle.template_tree.specs.Tree.{deployment, Trees, no_resources, a_resource}
use Rattle.deploy_cells.specs.Cells.{Step, step, Position, count, included, copies}
use Rattle.plan_cells.specs.Known.{Table}
use Rattle.plan_cells.specs.Resources.{Listed, tree_count}
use Rattle.plan_cells.specs.Tasks.{Task, enter, leave, put}
use Rattle.arm_value.specs.Kinds.{is_true}

-- how many instances a resource has
abbrev pub copies_in : Table → Position → ℕ → ℕ
copies_in q p r = copies (known_value (q (count p r)))

-- whether an instance is included
abbrev pub is_in : Table → Position → Step → Bool
is_in q p s = is_true (known_value (q (included p s)))

-- the tasks of n instances of a resource from index i on
abbrev pub instances_in_order : Table → Position → ℕ → (Step → List Task) → ℕ → ℕ → List Task
instances_in_order q p r f i zero = []
instances_in_order q p r f i (suc n) =
    (if is_in q p (step r i) then f (step r i) else []) ++ instances_in_order q p r f (suc i) n

abbrev pub unless : Bool → List Task → List Task
unless b ts = if b then [] else ts

abbrev mutual
  -- of a scope: its entry, the tasks of its instances in the order of resources and by index, and its leave
  pub scope_in_order : Table → Position → TemplateTree → List Task
  scope_in_order q p (template h rs) = enter p ∷ (trees_in_order q p 0 rs ++ leave p ∷ [])

  -- of resources and their children, where the first has the number r
  pub trees_in_order : Table → Position → ℕ → Trees → List Task
  trees_in_order q p r no_resources = []
  trees_in_order q p r (a_resource x xs) = tree_in_order q p r x ++ trees_in_order q p (r + tree_count x) xs

  pub tree_in_order : Table → Position → ℕ → ResourceTree → List Task
  tree_in_order q p r (resource d b xs) =
      unless d.existing (instances_in_order q p r (λ s. body_in_order q p s b) 0 (copies_in q p r))
      ++ trees_in_order q p (suc r) xs

  -- of an instance that is included
  pub body_in_order : Table → Position → Step → BodyTree → List Task
  body_in_order q p s (body_members ms) = put p s ∷ []
  body_in_order q p s (deployment sc ps t) = scope_in_order q (s ∷ p) t

-- of the resource number r
abbrev pub resource_in_order : Table → Position → ℕ → Listed → List Task
resource_in_order q p r x =
    unless x.declaration.existing
    (instances_in_order q p r (λ s. body_in_order q p s x.content) 0 (copies_in q p r))

-- of listed resources, where the first has the number r
abbrev pub listed_in_order : Table → Position → ℕ → List Listed → List Task
listed_in_order q p r [] = []
listed_in_order q p r (x ∷ xs) = resource_in_order q p r x ++ listed_in_order q p (suc r) xs
