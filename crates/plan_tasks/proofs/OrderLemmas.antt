-- The tasks of resources in a tree are those of the resources in the list.
use Rattle.std.proofs.Common.{◌≡◌, ℕ, zero, suc, ◌+◌, List, [], ◌∷◌, ◌++◌, length, drop, Option, Some}
use Rattle.std.proofs.Common.{None}
use Rattle.std.proofs.Common.{refl, sym, ap, ◌∙◌, arith, append_assoc}
use Rattle.std.specs.Prelude.{slice_get}
use Rattle.foundation.proofs.Lists.{got_next}
use Rattle.template_tree.specs.Tree.{TemplateTree, template, ResourceTree, resource, Trees, no_resources, a_resource}
use Rattle.deploy_cells.specs.Cells.{Position}
use Rattle.plan_cells.specs.Known.{Table}
use Rattle.plan_cells.specs.Resources.{Above, Listed, tree_count, trees_count, above_by, listed_at, listed_tree}
use Rattle.plan_cells.specs.Resources.{listed_trees}
use Rattle.plan_cells.specs.Resources.{resources_in}
use Rattle.plan_cells.specs.Tasks.{enter, leave}
use Rattle.plan_tasks.specs.InOrder.{scope_in_order, trees_in_order, tree_in_order}
use Rattle.plan_tasks.specs.InOrder.{resource_in_order, listed_in_order}

joined_length : (xs ys : List Listed) → length (xs ++ ys) ≡ length xs + length ys
joined_length [] ys = omega arith
joined_length (x ∷ xs) ys = let e : length (xs ++ ys) ≡ length xs + length ys = joined_length xs ys in omega (arith, e)

-- how long the lists are
mutual
  pub tree_length : (o : Option Above) (n : ℕ) (r : ResourceTree) → length (listed_tree o n r) ≡ tree_count r
  tree_length o n (resource d b rs) = ap suc (trees_length (Some (above_by o n d)) (suc n) rs)

  pub trees_length : (o : Option Above) (n : ℕ) (rs : Trees) → length (listed_trees o n rs) ≡ trees_count rs
  trees_length o n no_resources = refl
  trees_length o n (a_resource r rs) =
      joined_length (listed_tree o n r) (listed_trees o (n + tree_count r) rs)
      ∙ (let a = tree_length o n r in let b = trees_length o (n + tree_count r) rs in omega (arith, a, b))

module _ (q : Table) (p : Position) where
  listed_joined : (r : ℕ) (xs ys : List Listed)
      → listed_in_order q p r (xs ++ ys) ≡ listed_in_order q p r xs ++ listed_in_order q p (r + length xs) ys
  listed_joined r [] ys = ap (λ m. listed_in_order q p m ys) (let e : r ≡ r + 0 = omega arith in e)
  listed_joined r (x ∷ xs) ys =
      ap (λ ts. resource_in_order q p r x ++ ts) (listed_joined (suc r) xs ys)
      ∙ sym (append_assoc (resource_in_order q p r x) (listed_in_order q p (suc r) xs)
      (listed_in_order q p (suc r + length xs) ys))
      ∙ ap (λ m. (resource_in_order q p r x ++ listed_in_order q p (suc r) xs) ++ listed_in_order q p m ys)
      (let e : suc r + length xs ≡ r + suc (length xs) = omega arith in e)

  mutual
    tree_flat : (o : Option Above) (r : ℕ) (x : ResourceTree)
        → listed_in_order q p r (listed_tree o r x) ≡ tree_in_order q p r x
    tree_flat o r (resource d b xs) =
        ap (λ ts. resource_in_order q p r (listed_at o d b) ++ ts) (trees_flat (Some (above_by o r d)) (suc r) xs)

    trees_flat : (o : Option Above) (r : ℕ) (xs : Trees)
        → listed_in_order q p r (listed_trees o r xs) ≡ trees_in_order q p r xs
    trees_flat o r no_resources = refl
    trees_flat o r (a_resource x xs) =
        listed_joined r (listed_tree o r x) (listed_trees o (r + tree_count x) xs)
        ∙ ap (λ m. listed_in_order q p r (listed_tree o r x) ++ listed_in_order q p (r + m)
        (listed_trees o (r + tree_count x) xs)) (tree_length o r x)
        ∙ ap (λ ts. ts ++ listed_in_order q p (r + tree_count x) (listed_trees o (r + tree_count x) xs))
        (tree_flat o r x)
        ∙ ap (λ ts. tree_in_order q p r x ++ ts) (trees_flat o (r + tree_count x) xs)

  -- the tasks of a scope are those of its resources in their list
  pub scope_flat : (t : TemplateTree)
      → scope_in_order q p t ≡ enter p ∷ (listed_in_order q p 0 (resources_in t) ++ leave p ∷ [])
  scope_flat (template h rs) = ap (λ ts. enter p ∷ (ts ++ leave p ∷ [])) (sym (trees_flat None 0 rs))

-- ---- one resource, and one instance, after another

pub next_resource : (q : Table) (p : Position) (xs : List Listed) (r : ℕ) (x : Listed) → slice_get xs r ≡ Some x
    → listed_in_order q p r (drop r xs) ≡ resource_in_order q p r x ++ listed_in_order q p (suc r) (drop (suc r) xs)
next_resource q p xs r x e = ap (listed_in_order q p r) (got_next xs r x e)

pub no_more_resources : (q : Table) (p : Position) (xs : List Listed)
    → listed_in_order q p (length xs) (drop (length xs) xs) ≡ []
no_more_resources q p xs = none xs (length xs)
  where
    none : (ys : List Listed) (m : ℕ) → listed_in_order q p m (drop (length ys) ys) ≡ []
    none [] m = refl
    none (y ∷ ys) m = none ys m
