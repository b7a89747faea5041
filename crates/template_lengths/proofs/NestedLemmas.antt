-- The nested deployments of a template in one list.
use Rattle.std.proofs.Common.{◌≡◌, ◌≤◌, ◌+◌, ℕ, suc, Bool, true, false, List, [], ◌∷◌, ◌++◌, Option, Some, None}
use Rattle.std.proofs.Common.{refl, sym, ap, subst, ◌∙◌, arith}
use Rattle.std.specs.Prelude.{slice_get, option_and_then, if◌then◌else◌}
use Rattle.template_tree.specs.Tree.{TemplateTree, template, ResourceTree, resource, BodyTree, body_members}
use Rattle.template_tree.specs.Tree.{deployment, Trees, no_resources, a_resource}
use Rattle.plan_cells.specs.Resources.{Above, Listed, listed_tree, listed_trees, above_by, tree_count}
use Rattle.plan_cells.specs.Resources.{resources_in, unless_existing, resource_at, nested_in, nested_at}
use Rattle.plan_cells.specs.Resources.{is_nested, nested_from, nested_numbers}
use Rattle.template_lengths.specs.Lengths.{nested_bytes, all_bytes, template_bytes}
use Rattle.template_lengths.proofs.TreeLemmas.{body_bytes, tree_bytes, trees_bytes, template_within}

abbrev listed_bytes : List Listed → ℕ
listed_bytes [] = 0
listed_bytes (r ∷ rs) = body_bytes r.content + listed_bytes rs

joined : (rs qs : List Listed) → listed_bytes (rs ++ qs) ≡ listed_bytes rs + listed_bytes qs
joined [] qs = omega arith
joined (r ∷ rs) qs =
    let h = joined rs qs in
    omega (arith, h)

mutual
  tree_listed : (o : Option Above) (n : ℕ) (r : ResourceTree) → listed_bytes (listed_tree o n r) ≡ tree_bytes r
  tree_listed o n (resource d b rs) =
      ap (λ k. body_bytes b + k) (trees_listed (Some (above_by o n d)) (suc n) rs)

  trees_listed : (o : Option Above) (n : ℕ) (rs : Trees) → listed_bytes (listed_trees o n rs) ≡ trees_bytes rs
  trees_listed o n no_resources = refl
  trees_listed o n (a_resource r rs) =
      let h = joined (listed_tree o n r) (listed_trees o (n + tree_count r) rs) in
      let a = tree_listed o n r in
      let b = trees_listed o (n + tree_count r) rs in
      omega (arith, h, a, b)

-- ---- by their numbers

by_content : (b : BodyTree) → nested_bytes (nested_in b) ≤ body_bytes b
by_content (body_members ms) = omega arith
by_content (deployment s ps t) = omega arith

unless_there : (r : Listed) (e : Bool)
    → nested_bytes (option_and_then (λ (q : Listed). nested_in q.content) (if e then None else Some r))
    ≤ body_bytes r.content
unless_there r true = omega arith
unless_there r false = by_content r.content

one_within : (t : TemplateTree) (n : ℕ) (r : Listed) → slice_get (resources_in t) n ≡ Some r
    → nested_bytes (nested_at t n) ≤ body_bytes r.content
unfolding resource_at
one_within t n r e =
    subst (λ (o : Option Listed).
    nested_bytes (option_and_then (λ (q : Listed). nested_in q.content) (option_and_then unless_existing o))
    ≤ body_bytes r.content)
    (sym e) (unless_there r r.declaration.existing)

after_one : (n i : ℕ) → n + suc i ≡ suc n + i
after_one n i = omega arith

none_before : (i : ℕ) → 0 + i ≡ i
none_before i = omega arith

none_more : (n : ℕ) → n + 0 ≡ n
none_more n = omega arith

-- with one more, by whether it is a nested deployment
with_first : (t : TemplateTree) (n : ℕ) (r : Listed) (rs : List Listed) (b : Bool)
    → nested_bytes (nested_at t n) ≤ body_bytes r.content
    → all_bytes t (nested_from (suc n) rs) ≤ listed_bytes rs
    → all_bytes t (if b then n ∷ nested_from (suc n) rs else nested_from (suc n) rs) ≤ listed_bytes (r ∷ rs)
with_first t n r rs true h g = omega (arith, h, g)
with_first t n r rs false h g = omega (arith, g)

all_within : (t : TemplateTree) (n : ℕ) (rs : List Listed)
    → ((i : ℕ) → slice_get (resources_in t) (n + i) ≡ slice_get rs i)
    → all_bytes t (nested_from n rs) ≤ listed_bytes rs
all_within t n [] h = omega arith
all_within t n (r ∷ rs) h =
    with_first t n r rs (is_nested r)
    (one_within t n r (ap (slice_get (resources_in t)) (sym (none_more n)) ∙ h 0))
    (all_within t (suc n) rs (λ i. ap (slice_get (resources_in t)) (sym (after_one n i)) ∙ h (suc i)))

pub holds : (t : TemplateTree) → all_bytes t (nested_numbers t) ≤ template_bytes t
holds (template h rs) =
    let a = all_within (template h rs) 0 (resources_in (template h rs))
    (λ i. ap (slice_get (resources_in (template h rs))) (none_before i)) in
    let b = trees_listed None 0 rs in
    let c = template_within h rs in
    omega (arith, a, b, c)
