-- Resources that are listed one after another, each with its children.
use Rattle.std.proofs.Common.{◌≡◌, ℕ, zero, suc, ◌+◌, ◌<◌, ◌≤◌, List, [], ◌∷◌, ◌++◌, map, length, get_or, drop, Option}
use Rattle.std.proofs.Common.{Some, refl, sym}
use Rattle.std.proofs.Common.{ap, ◌∙◌, arith, append_assoc, length-append}
use Rattle.std.proofs.lemmas.List.{length-map, append-nil}
use Rattle.foundation.proofs.Lists.{next_item, nothing_left}
use Rattle.template_tree.specs.Tree.{ResourceTree, resource, Trees, no_resources, a_resource, trees}
use Rattle.template_tree.specs.View.{resource_tree}
use Rattle.template_tree.specs.declared.resource.Resource.{Resource}
use Rattle.plan_filling.specs.Resources as cells
use Rattle.plan_filling.specs.Resources.{Above, above_by, tree_count, trees_count, listed_tree, listed_trees}
use Rattle.plan_table.specs.declared.listed.Listed.{Listed}
use Rattle.plan_table.specs.Listed.{listed_of}

mutual
  length_tree : (o : Option Above) (n : ℕ) (r : ResourceTree) → length (listed_tree o n r) ≡ tree_count r
  length_tree o n (resource d b rs) = ap suc (length_trees (Some (above_by o n d)) (suc n) rs)

  length_trees : (o : Option Above) (n : ℕ) (rs : Trees) → length (listed_trees o n rs) ≡ trees_count rs
  length_trees o n no_resources = refl
  length_trees o n (a_resource r rs) =
      let a = length_tree o n r in
      let b = length_trees o (n + tree_count r) rs in
      length-append (listed_tree o n r) (listed_trees o (n + tree_count r) rs) ∙ omega (arith, a, b)

-- what is to be listed in the end
abbrev pub trees_start : Option Above → List Listed → List Resource → List cells.Listed
trees_start o old xs = map listed_of old ++ listed_trees o (length old) (trees (map resource_tree xs))

-- one more resource of these
pub trees_more : (o : Option Above) (first : List cells.Listed) (xs : List Resource) (i : ℕ) (r : Resource)
    (old new : List Listed) → i < length xs → r ≡ get_or xs i r
    → map listed_of new ≡ map listed_of old ++ listed_tree o (length old) (resource_tree r)
    → map listed_of old ++ listed_trees o (length old) (trees (map resource_tree (drop i xs))) ≡ first
    → map listed_of new ++ listed_trees o (length new) (trees (map resource_tree (drop (i + 1) xs))) ≡ first
trees_more o first xs i r old new h e f g =
    let rest : Trees = trees (map resource_tree (drop (i + 1) xs)) in
    let tree : ResourceTree = resource_tree r in
    let a = length_tree o (length old) tree in
    let size : length new ≡ length old + tree_count tree =
    sym (length-map new listed_of) ∙ ap length f
    ∙ length-append (map listed_of old) (listed_tree o (length old) tree)
    ∙ (let b = length-map old listed_of in omega (arith, a, b)) in
    ap (λ ys. ys ++ listed_trees o (length new) rest) f
    ∙ ap (λ n. (map listed_of old ++ listed_tree o (length old) tree) ++ listed_trees o n rest) size
    ∙ append_assoc (map listed_of old) (listed_tree o (length old) tree)
    (listed_trees o (length old + tree_count tree) rest)
    ∙ ap (λ ys. map listed_of old ++ listed_trees o (length old) (trees (map resource_tree ys)))
    (sym (next_item xs i r h e)) ∙ g

-- all of them
pub trees_all : (o : Option Above) (first : List cells.Listed) (n i : ℕ) (xs : List Resource) (rs : List ResourceTree)
    (new : List Listed) → length xs ≤ i → map resource_tree xs ≡ rs
    → map listed_of new ++ listed_trees o (length new) (trees (map resource_tree (drop i xs)))
    ≡ first ++ listed_trees o n (trees (map resource_tree xs))
    → map listed_of new ≡ first ++ listed_trees o n (trees rs)
trees_all o first n i xs rs new h e g =
    sym (append-nil (map listed_of new))
    ∙ ap (λ ys. map listed_of new ++ listed_trees o (length new) (trees (map resource_tree ys))) (sym (nothing_left xs i h))
    ∙ g ∙ ap (λ ys. first ++ listed_trees o n (trees ys)) e
