-- The paths of resources, one after another.
use Rattle.std.proofs.Common.{◌≡◌, ℕ, zero, suc, ◌+◌, ◌<◌, ◌≤◌, List, [], ◌∷◌, ◌++◌, map, length, drop, get_or}
use Rattle.std.proofs.Common.{refl, sym, ap}
use Rattle.std.proofs.Common.{◌∙◌, arith, append_assoc}
use Rattle.std.proofs.lemmas.List.{append-nil}
use Rattle.foundation.proofs.Lists.{next_item, nothing_left}
use Rattle.arm_value.specs.Pointer.{step}
use Rattle.template_tree.specs.Tree.{trees, ResourceTree}
use Rattle.template_tree.specs.View.{resource_tree}
use Rattle.template_tree.specs.declared.resource.Resource.{Resource}
use Rattle.plan_paths.specs.Resources.{place_of, tree_paths, trees_paths}

-- with those of the resources from a number on, the list is that of all
abbrev pub PathsLeft : List (List ℕ) → List (List ℕ) → List ℕ → List Resource → ℕ → Type 0
PathsLeft first now path rs i =
    now ++ trees_paths path i (trees (map resource_tree (drop i rs)))
    ≡ first ++ trees_paths path 0 (trees (map resource_tree rs))

pub paths_more : (first now new : List (List ℕ)) (path : List ℕ) (rs : List Resource) (i : ℕ) (r : Resource)
    → i < length rs → r ≡ get_or rs i r
    → new ≡ now ++ tree_paths (path ++ step (place_of i r.declaration)) (resource_tree r)
    → PathsLeft first now path rs i → PathsLeft first new path rs (i + 1)
paths_more first now new path rs i r h e n left =
    let one = tree_paths (path ++ step (place_of i r.declaration)) (resource_tree r) in
    let z : i + 1 ≡ suc i = omega arith in
    ap (λ xs. xs ++ trees_paths path (i + 1) (trees (map resource_tree (drop (i + 1) rs)))) n
    ∙ append_assoc now one (trees_paths path (i + 1) (trees (map resource_tree (drop (i + 1) rs))))
    ∙ ap (λ (k : ℕ). now ++ (one ++ trees_paths path k (trees (map resource_tree (drop (i + 1) rs))))) z
    ∙ ap (λ ys. now ++ trees_paths path i (trees (map resource_tree ys))) (sym (next_item rs i r h e))
    ∙ left

pub paths_end : (first now : List (List ℕ)) (path : List ℕ) (rs : List Resource) (ts : List ResourceTree) (i : ℕ)
    → length rs ≤ i → map resource_tree rs ≡ ts → PathsLeft first now path rs i
    → now ≡ first ++ trees_paths path 0 (trees ts)
paths_end first now path rs ts i h e left =
    sym (append-nil now)
    ∙ ap (λ ys. now ++ trees_paths path i (trees (map resource_tree ys))) (sym (nothing_left rs i h))
    ∙ left ∙ ap (λ ys. first ++ trees_paths path 0 (trees ys)) e
