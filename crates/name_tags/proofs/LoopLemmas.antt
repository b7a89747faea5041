-- The names of loops that are looked up.
use Rattle.std.proofs.Common.{◌≡◌, ℕ, ◌||◌, List, [], ◌∷◌, ◌++◌, Option, Some, None, refl}
use Rattle.std.proofs.Common.{sym, ap, ap₂, ◌∙◌}
use Rattle.std.specs.List.{list_any}
use Rattle.name_set.specs.Names.{is_named}
use Rattle.template_parts.specs.declared.looping.ResourceCopy.{ResourceCopy}
use Rattle.template_tree.specs.Tree.{TemplateTree}
use Rattle.tag_needs.specs.Tags.{Tag}
use Rattle.plan_cells.specs.Resources.{Listed, resources_in}
use Rattle.plan_cells.specs.Needs.{has_loop, is_loop}
use Rattle.plan_codes.specs.NameCodes.{asks_in_one}
use Rattle.name_tags.specs.Loops.{loop_title, loop_titles}
use Rattle.plan_codes.proofs.NameLemmas.{has_loop_is, loop_is}

one_title : (x : List ℕ) (o : Option ResourceCopy) (ys : List (List ℕ))
    → is_named (loop_title o ++ ys) x ≡ (loop_is x o || is_named ys x)
one_title x None ys = refl
one_title x (Some c) ys = refl

titles_named : (x : List ℕ) (rs : List Listed) → is_named (loop_titles rs) x ≡ list_any (has_loop x) rs
titles_named x [] = refl
titles_named x (r ∷ rs) =
    one_title x r.declaration.copy (loop_titles rs)
    ∙ ap₂ (λ a b. a || b) (sym (has_loop_is x r r.declaration.copy refl)) (titles_named x rs)

-- for what a text asks in the first form, by the names of loops
pub asked_in_one : (f : ℕ) (x : List ℕ) (loops : List (List ℕ)) (u : TemplateTree) (old new : List Tag)
    → new ≡ old ++ asks_in_one f (is_named loops x) x → loops ≡ loop_titles (resources_in u)
    → new ≡ old ++ asks_in_one f (is_loop x (Some u)) x
asked_in_one f x loops u old new e h =
    e ∙ ap (λ ls. old ++ asks_in_one f (is_named ls x) x) h
    ∙ ap (λ b. old ++ asks_in_one f b x) (titles_named x (resources_in u))
