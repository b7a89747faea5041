-- Declarations that are found one after another.
use Rattle.std.proofs.Common.{◌≡◌, List, [], ◌∷◌, map, refl, sym, ap, ◌∙◌}
use Rattle.bicep_found.specs.Found.{Found, found, unknown, mapped, all_found}
use Rattle.bicep_names.specs.Scope.{Scope}
use Rattle.bicep_declared.specs.declared.sites.Site.{Site}
use Rattle.bicep_declared.specs.Declarations.{DeclaredTree, OutputTree}
use Rattle.bicep_declared.specs.Declare.{part_declared, part_output}
use Rattle.bicep_declared.specs.View.{site_tree}

-- what is found of one declaration
abbrev pub declared_at : Scope → Site → Found (List DeclaredTree)
declared_at sc s = part_declared sc (site_tree s)

abbrev pub output_at : Scope → Site → Found (List OutputTree)
output_at sc s = part_output sc (site_tree s)

-- a function after another of each item
pub map-after : {A B C : Type 0} (g : B → C) (f : A → B) (xs : List A) → map g (map f xs) ≡ map (λ x. g (f x)) xs
map-after g f [] = refl
map-after g f (x ∷ xs) = ap (λ ys. g (f x) ∷ ys) (map-after g f xs)

pub mapped-same : {A : Type 0} (f : Found A) → mapped (λ x. x) f ≡ f
unfolding mapped
mapped-same (found x) = refl
mapped-same (unknown at) = refl

-- all that is found of the items is what is found of their trees
pub all_after : {E D A : Type 0} (part : D → Found (List A)) (tree : E → D) (es : List E)
    → all_found (map part (map tree es)) ≡ mapped (λ x. x) (all_found (map (λ e. part (tree e)) es))
all_after part tree es =
    ap all_found (map-after part tree es) ∙ sym (mapped-same (all_found (map (λ e. part (tree e)) es)))
