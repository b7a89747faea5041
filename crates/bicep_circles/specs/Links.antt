-- Which symbols lead to which: a declaration leads to the symbols that it mentions and to the resource around it.
use Rattle.std.specs.Prelude.{ℕ, List, [], ◌∷◌, ◌++◌, option_to_list}
use Rattle.bicep_names.specs.declared.kind.Kind.{Kind}
use Rattle.bicep_names.specs.declared.kind.Kind.TheVariants as k
use Rattle.bicep_declared.specs.Declarations.{DeclaredTree}
use Rattle.bicep_circles.specs.Mentions.{declared_mentions}

-- the number of the resource in which one of that kind is nested
abbrev pub parent_mentions : Kind → List ℕ
parent_mentions k.Parameter = []
parent_mentions k.Variable = []
parent_mentions (k.Resource inside) = option_to_list inside
parent_mentions (k.ResourceLoop inside) = option_to_list inside
parent_mentions (k.Module file) = []
parent_mentions (k.ModuleLoop file) = []

-- the numbers of the symbols that the declaration of a symbol of that kind mentions
abbrev pub mentioned : Kind → DeclaredTree → List ℕ
mentioned x d = declared_mentions d ++ parent_mentions x

-- for each symbol, those that its declaration mentions
abbrev pub links : List Kind → List DeclaredTree → List (List ℕ)
links [] ds = []
links (x ∷ xs) [] = []
links (x ∷ xs) (d ∷ ds) = mentioned x d ∷ links xs ds
