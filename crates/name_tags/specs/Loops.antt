-- The names of the loops of resources.
use Rattle.std.specs.Prelude.{ℕ, List, [], ◌∷◌, ◌++◌, Option, Some, None}
use Rattle.template_parts.specs.declared.looping.ResourceCopy.{ResourceCopy}
use Rattle.plan_cells.specs.Resources.{Listed}

abbrev pub loop_title : Option ResourceCopy → List (List ℕ)
loop_title None = []
loop_title (Some c) = c.name ∷ []

abbrev pub loop_titles : List Listed → List (List ℕ)
loop_titles [] = []
loop_titles (r ∷ rs) = loop_title r.declaration.copy ++ loop_titles rs
