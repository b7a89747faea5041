-- The numbers of scopes.
use Rattle.std.specs.Prelude.{ℕ, suc, Bool, List, [], ◌∷◌, if◌then◌else◌}
use Rattle.std.specs.List.{list_any}
use Rattle.deploy_cells.specs.Cells.{Position}
use Rattle.deploy_cells.specs.Same.{same_position}
use Rattle.plan_table.specs.Opened.{Opened}

-- whether one of these scopes has the position
abbrev pub is_here : List Opened → Position → Bool
is_here os p = list_any (λ o. same_position o.position p) os

-- the number of the first that has it
abbrev pub number_in : List Opened → Position → ℕ
number_in [] p = 0
number_in (o ∷ os) p = if same_position o.position p then 0 else suc (number_in os p)
