-- Lines that wait for one another.
use Rattle.std.specs.Prelude.{◌≡◌, ℕ, suc, nat_eq, List, [], ◌∷◌, if◌then◌else◌}
use Rattle.plan_cells.specs.Meaning.{Deployment}
use Rattle.plan_filling.specs.Rows.{Row}
use Rattle.plan_filling.specs.Steps.{WaitsFor}

-- the first place of a number in a list, or the length of the list
abbrev pub place_in : ℕ → List ℕ → ℕ
place_in n [] = 0
place_in n (m ∷ ms) = if nat_eq m n then 0 else suc (place_in n ms)

-- the cell of a row waits for that of the next, and the last for that of the end
abbrev pub AreRowsWaiting : Deployment → List Row → ℕ → List ℕ → ℕ → Type 0
AreRowsWaiting d rows i [] end = WaitsFor d rows i end
AreRowsWaiting d rows i (j ∷ js) end = WaitsFor d rows i j × AreRowsWaiting d rows j js end

-- each waits for the next, and the last for the first
pub record IsRound (d : Deployment) (rows : List Row) (places : List ℕ) : Type 0 where
  pub first : ℕ
  pub others : List ℕ
  pub are : places ≡ first ∷ others
  pub are_waiting : AreRowsWaiting d rows first others first
