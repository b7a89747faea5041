-- Why the filling of a sheet ended.
use Rattle.std.proofs.Common.{◌≡◌, ℕ, ◌<◌, List, length, Some, Result, Ok, Err, refl, subst}
use Rattle.std.specs.Prelude.{IfErr}
use Rattle.arm_value.specs.Json.{Json}
use Rattle.template_parts.specs.declared.limit.Which.{Which}
use Rattle.reading.specs.Knowledge.{value, told}
use Rattle.plan_cells.specs.Cells.{Cell, parameter, variable, offered, output, count, included, name, deployments, state}
use Rattle.plan_cells.specs.Meaning.{Deployment, meaning}
use Rattle.plan_filling.specs.Rows.{Status, Row, row_at, status_of, table, IsUnfinished}
use Rattle.plan_filling.specs.Sound.{Sound}
use Rattle.plan_filling.specs.Limits.{IsHalt, IsOverrun, IsHalted}
use Rattle.plan_filling.specs.declared.sheet.Halt.{Halt}
use Rattle.plan_filling.specs.declared.sheet.Halt.TheVariants.{Limit, OutOfMemory}
use Rattle.plan_filling.proofs.RowLemmas.{status_found}

overrun : (d : Deployment) (rows : List Row) (c : Cell) (u : Status) (v : Json) (w : Which) (n : ℕ) → Sound d rows
    → status_of rows c ≡ Some u → IsUnfinished u → told (table (status_of rows)) (meaning d c) ≡ value (Some v)
    → IsHalt rows c v (Limit w n) → IsOverrun d w n
overrun d rows (count p r) u v w n s f o t i = record {
  rows = rows;
  is_sound = s;
  position = p;
  resource = r;
  status = u;
  has = f;
  is_unfinished = o;
  number = v;
  is_told = t;
  is_beyond = i;
}
overrun d rows (parameter p x) u v w n s f o t i = absurd i
overrun d rows (variable p x) u v w n s f o t i = absurd i
overrun d rows (offered p x) u v w n s f o t i = absurd i
overrun d rows (output p x) u v w n s f o t i = absurd i
overrun d rows (included p x) u v w n s f o t i = absurd i
overrun d rows (name p x) u v w n s f o t i = absurd i
overrun d rows (deployments p) u v w n s f o t i = absurd i
overrun d rows (state k) u v w n s f o t i = absurd i

-- a cell that was told to have a value does not get it
pub halted_at : (d : Deployment) (rows : List Row) (i : ℕ) (v : Json) (h : Halt) → Sound d rows → i < length rows
    → IsUnfinished (row_at rows i).status
    → told (table (status_of rows)) (meaning d (row_at rows i).cell) ≡ value (Some v)
    → IsHalt rows (row_at rows i).cell v h → IsHalted d h
halted_at d rows i v OutOfMemory s l u t e = tt
halted_at d rows i v (Limit w n) s l u t e =
    overrun d rows (row_at rows i).cell (row_at rows i).status v w n s (status_found rows i s.distinct l) u t e

pub halted_as : (d e : Deployment) (h : Halt) → e ≡ d → IsHalted e h → IsHalted d h
halted_as d e h same x = subst (λ (y : Deployment). IsHalted y h) same x

pub halted_if : {A : Type 0} (d e : Deployment) (r : Result A Halt) → e ≡ d → IfErr r (IsHalted e)
    → IfErr r (IsHalted d)
halted_if d e (Ok x) same h = tt
halted_if d e (Err x) same h = halted_as d e x same h
