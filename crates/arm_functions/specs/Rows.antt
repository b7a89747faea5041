-- What a row of the code says: the least and the most number of arguments, and the function where its value follows
-- from its arguments alone.
use Rattle.std.specs.Prelude.{ℕ, Option}
use Rattle.arm_functions.specs.declared.plain.Plain.{Plain}
use Rattle.arm_functions.specs.declared.table.Row.{Row}

abbrev pub row_view : Row → ℕ × Option ℕ × Option Plain
row_view r = (r.arity.least, r.arity.most, r.function)
