-- What a look at an entry returns.
use Rattle.std.specs.Prelude.{◌≡◌, ℕ, Bool, true, false, Result, Ok, Err}
use Rattle.arm_value.specs.declared.value.Value.{Value}
use Rattle.plan_sight.specs.declared.lack.Lack.{Lack}
use Rattle.plan_sight.specs.declared.lack.Lack.TheVariants as lack
use Rattle.point_rows.specs.declared.later.Entry.{Entry}
use Rattle.point_rows.specs.declared.later.Entry.TheVariants as entry

-- the value of the entry, seen by a view, or that there is none, else the line is what is missing
abbrev pub IsEntryValue : {X : Type 0} → (X → Value) → Entry → ℕ → Result X Lack → Type 0
IsEntryValue view (entry.Value v) at (Ok x) = view x ≡ v
IsEntryValue view (entry.Value v) at (Err e) = ⊥
IsEntryValue view entry.Away at (Ok x) = ⊥
IsEntryValue view entry.Away at (Err e) = e ≡ lack.NotThere
IsEntryValue view entry.Missing at (Ok x) = ⊥
IsEntryValue view entry.Missing at (Err e) = e ≡ lack.Line at

-- whether the condition is true, else the line is what is missing
abbrev pub IsOfferedBy : Entry → ℕ → Result Bool Lack → Type 0
IsOfferedBy (entry.Value v) at r = r ≡ Ok true
IsOfferedBy entry.Away at r = r ≡ Ok false
IsOfferedBy entry.Missing at r = r ≡ Err (lack.Line at)
