-- Which symbols of a file read state, and which variables have an entry.
use Rattle.std.specs.Prelude.{ℕ, zero, suc, ◌+◌, ◌&&◌, Bool, true, false, not, List, [], ◌∷◌, length, Option}
use Rattle.std.specs.Prelude.{Some, None, slice_get, zip, if◌then◌else◌}
use Rattle.bicep_resolved.specs.Source.{ValueTree}
use Rattle.bicep_resolved.specs.Source as s
use Rattle.bicep_resolved.specs.Place.{value_offset}
use Rattle.bicep_circles.specs.Kind.{Kind}
use Rattle.bicep_circles.specs.Declarations.{DeclaredTree}
use Rattle.bicep_circles.specs.Declarations as d
use Rattle.bicep_mentions.specs.States.{StateReads}
use Rattle.bicep_mentions.specs.Names.{own_reads, whole_reads}
use Rattle.foundation.specs.Options.{or_else}

-- the kind of the symbol of a number, and its declaration
abbrev pub declaration_at : List Kind → List DeclaredTree → ℕ → Option (Kind × DeclaredTree)
declaration_at xs ds n = slice_get (zip xs ds) n

abbrev pub own_by : StateReads → Option (Kind × DeclaredTree) → Bool
own_by r None = false
own_by r (Some p) = own_reads r p.1

abbrev pub whole_by : StateReads → Option (Kind × DeclaredTree) → Bool
whole_by r None = false
whole_by r (Some p) = whole_reads r p.0 p.1

-- what the declarations say, where that is known of the symbols that they mention
abbrev pub state_step : List Kind → List DeclaredTree → StateReads → StateReads
state_step xs ds r = record {
  own = λ n. own_by r (declaration_at xs ds n);
  whole = λ n. whole_by r (declaration_at xs ds n);
}

-- which symbols read state, through fewer declarations than that number
unfoldable pub reads_within : List Kind → List DeclaredTree → ℕ → StateReads
reads_within xs ds zero = record { own = λ n. false; whole = λ n. false }
reads_within xs ds (suc k) = state_step xs ds (reads_within xs ds k)

-- which symbols of a file read state; through more declarations than there are leads only a circle
abbrev pub state_reads : List Kind → List DeclaredTree → StateReads
state_reads xs ds = reads_within xs ds (length ds)

-- ---- variables

abbrev pub is_variable : Option DeclaredTree → Bool
is_variable None = false
is_variable (Some (d.parameter at t)) = false
is_variable (Some (d.parameter_with at t e)) = false
is_variable (Some (d.variable at v)) = true
is_variable (Some (d.a_resource at q existing b)) = false
is_variable (Some (d.a_module at b)) = false

-- whether the symbol is a variable that has an entry: one that reads no state
abbrev pub has_entry : List Kind → List DeclaredTree → ℕ → Bool
has_entry xs ds n = is_variable (slice_get ds n) && not ((state_reads xs ds).own n)

-- a for-expression, by the offset of its `[`
abbrev pub each_offset : ValueTree → Option ℕ
each_offset (s.plain e) = None
each_offset (s.each l e) = Some (value_offset (s.each l e))

-- the for-expression that a variable is
abbrev pub variable_each : DeclaredTree → Option ℕ
variable_each (d.parameter at t) = None
variable_each (d.parameter_with at t e) = None
variable_each (d.variable at v) = each_offset v
variable_each (d.a_resource at q existing b) = None
variable_each (d.a_module at b) = None

-- the for-expression that the variable of a number is, where it reads state
abbrev pub misplaced_one : (ℕ → Bool) → ℕ → DeclaredTree → Option ℕ
misplaced_one own n d = if own n then variable_each d else None

-- the first variable from a number on that reads state and is a for-expression, which is misplaced
abbrev pub misplaced_from : (ℕ → Bool) → ℕ → List DeclaredTree → Option ℕ
misplaced_from own n [] = None
misplaced_from own n (d ∷ ds) = or_else (misplaced_one own n d) (misplaced_from own (n + 1) ds)

-- the first variable of a file that reads state and is a for-expression
abbrev pub misplaced_variable : List Kind → List DeclaredTree → Option ℕ
misplaced_variable xs ds = misplaced_from (state_reads xs ds).own 0 ds
