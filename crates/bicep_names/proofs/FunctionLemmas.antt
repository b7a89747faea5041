-- Names of functions, one after another, and the rows that they call.
use Rattle.std.proofs.Common.{◌≡◌, ℕ, Bool, true, false, not, ◌&&◌, List, Option, Some, None}
use Rattle.std.proofs.Common.{option_map, refl, ap, sym, subst, ◌∙◌}
use Rattle.std.proofs.Common.{is_some}
use Rattle.std.specs.Str.{chars}
use Rattle.std.specs.Prelude.{IfSome, if◌then◌else◌}
use Rattle.std.proofs.lemmas.Slice.Eq.{bytes_eq-Decides}
use Rattle.arm_value.specs.Look.{fold, is_same_folded, is_among}
use Rattle.arm_functions.specs.declared.table.Row.{Row}
use Rattle.arm_functions.specs.declared.plain.Plain.{Plain}
use Rattle.arm_functions.specs.Rows.{row_view}
use Rattle.arm_functions.specs.Table.{row_of}
use Rattle.bicep_resolved.specs.View.{row_name}
use Rattle.bicep_names.specs.Functions.{reserved, may_call, function_named}

-- ---- rows

not_reserved : (r : Bool) (s : Bool) (name : List ℕ) → true ≡ r
    → (if not r && s then Some (fold name) else None) ≡ None
not_reserved r s name h = rw (sym h) refl

-- a reserved name calls nothing
pub reserved_none : (name spelling : List ℕ) → spelling ≡ name → true ≡ is_among reserved spelling
    → option_map row_name None ≡ function_named name
unfolding may_call
reserved_none name spelling e h =
    sym (not_reserved (is_among reserved name) (is_some (row_of name)) name (h ∙ ap (is_among reserved) e))

by_row : (r : Bool) (name : List ℕ) (row : Option Row) (o : Option (ℕ × Option ℕ × Option Plain)) → false ≡ r
    → option_map row_view row ≡ o → IfSome row (λ x. is_same_folded name (chars x.name.now) ≡ true)
    → option_map row_name row ≡ (if not r && is_some o then Some (fold name) else None)
by_row r name None o h e n = rw (sym h, sym e) refl
by_row r name (Some x) o h e n =
    rw (sym h, sym e) (ap (λ y. Some y) (sym ((bytes_eq-Decides (fold name) (fold (chars x.name.now))).0 n)))

-- any other calls the row of its name
pub row_named : (name first second : List ℕ) (row : Option Row) → first ≡ name → second ≡ name
    → false ≡ is_among reserved first → option_map row_view row ≡ row_of second
    → IfSome row (λ x. is_same_folded second (chars x.name.now) ≡ true) → option_map row_name row ≡ function_named name
unfolding may_call
row_named name first second row e f h r n =
    by_row (is_among reserved name) name row (row_of name) (h ∙ ap (is_among reserved) e) (r ∙ ap row_of f)
    (subst (λ s. IfSome row (λ x. is_same_folded s (chars x.name.now) ≡ true)) f n)
