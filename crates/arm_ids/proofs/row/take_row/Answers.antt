use Rattle.std.proofs.Common.{subst, sym, ap, ◌∙◌, map, List, Ok, Err}
use Rattle.arm_ids.specs.Held.{IsPlaceOf}
use Rattle.arm_ids.specs.Row.{order_of, row_held, AreRows}
use Rattle.arm_ids.specs.declared.row.Row.{Row}
use Rattle.arm_ids.proofs.RowLemmas.{row_found, row_missing, row_removed, row_kept}
use Rattle.arm_ids.proofs.row.take_row.Goals as goal

pub returns-in-Ok-clause-rows : goal.returns-in-Ok-clause-rows
returns-in-Ok-clause-rows c =
    let P : List Row → Type 0 = λ rows. IsPlaceOf c.args.id.now (map order_of rows) (Ok c.in-Ok.i) in
    subst AreRows (sym c.remove-row.ensures.items)
    (row_removed c.args.id.now c.args.rows.now.items c.in-Ok.i c.remove-row.result c.requires
    (subst P c.as_slice.ensures.value c.in-Ok.ensures) c.remove-row.ensures.value).rows

pub returns-in-Ok-clause-taken : goal.returns-in-Ok-clause-taken
returns-in-Ok-clause-taken c =
    let P : List Row → Type 0 = λ rows. IsPlaceOf c.args.id.now (map order_of rows) (Ok c.in-Ok.i) in
    sym (row_found c.args.id.now c.args.rows.now.items c.in-Ok.i c.remove-row.result c.requires
    (subst P c.as_slice.ensures.value c.in-Ok.ensures) c.remove-row.ensures.value)

pub returns-in-Ok-clause-held : goal.returns-in-Ok-clause-held
returns-in-Ok-clause-held c =
    let P : List Row → Type 0 = λ rows. IsPlaceOf c.args.id.now (map order_of rows) (Ok c.in-Ok.i) in
    ap (map row_held) c.remove-row.ensures.items
    ∙ (row_removed c.args.id.now c.args.rows.now.items c.in-Ok.i c.remove-row.result c.requires
    (subst P c.as_slice.ensures.value c.in-Ok.ensures) c.remove-row.ensures.value).held

pub returns-in-Err-clause-taken : goal.returns-in-Err-clause-taken
returns-in-Err-clause-taken c =
    let P : List Row → Type 0 = λ rows. IsPlaceOf c.args.id.now (map order_of rows) (Err c.in-Err.field-0) in
    sym (row_missing c.args.id.now c.args.rows.now.items c.in-Err.field-0 c.requires
    (subst P c.as_slice.ensures.value c.in-Err.ensures))

pub returns-in-Err-clause-held : goal.returns-in-Err-clause-held
returns-in-Err-clause-held c =
    let P : List Row → Type 0 = λ rows. IsPlaceOf c.args.id.now (map order_of rows) (Err c.in-Err.field-0) in
    row_kept c.args.id.now c.args.rows.now.items c.in-Err.field-0 c.requires
    (subst P c.as_slice.ensures.value c.in-Err.ensures)
