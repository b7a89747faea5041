use Rattle.std.proofs.Common.{subst, sym, ap, ◌∙◌, map, List, Ok, Err, arith}
use Rattle.std.proofs.lemmas.List.{length-map}
use Rattle.arm_ids.specs.Held.{IsPlaceOf}
use Rattle.arm_ids.specs.Row.{order_of, row_held, AreRows}
use Rattle.arm_ids.specs.declared.row.Row.{Row}
use Rattle.arm_ids.proofs.RowLemmas.{row_replaced, row_added_where}
use Rattle.arm_ids.proofs.row.put_row.Goals as goal

pub replace_row-requires : goal.replace_row-requires
replace_row-requires c =
    let P : List Row → Type 0 = λ rows. IsPlaceOf c.args.row.order (map order_of rows) (Ok c.in-Ok.i) in
    let place = subst P c.as_slice.ensures.value c.in-Ok.ensures in
    omega (arith, place.0, length-map c.args.rows.now.items order_of)

pub returns-in-Ok-clause-rows : goal.returns-in-Ok-clause-rows
returns-in-Ok-clause-rows c =
    let P : List Row → Type 0 = λ rows. IsPlaceOf c.args.row.order (map order_of rows) (Ok c.in-Ok.i) in
    subst AreRows (sym c.replace_row.ensures)
    (row_replaced c.args.rows.now.items c.in-Ok.i c.args.row c.requires.rows c.requires.order c.requires.named
    (subst P c.as_slice.ensures.value c.in-Ok.ensures)).rows

pub returns-in-Ok-clause-held : goal.returns-in-Ok-clause-held
returns-in-Ok-clause-held c =
    let P : List Row → Type 0 = λ rows. IsPlaceOf c.args.row.order (map order_of rows) (Ok c.in-Ok.i) in
    ap (map row_held) c.replace_row.ensures
    ∙ (row_replaced c.args.rows.now.items c.in-Ok.i c.args.row c.requires.rows c.requires.order c.requires.named
    (subst P c.as_slice.ensures.value c.in-Ok.ensures)).held

pub insert_row-requires : goal.insert_row-requires
insert_row-requires c =
    let P : List Row → Type 0 = λ rows. IsPlaceOf c.args.row.order (map order_of rows) (Err c.in-Err.i) in
    let place = subst P c.as_slice.ensures.value c.in-Err.ensures in
    omega (arith, place.0, length-map c.args.rows.now.items order_of)

pub returns-in-Err-clause-rows : goal.returns-in-Err-clause-rows
returns-in-Err-clause-rows c =
    let P : List Row → Type 0 = λ rows. IsPlaceOf c.args.row.order (map order_of rows) (Err c.in-Err.i) in
    (row_added_where c.insert_row.result _ c.args.rows.now.items c.in-Err.i c.args.row c.requires.rows
    c.requires.order c.requires.named (subst P c.as_slice.ensures.value c.in-Err.ensures) c.insert_row.ensures).0

pub returns-in-Err-clause-held : goal.returns-in-Err-clause-held
returns-in-Err-clause-held c =
    let P : List Row → Type 0 = λ rows. IsPlaceOf c.args.row.order (map order_of rows) (Err c.in-Err.i) in
    (row_added_where c.insert_row.result _ c.args.rows.now.items c.in-Err.i c.args.row c.requires.rows
    c.requires.order c.requires.named (subst P c.as_slice.ensures.value c.in-Err.ensures) c.insert_row.ensures).1
