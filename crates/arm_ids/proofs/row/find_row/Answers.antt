use Rattle.std.proofs.Common.{Some, sym, ap, ◌∙◌}
use Rattle.arm_ids.specs.Row.{row_held}
use Rattle.arm_ids.specs.declared.row.Row.{Row}
use Rattle.arm_ids.proofs.RowLemmas.{row_found, row_missing}
use Rattle.arm_ids.proofs.row.find_row.Goals as goal

pub returns-in-Ok : goal.returns-in-Ok
returns-in-Ok c =
    ap (λ (row : Row). Some (row_held row)) (sym c.index-rows-i.is)
    ∙ sym (row_found c.args.id.now c.args.rows.now c.in-Ok.i c.index-rows-i.result c.requires c.in-Ok.ensures
    c.index-rows-i.is)

pub returns-in-Err : goal.returns-in-Err
returns-in-Err c = sym (row_missing c.args.id.now c.args.rows.now c.in-Err.field-0 c.requires c.in-Err.ensures)
