use Rattle.std.proofs.Common.{inl, refl, sym, subst}
use Rattle.file_tables.specs.Orders.{HasOrder}
use Rattle.file_templates.specs.Faults.{IsCountOrMemory, IsFileFault}
use Rattle.file_templates.specs.Texts.{text_of}
use Rattle.file_templates.proofs.FaultLemmas.{other_fault, of_table}
use Rattle.file_templates.proofs.TextLemmas.{tabled_by, with_table}
use Rattle.file_templates.proofs.file.file_parts.Goals as goal

pub tabled-requires-clause-order : goal.tabled-requires-clause-order
tabled-requires-clause-order c =
    subst (HasOrder c.args.file.now) (sym c.as_slice.ensures.value) c.requires.order.order

pub tabled-requires-clause-table : goal.tabled-requires-clause-table
tabled-requires-clause-table c = (
  c.args.files.now,
  tabled_by (text_of c.args.source.now) c.args.file.now c.args.files.now c.requires.checked c.args.order.now
      c.requires.order c.requires.loops c.checked_files_have_kinds.ensures c.checked_names_differ.ensures
      c.checked_files_are_placed.ensures c.in-Ok.table c.in-Ok.ensures,
)

pub returns-in-Ok-clause-parts : goal.returns-in-Ok-clause-parts
returns-in-Ok-clause-parts c =
    let t = text_of c.args.source.now in
    with_table c.args.form t c.args.file.now c.args.files.now c.in-Ok.table
    (tabled_by t c.args.file.now c.args.files.now c.requires.checked c.args.order.now c.requires.order
    c.requires.loops c.checked_files_have_kinds.ensures c.checked_names_differ.ensures
    c.checked_files_are_placed.ensures c.in-Ok.table c.in-Ok.ensures) c.tabled.result c.tabled.ensures.parts

pub returns-in-Ok-clause-fault : goal.returns-in-Ok-clause-fault
returns-in-Ok-clause-fault c =
    let t = text_of c.args.source.now in
    other_fault (IsCountOrMemory c.in-Ok.table) (IsFileFault t c.args.file.now c.args.files.now)
    (of_table t c.args.file.now c.args.files.now c.in-Ok.table
    (tabled_by t c.args.file.now c.args.files.now c.requires.checked c.args.order.now c.requires.order
    c.requires.loops c.checked_files_have_kinds.ensures c.checked_names_differ.ensures
    c.checked_files_are_placed.ensures c.in-Ok.table c.in-Ok.ensures)) c.tabled.result c.tabled.ensures.fault

pub returns-in-Err-clause-fault : goal.returns-in-Err-clause-fault
returns-in-Err-clause-fault c = inl refl
