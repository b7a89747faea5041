use Rattle.std.proofs.Common.{◌≡◌, List, map, sym, subst}
use Rattle.std.specs.Prelude.{IfOk}
use Rattle.resolved_program.specs.View.{file_view}
use Rattle.declaration_laws.specs.Sound.{IsSound}
use Rattle.ordered_emissions.specs.Orders.{IsPaired, IsOrderOf}
use Rattle.declared_table.specs.Seen.{Shape, file_of, files_of, sight, whole_sight}
use Rattle.declared_table.specs.declared.mark.Mark.{Mark}
use Rattle.file_tables.proofs.TableLemmas.{outputs_same, made, Names, Conditions}
use Rattle.file_tables.proofs.table.file_table.Goals as goal

pub table_of-requires-clause-paired : goal.table_of-requires-clause-paired
table_of-requires-clause-paired c =
    let r = c.args.file.now in
    let rs = c.args.files.now in
    let h =
    c.checked_files_are_emittable.ensures (map file_view rs) (file_view r) c.requires.checked
    (file_of r c.args.order.now.marks.items) c.requires.order.entries (files_of rs) (outputs_same rs) in
    subst (λ (m : List Mark). IsPaired (file_of r m)) (sym c.as_slice.ensures.value) h.paired

pub table_of-requires-clause-sound : goal.table_of-requires-clause-sound
table_of-requires-clause-sound c =
    let r = c.args.file.now in
    let rs = c.args.files.now in
    let h =
    c.checked_files_are_emittable.ensures (map file_view rs) (file_view r) c.requires.checked
    (file_of r c.args.order.now.marks.items) c.requires.order.entries (files_of rs) (outputs_same rs) in
    subst (λ (m : List Mark). IsSound (file_of r m)) (sym c.as_slice.ensures.value) h.sound

pub table_of-requires-clause-order : goal.table_of-requires-clause-order
table_of-requires-clause-order c =
    let r = c.args.file.now in
    let x = c.args.order.now in
    subst (λ (m : List Mark). IsOrderOf (file_of r m) c.as_slice-2.result.now) (sym c.as_slice.ensures.value)
    (subst (IsOrderOf (file_of r x.marks.items)) (sym c.as_slice-2.ensures.value)
    (c.orders_are_of_files.ensures (file_view r) (file_of r x.marks.items) x.order.items c.requires.order.entries
    c.requires.order.order))

pub returns : goal.returns
returns c =
    let r = c.args.file.now in
    let rs = c.args.files.now in
    let x = c.args.order.now in
    let p = c.as_slice.ensures.value in
    made (file_of r x.marks.items) (files_of rs) c.table_of.result
    (subst
    (λ (m : List Mark). IfOk c.table_of.result (λ (t : Shape). sight t ≡ whole_sight (file_of r m) (files_of rs))) p
    c.table_of.ensures.sight)
    (subst (λ (m : List Mark). IfOk c.table_of.result (Names (file_of r m) (files_of rs))) p c.table_of.ensures.names)
    (subst (λ (m : List Mark). IfOk c.table_of.result (Conditions (file_of r m) (files_of rs))) p
    c.table_of.ensures.conditions)
    (c.checked_files_are_emittable.ensures (map file_view rs) (file_view r) c.requires.checked
    (file_of r x.marks.items) c.requires.order.entries (files_of rs) (outputs_same rs))
