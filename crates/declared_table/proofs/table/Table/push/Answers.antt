use Rattle.std.proofs.Common.{◌∙◌, ap, sym, arith, true, refl}
use Rattle.std.specs.Prelude.{slice_set}
use Rattle.declared_table.specs.Seen.{Shape}
use Rattle.declared_table.proofs.EntryLemmas.{table_pushed, entry_inside}
use Rattle.declared_table.proofs.ListLemmas.{flags_set}
use Rattle.declared_table.proofs.table.Table.push.Goals as goal

pub invariant_of-self : goal.invariant_of-self
invariant_of-self c =
    let i = c.self.inside in
    let last = c.len-place.ensures in
    let own = i.entries.ok.0 in
    table_pushed i.file.now i.files.now i.marks.now i.types.items i.places.items i.entries.items c.self.invariant
    c.args.number c.args.entry
    (entry_inside c.args.self.now _ c.args.number c.args.entry (sym c.self.view_is) c.requires.entry)
    c.len-place.result _ _ (omega (arith, last, own)) refl c.in-Ok.ensures.items

pub returns-in-Ok-clause-known : goal.returns-in-Ok-clause-known
returns-in-Ok-clause-known c =
    flags_set c.self.inside.places.items c.args.number c.len-place.result
    ∙ ap (λ (s : Shape). slice_set s.1.1 c.args.number true) c.self.view_is
