use Rattle.std.proofs.Common.{◌∷◌, [], sym, subst}
use Rattle.ordered_emissions.specs.Holes.{holes}
use Rattle.emitted_expressions.specs.Files.{type_of}
use Rattle.kept_parts.specs.Kept.{AreKeptHoles}
use Rattle.declared_table.specs.Seen.{file_in, whole_in}
use Rattle.declared_table.proofs.RunLemmas.{id_measured, no_id_measured}
use Rattle.declared_table.proofs.table.Table.extent_of_id.Goals as goal

pub returns-then-entry : goal.returns-then-entry
returns-then-entry c = λ f h.
    let s = c.args.self.now in
    let n = c.args.number in
    let parts = (whole_in s).parts n (holes ∷ []) in
    id_measured (file_in s) (whole_in s) n f c.id_extent.result c.args.entry.now.is_resource c.if-entry.true
    c.requires.id (c.id_extent.ensures (type_of (file_in s) n).kind parts f c.kind_extent.ensures
    (subst (AreKeptHoles parts) (sym c.as_slice.ensures.value) c.requires.parts) h)

pub returns-else-entry : goal.returns-else-entry
returns-else-entry c = λ f h.
    let s = c.args.self.now in
    no_id_measured (file_in s) (whole_in s) c.args.number f c.no_value.result
    c.args.entry.now.is_resource c.if-entry.false c.requires.id c.no_value.ensures
