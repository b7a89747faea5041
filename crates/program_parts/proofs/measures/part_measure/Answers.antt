use Rattle.std.proofs.Common.{List, ap, ◌∙◌, subst}
use Rattle.bicep_symbols.specs.declared.entry.Entry.{Entry}
use Rattle.measured_trees.specs.Measures.{IsOf}
use Rattle.resolved_program.specs.declared.resolved.ResolvedFile.{ResolvedFile}
use Rattle.file_templates.specs.Parts.{extremes_of}
use Rattle.program_parts.specs.Measures.{entries_in, inner_of}
use Rattle.program_parts.proofs.measures.part_measure.Goals as goal

pub returns : goal.returns
returns c = λ x h.
    let p = c.args.part.now in
    c.with.ensures.both (extremes_of p) (inner_of x (entries_in p)) c.requires
    (subst (λ (es : List Entry). IsOf (inner_of x es) c.inner_measure-inner.result)
    (c.as_slice.ensures.value ∙ ap (λ (r : ResolvedFile). r.entries.items) c.file.ensures)
    (c.inner_measure-inner.ensures x h))
