use Rattle.std.proofs.Common.{map, ap, ◌∙◌}
use Rattle.bicep_declared.specs.View.{declared_tree, output_tree}
use Rattle.resolved_program.specs.declared.resolved.ResolvedFile.{ResolvedFile}
use Rattle.measured_trees.specs.Extremes.{enclosed}
use Rattle.file_limits.specs.Extremes.{all_declarations, all_outputs, parts_extremes}
use Rattle.file_limits.proofs.measured.measured_file.Goals as goal

pub measured_outputs-requires-clause-declared : goal.measured_outputs-requires-clause-declared
measured_outputs-requires-clause-declared c =
    ap (map output_tree)
    (c.as_slice.ensures.value ∙ ap (λ (r : ResolvedFile). r.declared.outputs.items) c.file.ensures)

pub measured_declarations-requires-clause-declared : goal.measured_declarations-requires-clause-declared
measured_declarations-requires-clause-declared c =
    ap (map declared_tree)
    (c.as_slice-declarations.ensures.value ∙ ap (λ (r : ResolvedFile). r.declared.declarations.items) c.file.ensures)

pub returns : goal.returns
returns c = λ x h.
    let s = c.args.table.now in
    let rs = c.args.rules.now in
    let ms = c.args.symbols.now in
    let os = c.args.outputs.now in
    let parts = parts_extremes c.args.form s rs ms os x in
    c.enclosed-2.ensures (enclosed parts)
    (c.enclosed.ensures parts
    (c.with.ensures.both (all_declarations c.args.form s rs ms x) (all_outputs s os) (c.in_ok-all.ensures x h)
    c.in_ok-of_outputs.ensures))
