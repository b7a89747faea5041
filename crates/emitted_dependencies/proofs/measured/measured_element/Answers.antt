use Rattle.std.proofs.Common.{Some, sym, subst, ◌∙◌}
use Rattle.bicep_declared.specs.View.{declared_tree}
use Rattle.filled_tables.specs.Seen.{file_in, files_in}
use Rattle.emitted_files.specs.Files.{id_by}
use Rattle.measured_trees.specs.Extremes.{tree_extremes}
use Rattle.measured_trees.specs.Measures.{IsOf}
use Rattle.emitted_dependencies.specs.Elements.{element_extremes}
use Rattle.emitted_dependencies.proofs.ElementLemmas.{of_loop, of_one}
use Rattle.emitted_dependencies.proofs.measured.measured_element.Goals as goal

pub returns-in-Two : goal.returns-in-Two
returns-in-Two c =
    let s = c.args.table.now in
    subst (λ z. IsOf (element_extremes (files_in s) (file_in s) z c.args.number) c.nothing.result) (sym c.in-Two.is)
    c.nothing.ensures.nothing

pub returns-then-is_looped : goal.returns-then-is_looped
returns-then-is_looped c =
    let f = file_in c.args.table.now in
    let files = files_in c.args.table.now in
    let n = c.args.number in
    let is = of_loop files f n (declared_tree c.args.declared.now) c.requires.declared
    (sym c.is_looped.ensures ∙ c.if-is_looped.true) in
    subst (λ z. IsOf (element_extremes files f z n) c.nothing-then-is_looped.result) (sym c.in-One.is)
    (subst (λ e. IsOf (tree_extremes e) c.nothing-then-is_looped.result) (sym is) c.nothing-then-is_looped.ensures.nothing)

pub returns-else-is_looped : goal.returns-else-is_looped
returns-else-is_looped c =
    let f = file_in c.args.table.now in
    let files = files_in c.args.table.now in
    let n = c.args.number in
    let d = declared_tree c.args.declared.now in
    let is = of_one files f n d c.requires.declared (sym c.is_looped.ensures ∙ c.if-is_looped.false) in
    subst (λ z. IsOf (element_extremes files f z n) c.of_expression.result) (sym c.in-One.is)
    (subst (λ e. IsOf (tree_extremes e) c.of_expression.result) (sym is)
    (c.of_expression.ensures (id_by files f n (Some d)) c.extent.ensures))
