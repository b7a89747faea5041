use Rattle.std.proofs.Common.{Some, sym, subst, ◌∙◌}
use Rattle.bicep_declared.specs.View.{declared_tree}
use Rattle.bicep_tree.specs.declared.leaf.Literal.TheVariants as l
use Rattle.filled_tables.specs.Seen.{file_in, files_in}
use Rattle.emitted_files.specs.Files.{id_by, dependency}
use Rattle.emitted_trees.specs.Templates as t
use Rattle.source_worlds.specs.Numbers.{or_empty}
use Rattle.filled_tables.specs.Built.{IsTree}
use Rattle.emitted_dependencies.proofs.ElementLemmas.{of_loop, of_one}
use Rattle.emitted_dependencies.proofs.elements.element.Goals as goal

pub returns-in-Two : goal.returns-in-Two
returns-in-Two c =
    let f = file_in c.args.table.now in
    subst (λ z. IsTree (dependency (files_in c.args.table.now) f z c.args.number) c.name.result) (sym c.in-Two.is)
    (subst (λ o. IsTree (t.literal (l.Text (or_empty o))) c.name.result) c.name_of.ensures c.name.ensures)

pub returns-then-is_looped : goal.returns-then-is_looped
returns-then-is_looped c =
    let f = file_in c.args.table.now in
    let files = files_in c.args.table.now in
    let n = c.args.number in
    let is = of_loop files f n (declared_tree c.args.declared.now) c.requires.declared
    (sym c.is_looped.ensures ∙ c.if-is_looped.true) in
    subst (λ z. IsTree (dependency files f z n) c.name-then-is_looped.result) (sym c.in-One.is)
    (subst (λ e. IsTree e c.name-then-is_looped.result) (sym is)
    (subst (λ o. IsTree (t.literal (l.Text (or_empty o))) c.name-then-is_looped.result) c.name_of-then-is_looped.ensures c.name-then-is_looped.ensures))

pub returns-else-is_looped : goal.returns-else-is_looped
returns-else-is_looped c =
    let f = file_in c.args.table.now in
    let files = files_in c.args.table.now in
    let n = c.args.number in
    let d = declared_tree c.args.declared.now in
    let is = of_one files f n d c.requires.declared (sym c.is_looped.ensures ∙ c.if-is_looped.false) in
    subst (λ z. IsTree (dependency files f z n) c.in_brackets.result) (sym c.in-One.is)
    (subst (λ e. IsTree e c.in_brackets.result) (sym is)
    (c.in_brackets.ensures (id_by files f n (Some d)) c.id.ensures))
