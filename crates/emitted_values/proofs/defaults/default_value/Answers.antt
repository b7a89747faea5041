use Rattle.std.proofs.Common.{◌≤◌, [], sym, subst}
use Rattle.bicep_resolved.specs.View.{source_of}
use Rattle.filled_tables.specs.Seen.{sight}
use Rattle.filled_tables.specs.Filled.{emission_sight}
use Rattle.tree_building.specs.Depth.{depth}
use Rattle.tree_building.specs.Each.{AreSmall}
use Rattle.tree_building.specs.Sight as spec
use Rattle.emitted_values.proofs.ContentLemmas.{is_tree}
use Rattle.emitted_values.proofs.defaults.default_value.Goals as goal

pub made_tree-requires-clause-within : goal.made_tree-requires-clause-within
made_tree-requires-clause-within c =
    let s = c.args.table.now in
    let e = source_of c.args.e.now in
    subst AreSmall (sym (c.tables_give_trees.ensures s c.requires.filled c.requires.sound e []))
    (c.trees_are_small.ensures (spec.tree (emission_sight s) e []) c.requires.within).0

pub made_tree-requires-clause-nests : goal.made_tree-requires-clause-nests
made_tree-requires-clause-nests c =
    let s = c.args.table.now in
    let e = source_of c.args.e.now in
    subst (λ x. depth x ≤ 119) (sym (c.tables_give_trees.ensures s c.requires.filled c.requires.sound e []))
    (c.trees_are_small.ensures (spec.tree (emission_sight s) e []) c.requires.within).1

pub returns : goal.returns
returns c =
    let s = c.args.table.now in
    let e = source_of c.args.e.now in
    is_tree (spec.tree (emission_sight s) e []) (spec.tree (sight s) e [])
    (c.tables_give_trees.ensures s c.requires.filled c.requires.sound e []) c.requires.within.within c.made_tree.result
    c.made_tree.ensures
