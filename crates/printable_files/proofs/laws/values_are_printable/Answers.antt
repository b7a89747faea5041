use Rattle.emitted_declarations.specs.Declared.{through}
use Rattle.emitted_trees.specs.EmittedTrees.{tree_of, members_of, value_of}
use Rattle.printable_files.proofs.EachLemmas.{each_tree, each_member, each_value}
use Rattle.printable_files.proofs.laws.values_are_printable.Goals as goal

pub returns-clause-trees : goal.returns-clause-trees
returns-clause-trees c = λ file files p k e fs h g.
    each_tree (tree_of file files (through file files k).scope e fs)
    (c.trees_have_names.ensures file files p.words p.outputs k e fs h.0 g.0)
    (c.numbers_of_values_are_whole.ensures.trees file files p.wholes p.parts k e fs h.1 g.1)

pub returns-clause-members : goal.returns-clause-members
returns-clause-members c = λ file files p k ps fs h g.
    each_member (members_of file files (through file files k).scope ps fs)
    (c.members_have_names.ensures file files p.words p.outputs k ps fs h.0 g.0)
    (c.numbers_of_values_are_whole.ensures.members file files p.wholes p.parts k ps fs h.1 g.1)

pub returns-clause-values : goal.returns-clause-values
returns-clause-values c = λ file files p k name v fs h g.
    each_value (value_of file files (through file files k).scope name v fs)
    (c.values_have_names.ensures file files p.words p.outputs k name v fs h.0 g.0)
    (c.numbers_of_values_are_whole.ensures.values file files p.wholes p.parts k name v fs h.1 g.1)
