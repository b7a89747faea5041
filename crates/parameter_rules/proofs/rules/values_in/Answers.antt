use Rattle.std.proofs.Common.{map, sym, ap, ◌∙◌}
use Rattle.bicep_tree.proofs.ViewLemmas.{tree_of-Array}
use Rattle.bicep_tree.specs.Tree as tree
use Rattle.bicep_tree.specs.View as view
use Rattle.parameter_rules.proofs.RuleLemmas.{values_are}
use Rattle.parameter_rules.proofs.rules.values_in.Goals as goal

pub returns-in-Array : goal.returns-in-Array
returns-in-Array c =
    values_are (view.tree_of c.args.e.now) c.in-Array.field-0 (tree.trees (map view.tree_of c.as_slice.result.now))
    (ap view.tree_of c.in-Array.is ∙ tree_of-Array c.in-Array.field-0 c.in-Array.items
    ∙ ap (λ es. tree.array c.in-Array.field-0 (tree.trees (map view.tree_of es))) (sym c.as_slice.ensures.value))
    c.items_of.result c.items_of.ensures
