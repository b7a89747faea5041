use Rattle.std.proofs.Common.{◌+◌, ◌*◌, map}
use Rattle.bicep_tree.specs.Nesting.{nesting, deepest, object_nesting, deepest_member, member_nesting, value_nesting}
use Rattle.bicep_tree.specs.Tree.{trees, members}
use Rattle.bicep_tree.specs.View as view
use Rattle.parameter_rules.proofs.LoopLemmas.{Goes, Fills}
use Rattle.parameter_rules.proofs.literals.+values.Given as goal

-- each call goes a level down, or to a smaller part of the same level
abbrev pub decreases-value : goal.decreases-value
decreases-value l = 8 * nesting (view.tree_of l.e.now) + 4

abbrev pub decreases-items_of : goal.decreases-items_of
decreases-items_of l = 8 * deepest (trees (map view.tree_of l.exprs.now)) + 5

abbrev pub decreases-fields_of : goal.decreases-fields_of
decreases-fields_of l = 8 * object_nesting (view.object_of l.object.now) + 3

abbrev pub decreases-each_of : goal.decreases-each_of
decreases-each_of l = 8 * deepest_member (members (map view.member_of l.inner.now)) + 7

abbrev pub decreases-with_member : goal.decreases-with_member
decreases-with_member l = 8 * member_nesting (view.member_of l.inner.now) + 6

abbrev pub decreases-plain_value : goal.decreases-plain_value
decreases-plain_value l = 8 * value_nesting (view.value_of l.plain.now) + 5

abbrev pub invariant-items_of-loop-e : goal.invariant-items_of-loop-e
invariant-items_of-loop-e l = Goes l.exprs l.e-index l.found

abbrev pub invariant-each_of-loop-member : goal.invariant-each_of-loop-member
invariant-each_of-loop-member l = Fills l.inner l.member-index l.found
