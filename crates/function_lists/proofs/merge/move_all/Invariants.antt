use Rattle.std.proofs.Common.{◌≡◌, ◌++◌}
use Rattle.std.specs.Vec.Iter.{into_iter_items}
use Rattle.function_lists.proofs.merge.move_all.Given as goal

-- the list and the elements that are left
abbrev pub invariant-loop-element : goal.invariant-loop-element
invariant-loop-element g l = l.list.items ++ into_iter_items l.element-iterator ≡ l.fn.list.items ++ l.fn.queue.items
