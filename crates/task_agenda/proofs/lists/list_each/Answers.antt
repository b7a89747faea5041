use Rattle.std.proofs.Common.{List, ℕ, sym, subst}
use Rattle.std.proofs.lemmas.List.{take_more}
use Rattle.depend_graph.proofs.Keeping.{stands_there}
use Rattle.task_agenda.proofs.ListLemmas.{AreSeenTo, one_seen_to}
use Rattle.task_agenda.proofs.lists.list_each.Goals as goal

pub list_if_ready-requires-clause-within : goal.list_if_ready-requires-clause-within
list_if_ready-requires-clause-within c =
    c.requires.within _ (stands_there c.args.tasks.now c.loop-task.task-index 0 c.loop-task-test.true)

pub loop-task-preserved : goal.loop-task-preserved
loop-task-preserved c =
    subst (λ (ts : List ℕ). AreSeenTo c.args.graph.now c.args.kinds.now c.args.scopes.now c.args.acts.now
    c.list_if_ready.new.scopes c.list_if_ready.new.acts ts)
    (sym (take_more c.args.tasks.now c.loop-task.task-index 0 c.loop-task-test.true))
    (one_seen_to _ _ _ _ _ _ _ _ _ _ c.loop-task.invariant c.list_if_ready.ensures.more
    c.in_ok-list_if_ready.ensures.seen_to)
