use Rattle.std.proofs.Common.{ap, sym, ◌∙◌, ◌++◌, ◌∷◌, [], List, Bool, map, take}
use Rattle.board_dealing.specs.Kept.{enters_or_leaves}
use Rattle.deploy_core.proofs.OpenLemmas.{kinds_more}
use Rattle.deploy_core.proofs.opening.kinds.Goals as goal

pub loop-task-preserved : goal.loop-task-preserved
loop-task-preserved g c =
    c.in_ok-push.ensures.items ∙ ap (λ (l : List Bool). l ++ c.is_of_scope.result ∷ []) c.loop-task.invariant
    ∙ ap (λ (b : Bool). map enters_or_leaves (take c.loop-task.task (g.S.Standings.planned c.args.standings.now).tasks)
    ++ b ∷ []) c.is_of_scope.ensures
    ∙ sym (kinds_more (g.S.Standings.planned c.args.standings.now).tasks c.loop-task.task c.kind.result c.kind.ensures)
