use Rattle.std.proofs.Common.{List, Ok, sym, ap, subst, ◌∙◌}
use Rattle.std.specs.Prelude.{IfOk}
use Rattle.deploy_histories.specs.Events.{Event, progress}
use Rattle.deploy_histories.specs.Legal.{HasEnded}
use Rattle.deploy_histories.specs.Planned.{Planned}
use Rattle.board_dealing.specs.Boards.{IsNext}
use Rattle.sample_boards.proofs.ending.reported.Goals as goal

pub ended-requires : goal.ended-requires
ended-requires g c =
    let x = g.S.Standings.planned c.args.board.now.0 in
    let new : List Event = c.next.new.self.1.events in
    let asked = subst (λ r. IfOk r (λ n. IsNext x c.args.board.now.1.events 7 n new))
    (c.in-Ok-End.is ∙ ap (λ n. Ok n) c.in-Ok-End.field-0-is) c.next.ensures.next in
    subst (λ (y : Planned). HasEnded y (progress new)) (sym c.next.ensures.planned) asked.1
