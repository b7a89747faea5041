use Rattle.std.proofs.Common.{◌≡◌, List, map, subst, sym}
use Rattle.std.specs.Prelude.{IfErr, IfOk}
use Rattle.plan_cells.specs.Plan.{Need}
use Rattle.deploy_histories.specs.Planned.{Planned}
use Rattle.deploy_core.specs.Opens.{AreStartNeeds}
use Rattle.board_replays.specs.Replays.{noted_of, IsBoardFault, IsReopened}
use Rattle.plan_standings.specs.Kept.{planned_of}
use Rattle.plan_boards.proofs.OpenLemmas.{new_planned, needs_so}
use Rattle.plan_boards.proofs.opening.reopen_board.Goals as goal

pub open-requires-clause-needs : goal.open-requires-clause-needs
open-requires-clause-needs c =
    let g = c.args.plan.now in
    let s = c.in-Ok.standings in
    subst (λ (ns : List Need). AreStartNeeds (planned_of s) ns) (sym c.as_slice.ensures.value)
    (needs_so g c.args.held.now s c.in-Ok.ensures
    (c.needs_are_listed.ensures g c.args.held.now c.requires.accepted.is_planned))

pub returns-in-Ok-clause-planned : goal.returns-in-Ok-clause-planned
returns-in-Ok-clause-planned c =
    subst (λ (x : Planned). IfOk c.open.result (λ b. planned_of b.0 ≡ x))
    (new_planned c.args.plan.now c.args.held.now c.in-Ok.standings c.in-Ok.ensures) c.open.ensures.planned

pub returns-in-Ok-clause-reopened : goal.returns-in-Ok-clause-reopened
returns-in-Ok-clause-reopened c =
    subst (λ (x : Planned). IfOk c.open.result (λ b. IsReopened x (map noted_of c.args.answers.items) b.1.events))
    (new_planned c.args.plan.now c.args.held.now c.in-Ok.standings c.in-Ok.ensures) c.open.ensures.reopened

pub returns-in-Ok-clause-fault : goal.returns-in-Ok-clause-fault
returns-in-Ok-clause-fault c =
    subst (λ (x : Planned). IfErr c.open.result (IsBoardFault x (map noted_of c.args.answers.items)))
    (new_planned c.args.plan.now c.args.held.now c.in-Ok.standings c.in-Ok.ensures) c.open.ensures.fault
