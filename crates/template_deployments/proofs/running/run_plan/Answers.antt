use Rattle.std.proofs.Common.{◌<◌, ◌≤◌, subst, sym}
use Rattle.plan_boards.specs.Kept.{planned_of}
use Rattle.template_deployments.proofs.CameLemmas.{ran_plan, turned_down}
use Rattle.template_deployments.proofs.running.run_plan.Goals as goal

pub run_board-requires-clause-few : goal.run_board-requires-clause-few
run_board-requires-clause-few g c κs within =
    subst (λ n. (0 < n) × (n ≤ 4294967295)) (sym c.args.seats.now.ok.0) c.requires.allowed.may.ready.few

pub returns-in-Ok : goal.returns-in-Ok
returns-in-Ok g c =
    ran_plan g.P.Provider.may g.P.Provider.tells g.P.Provider.faults g.P.Provider.calls c.args.seats.now
    c.run_board.new.seats c.run_board.result c.args.plan.now c.args.held.now c.one_outcome_of_a_plan.ensures.some
    c.requires.allowed c.len-length.ensures.in_order c.len-length.ensures.named c.run_board.ensures.free
    (planned_of c.in-Ok.board.0) c.in-Ok.ensures.planned c.as_str.result.now c.as_str.ensures.bytes
    c.run_board.ensures.reported

pub returns-in-Err : goal.returns-in-Err
returns-in-Err g c =
    turned_down g.P.Provider.may g.P.Provider.tells g.P.Provider.faults g.P.Provider.calls c.args.seats.now
    c.refused.result _ _ _ _ c.requires.allowed.may.ready c.refused.ensures tt
