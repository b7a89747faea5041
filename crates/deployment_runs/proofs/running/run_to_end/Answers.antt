use Rattle.std.proofs.Common.{List, ap, subst, sym, vec_items}
use Rattle.deploy_histories.specs.Planned.{Planned}
use Rattle.board_history.specs.Past.{Past}
use Rattle.deploy_core.specs.Steps.{steps_of}
use Rattle.seat_calls.specs.Dones.{Made}
use Rattle.deployment_runs.specs.Runs.{HasRun}
use Rattle.deployment_runs.proofs.RunLemmas.{none_of_none, run_by}
use Rattle.deployment_runs.proofs.running.run_to_end.Goals as goal

pub drive-driven-requires-clause-none : goal.drive-driven-requires-clause-none
drive-driven-requires-clause-none g c κs within = none_of_none _ c.requires.fresh

pub returns-in-Ok-clause-run : goal.returns-in-Ok-clause-run
returns-in-Ok-clause-run g c =
    let made = Made g.P.Provider.may g.P.Provider.tells g.P.Provider.calls g.P.Provider.faults in
    let drove = subst (λ (y : Planned). HasRun made (steps_of y c.drive-driven.new.board.1.events)
    (vec_items c.args.seats.now) (vec_items c.drive-driven.new.seats)) (ap (λ f. f.0) c.drive-driven.ensures.stays)
    (run_by made _ _ _ _ _ _ _ _ c.requires.fresh c.drive-driven.ensures.drove) in
    subst (λ (y : Past). HasRun made (steps_of (g.S.Standings.planned c.args.board.now.0) y.events)
    (vec_items c.args.seats.now) (vec_items c.drive-driven.new.seats)) (sym c.ended.ensures.past) drove

pub returns-in-Err-Provider-clause-run : goal.returns-in-Err-Provider-clause-run
returns-in-Err-Provider-clause-run g c =
    let made = Made g.P.Provider.may g.P.Provider.tells g.P.Provider.calls g.P.Provider.faults in
    subst (λ (y : Planned). HasRun made (steps_of y c.drive-driven.new.board.1.events)
    (vec_items c.args.seats.now) (vec_items c.drive-driven.new.seats)) (ap (λ f. f.0) c.drive-driven.ensures.stays)
    (run_by made _ _ _ _ _ _ _ _ c.requires.fresh c.drive-driven.ensures.drove)

pub returns-in-Err-OutOfMemory-clause-run : goal.returns-in-Err-OutOfMemory-clause-run
returns-in-Err-OutOfMemory-clause-run g c =
    let made = Made g.P.Provider.may g.P.Provider.tells g.P.Provider.calls g.P.Provider.faults in
    subst (λ (y : Planned). HasRun made (steps_of y c.drive-driven.new.board.1.events)
    (vec_items c.args.seats.now) (vec_items c.drive-driven.new.seats)) (ap (λ f. f.0) c.drive-driven.ensures.stays)
    (run_by made _ _ _ _ _ _ _ _ c.requires.fresh c.drive-driven.ensures.drove)
