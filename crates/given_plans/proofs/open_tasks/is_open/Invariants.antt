use Rattle.std.proofs.Common.{◌≡◌, map, take}
use Rattle.deploy_histories.specs.Events.{progress}
use Rattle.board_history.specs.Past.{event_of}
use Rattle.given_plans.specs.Open.{is_open_now}
use Rattle.given_plans.proofs.open_tasks.is_open.Given as goal

abbrev pub invariant-loop-event : goal.invariant-loop-event
invariant-loop-event l =
    l.open ≡ is_open_now (progress (map event_of (take l.event-index l.events))) l.task
