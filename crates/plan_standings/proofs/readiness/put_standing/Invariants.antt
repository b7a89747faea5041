use Rattle.std.proofs.Common.{◌-◌, ◌^◌, length}
use Rattle.plan_standings.specs.Waits.{HasStates}
use Rattle.plan_standings.proofs.readiness.put_standing.Given as goal

abbrev pub invariant-looks : goal.invariant-looks
invariant-looks l = HasStates l.plan l.held l.history.events l.fn.later l.later

abbrev pub decreases-looks : goal.decreases-looks
decreases-looks l = 2 ^ 63 - length l.later.states.items
