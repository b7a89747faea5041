use Rattle.std.proofs.Common.{◌-◌, ◌^◌, length}
use Rattle.plan_standings.specs.Entering.{HasMore}
use Rattle.plan_standings.proofs.failing.enter_failing.Given as goal

abbrev pub invariant-looks : goal.invariant-looks
invariant-looks l = HasMore l.plan l.held l.history.events l.fn.later l.later

abbrev pub decreases-looks : goal.decreases-looks
decreases-looks l = 2 ^ 63 - length l.later.states.items
