use Rattle.std.proofs.Common.{◌≡◌, take}
use Rattle.dealer_trait.specs.Steps.{begun}
use Rattle.driver_tests.specs.Begun.{act_of}
use Rattle.driver_tests.proofs.steps.begun_act.Given as goal

abbrev pub invariant-loop-step : goal.invariant-loop-step
invariant-loop-step l = l.act ≡ act_of (begun l.task (take l.step-index l.steps))
