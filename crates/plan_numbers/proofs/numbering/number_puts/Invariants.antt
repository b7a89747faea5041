use Rattle.std.proofs.Common.{◌≡◌, take}
use Rattle.plan_numbers.specs.Numbers.{puts_in}
use Rattle.plan_numbers.specs.Steps.{IsNumbered}
use Rattle.plan_numbers.proofs.numbering.number_puts.Given as goal

abbrev pub invariant-tasks : goal.invariant-tasks
invariant-tasks l =
    IsNumbered l.places (take l.number l.tasks) l.keys × (l.used ≡ puts_in (take l.number l.tasks))
