use Rattle.std.proofs.Common.{◌≡◌, drop, map}
use Rattle.plan_table.specs.Opened.{step_of}
use Rattle.plan_telling.proofs.register.are_one.Given as goal

abbrev pub invariant-loop-number : goal.invariant-loop-number
invariant-loop-number l =
    map step_of (drop l.number l.first) ≡ map step_of (drop l.number l.second)
    → map step_of l.first ≡ map step_of l.second
