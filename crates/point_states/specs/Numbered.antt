-- The numbers of the tasks of a plan.
use Rattle.plan_numbers.specs.declared.numbers.Numbers.{Numbers}

abbrev pub TaskNumbers : Type 0
TaskNumbers = Numbers
