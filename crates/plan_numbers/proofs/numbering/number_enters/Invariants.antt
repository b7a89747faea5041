use Rattle.std.proofs.Common.{map, take}
use Rattle.tag_places.specs.Places.{ArePlaces}
use Rattle.plan_numbers.specs.Numbers.{enter_tag}
use Rattle.plan_numbers.proofs.numbering.number_enters.Given as goal

abbrev pub invariant-tasks : goal.invariant-tasks
invariant-tasks l = ArePlaces l.places (map enter_tag (take l.number l.tasks))
