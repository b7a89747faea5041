use Rattle.std.proofs.Common.{ap}
use Rattle.plan_numbers.specs.Numbers.{enter_tag}
use Rattle.plan_numbers.proofs.NumberLemmas.{none_added}
use Rattle.plan_numbers.proofs.numbering.number_enter.Goals as goal

pub returns-in-Put : goal.returns-in-Put
returns-in-Put c = λ os a e.
    none_added c.args.places.now os (enter_tag c.args.task.now) (ap enter_tag c.in-Put.is) a

pub returns-in-Leave : goal.returns-in-Leave
returns-in-Leave c = λ os a e.
    none_added c.args.places.now os (enter_tag c.args.task.now) (ap enter_tag c.in-Leave.is) a

pub returns-in-Delete : goal.returns-in-Delete
returns-in-Delete c = λ os a e.
    none_added c.args.places.now os (enter_tag c.args.task.now) (ap enter_tag c.in-Delete.is) a
