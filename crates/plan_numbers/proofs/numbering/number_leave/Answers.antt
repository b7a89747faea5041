use Rattle.std.proofs.Common.{ap}
use Rattle.plan_numbers.specs.Numbers.{leave_tag}
use Rattle.plan_numbers.proofs.NumberLemmas.{none_added}
use Rattle.plan_numbers.proofs.numbering.number_leave.Goals as goal

pub returns-in-Put : goal.returns-in-Put
returns-in-Put c = λ os a e.
    none_added c.args.places.now os (leave_tag c.args.task.now) (ap leave_tag c.in-Put.is) a

pub returns-in-Enter : goal.returns-in-Enter
returns-in-Enter c = λ os a e.
    none_added c.args.places.now os (leave_tag c.args.task.now) (ap leave_tag c.in-Enter.is) a

pub returns-in-Delete : goal.returns-in-Delete
returns-in-Delete c = λ os a e.
    none_added c.args.places.now os (leave_tag c.args.task.now) (ap leave_tag c.in-Delete.is) a
