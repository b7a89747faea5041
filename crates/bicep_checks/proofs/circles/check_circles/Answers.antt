use Rattle.std.proofs.Common.{map}
use Rattle.resolved_program.specs.View.{file_view}
use Rattle.bicep_checks.proofs.OrderLemmas.{circle_answer, circles_pass}
use Rattle.bicep_checks.proofs.circles.check_circles.Goals as goal

pub returns-clause-free : goal.returns-clause-free
returns-clause-free c =
    λ files h b.
    circles_pass files (map file_view c.args.resolved.now) h b c.all_walked.result c.all_walked.ensures.free

pub returns-clause-fault : goal.returns-clause-fault
returns-clause-fault c =
    λ files h b.
    circle_answer files (map file_view c.args.resolved.now) h b c.all_walked.result c.all_walked.ensures.fault
