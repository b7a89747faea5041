use Rattle.std.proofs.Common.{map, sym, subst}
use Rattle.bicep_program.specs.Program.{program_file}
use Rattle.bicep_checks.specs.Order.{IsAnswer}
use Rattle.bicep_checks.proofs.OrderLemmas.{argument_first, arguments_none}
use Rattle.bicep_checks.proofs.arguments.check_arguments.Goals as goal

pub returns-in-Ok-Some : goal.returns-in-Ok-Some
returns-in-Ok-Some c =
    subst (IsAnswer (map program_file c.args.files.now)) (sym c.fault_in.ensures)
    (argument_first (map program_file c.args.files.now) c.requires c.in-Ok-Some.number c.in-Ok-Some.fault
    (sym (rw c.in-Ok-Some.field-0-is at c.in-Ok-Some.ensures)))

pub returns-in-Ok-None : goal.returns-in-Ok-None
returns-in-Ok-None c =
    arguments_none (map program_file c.args.files.now) c.requires
    (sym (rw c.in-Ok-None.field-0-is at c.in-Ok-None.ensures))
