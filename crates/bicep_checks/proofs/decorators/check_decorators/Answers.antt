use Rattle.std.proofs.Common.{map, sym, ◌∙◌}
use Rattle.bicep_program.specs.Program.{program_file}
use Rattle.bicep_checks.proofs.OrderLemmas.{decorator_first, decorators_none}
use Rattle.bicep_checks.proofs.decorators.check_decorators.Goals as goal

pub returns-in-Some : goal.returns-in-Some
returns-in-Some c =
    decorator_first (map program_file c.args.files.now) c.requires c.in-Some.number c.in-Some.at
    (sym c.first_decorator.ensures ∙ c.in-Some.is)

pub returns-in-None : goal.returns-in-None
returns-in-None c =
    decorators_none (map program_file c.args.files.now) c.requires (sym c.first_decorator.ensures ∙ c.in-None.is)
