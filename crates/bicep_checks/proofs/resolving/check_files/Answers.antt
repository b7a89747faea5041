use Rattle.std.proofs.Common.{map}
use Rattle.bicep_program.specs.Program.{program_file}
use Rattle.resolved_program.specs.View.{file_view}
use Rattle.bicep_checks.proofs.OrderLemmas.{names_none}
use Rattle.bicep_checks.proofs.resolving.check_files.Goals as goal

pub returns-in-Err : goal.returns-in-Err
returns-in-Err c =
    c.in-Err.ensures.fault (map program_file c.args.files.now) c.requires.resolved
    (names_none (map program_file c.args.files.now) (map file_view c.args.resolved.now) c.requires.once
    c.requires.resolved)

pub check_decorators-requires : goal.check_decorators-requires
check_decorators-requires c =
    c.in-Ok.ensures.free (map program_file c.args.files.now) c.requires.resolved
    (names_none (map program_file c.args.files.now) (map file_view c.args.resolved.now) c.requires.once
    c.requires.resolved)
