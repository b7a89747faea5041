use Rattle.std.proofs.Common.{map, sym, ◌∙◌}
use Rattle.bicep_program.specs.Program.{program_file}
use Rattle.resolved_program.specs.View.{file_view}
use Rattle.bicep_types.proofs.FaultLemmas.{metadata_answer, types_none, types_answer}
use Rattle.bicep_types.proofs.checking.check_types.Goals as goal

pub returns-in-Some-clause-fault : goal.returns-in-Some-clause-fault
returns-in-Some-clause-fault c =
    metadata_answer (map program_file c.args.files.now) c.requires.none c.in-Some.number c.in-Some.at
    (sym c.first_metadata.ensures ∙ c.in-Some.is)

pub returns-in-None-clause-none : goal.returns-in-None-clause-none
returns-in-None-clause-none c =
    types_none (map program_file c.args.files.now) (map file_view c.args.resolved.now) c.requires.resolved
    (sym c.first_metadata.ensures ∙ c.in-None.is) c.types_of.result c.types_of.ensures.none

pub returns-in-None-clause-fault : goal.returns-in-None-clause-fault
returns-in-None-clause-fault c =
    types_answer (map program_file c.args.files.now) (map file_view c.args.resolved.now) c.requires.resolved
    c.requires.none c.types_of.result c.types_of.ensures.fault
