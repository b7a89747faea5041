use Rattle.std.proofs.Common.{map, ap, subst, ◌∙◌}
use Rattle.std.specs.List.{AllByRecursion}
use Rattle.bicep_program.specs.Program.{program_file}
use Rattle.bicep_typing.specs.Names.{listed}
use Rattle.resolved_program.specs.View.{file_view}
use Rattle.bicep_types.specs.Program.{IsSettledBy}
use Rattle.bicep_types.proofs.FaultLemmas.{all_free}
use Rattle.bicep_types.proofs.FileLemmas.{all_declared}
use Rattle.bicep_types.proofs.checking.types_of.Goals as goal

pub all_symbol_types-requires-clause-declared : goal.all_symbol_types-requires-clause-declared
all_symbol_types-requires-clause-declared c =
    all_declared (map program_file c.args.files.now) (map program_file c.args.files.now)
    (map file_view c.args.resolved.now) c.requires.resolved

pub all_symbol_types-requires-clause-free : goal.all_symbol_types-requires-clause-free
all_symbol_types-requires-clause-free c =
    all_free (map program_file c.args.files.now) (map file_view c.args.resolved.now) c.requires.resolved
    c.requires.none

pub returns-in-Ok-all_symbol_types-clause-settled :
    goal.returns-in-Ok-all_symbol_types-clause-settled
returns-in-Ok-all_symbol_types-clause-settled c =
    subst (λ os. AllByRecursion (IsSettledBy os) (map file_view c.args.resolved.now))
    (ap (map listed) c.as_slice.ensures.value ∙ c.in-Ok.ensures) c.in-Ok-all_symbol_types.ensures.settled
