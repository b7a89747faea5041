use Rattle.std.proofs.Common.{map, ◌∙◌}
use Rattle.bicep_program.specs.Program.{program_file}
use Rattle.resolved_program.specs.View.{file_view}
use Rattle.resolved_program.proofs.ResolveLemmas.{whole, first}
use Rattle.resolved_program.proofs.resolving.resolve_names.Goals as goal

pub returns-in-Ok-resolve_all-clause-resolved : goal.returns-in-Ok-resolve_all-clause-resolved
returns-in-Ok-resolve_all-clause-resolved c =
    whole (map program_file c.args.files.now) _ c.as_slice.result.now c.in-Ok.ensures.named
    (c.as_slice.ensures.value ∙ c.in-Ok.ensures.outputs) (map file_view c.in-Ok-resolve_all.files.items)
    c.in-Ok-resolve_all.ensures.resolved

pub returns-clause-fault : goal.returns-clause-fault
returns-clause-fault c =
    first (map program_file c.args.files.now) _ c.as_slice.result.now c.in-Ok.ensures.named
    (c.as_slice.ensures.value ∙ c.in-Ok.ensures.outputs) c.in-Err-resolve_all.fault c.in-Ok.ensures.once
    c.in-Err-resolve_all.ensures.fault
