use Rattle.std.proofs.Common.{map, ◌∙◌}
use Rattle.bicep_program.specs.Program.{program_file}
use Rattle.bicep_typing.specs.Names.{listed}
use Rattle.bicep_types.proofs.FileLemmas.{place_same}
use Rattle.bicep_types.proofs.files.place_in.Goals as goal

pub returns : goal.returns
returns c =
    c.place_of.ensures
    ∙ place_same (map program_file c.args.files.now) (map listed c.args.outputs.now) c.args.file.now
    c.as_slice-entries.result.now c.args.types.now c.file_fits.result c.as_slice-entries.ensures.value c.requires
    c.file_fits.ensures
