use Rattle.program_templates.proofs.KindLemmas.{kinds_match}
use Rattle.program_templates.proofs.laws.checked_files_have_kinds.Goals as goal

pub returns : goal.returns
returns c = kinds_match
