use Rattle.program_templates.proofs.ScopeLemmas.{whole_is_emitted}
use Rattle.program_templates.proofs.laws.whole_templates_are_emitted.Goals as goal

pub returns : goal.returns
returns c = whole_is_emitted
