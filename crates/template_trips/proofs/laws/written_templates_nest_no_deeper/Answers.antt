use Rattle.template_trips.proofs.TemplateLemmas.{nesting_kept}
use Rattle.template_trips.proofs.laws.written_templates_nest_no_deeper.Goals as goal

pub returns : goal.returns
returns c = nesting_kept
