use Rattle.template_trips.proofs.TemplateLemmas.{fault_kept}
use Rattle.template_trips.proofs.laws.written_templates_have_no_fault.Goals as goal

pub returns : goal.returns
returns c = fault_kept
