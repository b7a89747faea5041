use Rattle.template_written.proofs.DescribedLemmas.{described}
use Rattle.template_written.proofs.laws.written_templates_are_described.Goals as goal

pub returns : goal.returns
returns c = described
