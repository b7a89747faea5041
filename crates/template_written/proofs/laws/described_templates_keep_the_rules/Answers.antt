use Rattle.std.proofs.Common.{Some}
use Rattle.template_written.proofs.KeptLemmas.{described_keep}
use Rattle.template_written.proofs.laws.described_templates_keep_the_rules.Goals as goal

pub returns : goal.returns
returns c v = described_keep (Some v)
