use Rattle.std.proofs.Common.{Some}
use Rattle.template_meaning.proofs.OnceLemmas.{once_template}
use Rattle.template_meaning.proofs.laws.described_once.Goals as goal

pub returns : goal.returns
returns c v = once_template (Some v)
