use Rattle.plan_tags.proofs.TagLemmas.{by_tags}
use Rattle.plan_tags.proofs.laws.needs_by_tags.Goals as goal

pub returns : goal.returns
returns c = by_tags
