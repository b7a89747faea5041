use Rattle.template_nestings.proofs.BoundLemmas.{template_within}
use Rattle.template_nestings.proofs.laws.templates_nest_no_deeper.Goals as goal

pub returns : goal.returns
returns c = λ u n l h. template_within u n l h
