use Rattle.template_nestings.proofs.DeepLemmas.{template_deep}
use Rattle.template_nestings.proofs.laws.templates_nest_as_deep.Goals as goal

pub returns : goal.returns
returns c = λ u k n h. template_deep u k n h
