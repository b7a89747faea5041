use Rattle.kept_templates.proofs.KeptLemmas.{template_kept}
use Rattle.kept_templates.proofs.laws.templates_keep_the_rules.Goals as goal

pub returns : goal.returns
returns c = λ z s rs us u h ready differ placed small kept. template_kept z s rs us u h ready differ placed small kept
