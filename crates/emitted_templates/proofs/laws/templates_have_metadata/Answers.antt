use Rattle.emitted_templates.proofs.MetadataLemmas.{has_metadata}
use Rattle.emitted_templates.proofs.laws.templates_have_metadata.Goals as goal

pub returns : goal.returns
returns c = λ z s rs us ms os u t noted of_symbol of_output given.
    has_metadata z s rs us ms os of_symbol of_output given u t noted
