use Rattle.file_templates.proofs.TextLemmas.{can_be_filled}
use Rattle.file_templates.proofs.laws.parts_within_the_limits_can_be_filled.Goals as goal

pub returns : goal.returns
returns c = λ z t r rs x h k. can_be_filled c.files_within_the_limits_fit.ensures z t r rs x h k
