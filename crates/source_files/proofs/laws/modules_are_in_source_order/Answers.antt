use Rattle.source_files.proofs.SourceLemmas.{first_form}
use Rattle.source_files.proofs.laws.modules_are_in_source_order.Goals as goal

pub returns : goal.returns
returns c = first_form
