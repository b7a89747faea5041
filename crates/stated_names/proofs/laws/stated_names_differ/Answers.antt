use Rattle.stated_names.proofs.TreeNames.{stated_names}
use Rattle.stated_names.proofs.laws.stated_names_differ.Goals as goal

pub returns : goal.returns
returns c = stated_names
