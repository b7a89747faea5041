use Rattle.std.proofs.Common.{length}
use Rattle.ordered_emissions.proofs.HeadLemmas.{has_heads}
use Rattle.ordered_emissions.proofs.laws.whole_names_and_conditions_have_holes.Goals as goal

pub returns : goal.returns
returns c = λ file files sound n. has_heads file files sound (length file.symbols) n
