use Rattle.filled_tables.proofs.SameLemmas.{members_same}
use Rattle.filled_tables.proofs.laws.members_become_the_same.Goals as goal

pub returns : goal.returns
returns c = λ a b same ps fs. members_same a b same ps fs
