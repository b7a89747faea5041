use Rattle.read_backs.proofs.BackLemmas.{once}
use Rattle.read_backs.proofs.laws.read_once.Goals as goal

pub returns : goal.returns
returns c = once
