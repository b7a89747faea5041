use Rattle.emitted_worlds.proofs.FactLemmas.{facts}
use Rattle.emitted_worlds.proofs.laws.desired_worlds_have_facts.Goals as goal

pub returns : goal.returns
returns c = λ z d t opening held m own o k w n e. facts z d t opening held m own o k w n e
