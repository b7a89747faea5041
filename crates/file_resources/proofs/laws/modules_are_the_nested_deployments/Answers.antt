use Rattle.file_resources.proofs.NestedLemmas.{modules_are}
use Rattle.file_resources.proofs.laws.modules_are_the_nested_deployments.Goals as goal

pub returns : goal.returns
returns c = λ z s us h rs built. modules_are z s us h rs built
