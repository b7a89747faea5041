use Rattle.emitted_resources.proofs.ResourceLemmas.{resource_is}
use Rattle.emitted_resources.proofs.laws.built_resources_are_emitted.Goals as goal

pub returns : goal.returns
returns c = λ s n b symbol needs d x e q h m w. resource_is s n b symbol needs d x e q h m w
