use Rattle.emitted_modules.proofs.ModuleLemmas.{module_is}
use Rattle.emitted_modules.proofs.laws.built_modules_are_emitted.Goals as goal

pub returns : goal.returns
returns c = λ s n at b symbol needs u d x is e q h m w. module_is s n at b is symbol needs u d x e q h m w
