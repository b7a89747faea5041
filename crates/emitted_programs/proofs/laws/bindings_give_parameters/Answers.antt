use Rattle.emitted_programs.proofs.BindingLemmas.{bindings}
use Rattle.emitted_programs.proofs.laws.bindings_give_parameters.Goals as goal

pub returns : goal.returns
returns c = λ d u bound h. bindings d u bound h
