use Rattle.std.proofs.Common.{refl}
use Rattle.emitted_parts.proofs.states.deployment.Goals as goal

pub returns : goal.returns
returns c = λ a i. c.call_one.ensures refl _ (c.call_two-id.ensures refl _ a (c.word.ensures refl) i)
