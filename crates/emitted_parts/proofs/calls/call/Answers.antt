use Rattle.emitted_parts.proofs.BuiltLemmas.{word_made}
use Rattle.emitted_parts.proofs.calls.call.Goals as goal

pub returns : goal.returns
returns c = λ h ts i. c.named.ensures c.args.name.now ts (word_made c.args.name.now c.of.result h c.of.ensures) i
