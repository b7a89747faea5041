-- What a call that is alone returns.
use Rattle.std.proofs.Common.{refl, Result, Ok, Err}
use Rattle.provider_trait.specs.Calls.{Counts, GivesUnlessMemory}
use Rattle.provider_trait.specs.declared.answer.Answer.{Answer}
use Rattle.provider_trait.specs.declared.answer.ProviderFault.{ProviderFault}
use Rattle.provider_trait.specs.declared.answer.ProviderFault.TheVariants.{Fault, OutOfMemory}

-- a call that returns an answer unless it is out of memory has not failed
pub counts_none : (answer : Answer) (r : Result Answer ProviderFault) → GivesUnlessMemory (Ok answer) r → Counts 0 0 r
counts_none answer (Ok x) g = refl
counts_none answer (Err Fault) g = absurd (cc)
counts_none answer (Err OutOfMemory) g = refl
