use Rattle.std.proofs.Common.{refl}
use Rattle.function_identities.specs.Base32.{bits_of, groups_of}
use Rattle.function_identities.proofs.laws.base32_has_the_examples_of_its_standard.Goals as goal

pub returns : goal.returns
unfolding bits_of groups_of
returns c = refl
