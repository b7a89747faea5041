use Rattle.key_tags.proofs.CodeLemmas.{key_eq}
use Rattle.key_tags.proofs.laws.keys_are_told_apart.Goals as goal

pub returns : goal.returns
returns c = key_eq
