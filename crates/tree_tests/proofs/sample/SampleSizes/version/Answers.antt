use Rattle.std.proofs.Common.{refl}
use Rattle.bicep_meaning.specs.Files.{type_within}
use Rattle.tree_tests.proofs.sample.SampleSizes.version.Goals as goal

pub returns : goal.returns
unfolding type_within
returns c = c.word.ensures refl
