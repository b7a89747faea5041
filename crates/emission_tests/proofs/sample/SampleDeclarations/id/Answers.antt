use Rattle.std.proofs.Common.{refl}
use Rattle.emission_tests.proofs.sample.SampleDeclarations.id.Goals as goal

pub returns : goal.returns
returns c = c.call_two.ensures refl _ _ (c.word.ensures refl) c.index_of.ensures
