use Rattle.std.proofs.Common.{refl}
use Rattle.std.specs.Fmt.{digits}
use Rattle.bicep_meaning.specs.Files.{type_within}
use Rattle.emitted_declarations.specs.Declared.{next, through}
use Rattle.emission_tests.proofs.declarations.variables.Goals as goal

pub returns : goal.returns
unfolding digits type_within next through
returns c = record {
  entry = refl;
  state = refl;
}
