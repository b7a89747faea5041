use Rattle.std.proofs.Common.{refl}
use Rattle.std.specs.Fmt.{digits}
use Rattle.bicep_meaning.specs.Files.{type_within}
use Rattle.emitted_declarations.specs.Declared.{next, through}
use Rattle.emission_tests.proofs.declarations.fields.Goals as goal

pub returns : goal.returns
unfolding digits type_within next through
returns c = record {
  name = refl;
  kind = refl;
  version = refl;
  nested_kind = refl;
  nested_version = refl;
  nested_id = refl;
  properties = refl;
  member = refl;
}
