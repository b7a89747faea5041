use Rattle.std.proofs.Common.{ap, ◌∙◌}
use Rattle.std.specs.Str.{chars}
use Rattle.std.proofs.lemmas.Str.{chars-nil}
use Rattle.bicep_meaning.specs.Files.{type_within}
use Rattle.tree_tests.proofs.sample.SampleDeclarations.kind.Goals as goal

pub returns : goal.returns
unfolding type_within
returns c = c.from_string.ensures.characters ∙ ap chars c.new.ensures.bytes ∙ chars-nil
