use Rattle.std.proofs.Common.{ap, ◌∙◌}
use Rattle.std.specs.Str.{chars}
use Rattle.std.proofs.lemmas.Str.{chars-nil}
use Rattle.bicep_eval_tests.proofs.SampleLemmas.{no_version}
use Rattle.bicep_eval_tests.proofs.sample.SampleSurroundings.version.Goals as goal

pub returns : goal.returns
returns c =
    c.from_string.ensures.characters ∙ ap chars c.new.ensures.bytes ∙ chars-nil ∙ no_version c.args._number
