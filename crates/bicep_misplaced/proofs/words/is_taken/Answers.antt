use Rattle.std.specs.Str.{chars}
use Rattle.bicep_misplaced.specs.Words.{taken}
use Rattle.bicep_misplaced.proofs.words.is_taken.Goals as goal

pub returns : goal.returns
unfolding chars taken
returns c = c.is_among.ensures
