use Rattle.std.specs.Str.{chars}
use Rattle.bicep_misplaced.specs.Words.{copying}
use Rattle.bicep_misplaced.proofs.words.is_copying.Goals as goal

pub returns : goal.returns
unfolding chars copying
returns c = c.is_among.ensures
