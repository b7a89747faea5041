use Rattle.std.specs.Str.{chars}
use Rattle.bicep_misplaced.specs.Words.{own}
use Rattle.bicep_misplaced.proofs.words.is_of_resource.Goals as goal

pub returns : goal.returns
unfolding chars own
returns c = c.is_among.ensures
