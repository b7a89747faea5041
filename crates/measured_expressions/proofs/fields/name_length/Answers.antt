use Rattle.std.proofs.Common.{sym, ◌∙◌}
use Rattle.std.specs.Str.{chars}
use Rattle.measured_expressions.proofs.NameLemmas.{spelled_length}
use Rattle.measured_expressions.proofs.fields.name_length.Goals as goal

pub returns : goal.returns
returns c = spelled_length (chars c.args.function.now.name.now) ∙ sym c.characters.ensures
