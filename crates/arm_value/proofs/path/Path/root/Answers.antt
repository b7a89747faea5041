use Rattle.std.proofs.Common.{◌∙◌, ap, chars}
use Rattle.std.proofs.lemmas.Str.{chars-nil}
use Rattle.arm_value.proofs.path.Path.root.Goals as goal

pub returns : goal.returns
returns c = c.from_string.ensures.characters ∙ ap chars c.new.ensures.bytes ∙ chars-nil
