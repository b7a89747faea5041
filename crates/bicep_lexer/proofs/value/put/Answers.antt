use Rattle.std.proofs.Common.{◌∙◌, ap, rules}
use Rattle.std.specs.Str.{chars}
use Rattle.std.proofs.lemmas.Str.{IsUtf8-had}
use Rattle.foundation.proofs.Characters.{chars-push}
use Rattle.bicep_lexer.proofs.value.put.Goals as goal

pub returns : goal.returns
returns c = ap chars c.in_ok-push.ensures.bytes
    ∙ chars-push _ c.args.character (IsUtf8-had _ c.args.text.now.ok) (search rules)
