use Rattle.std.proofs.Common.{◌∙◌, ap, rules}
use Rattle.std.specs.Str.{chars}
use Rattle.std.proofs.lemmas.Str.{IsUtf8-had}
use Rattle.function_texts.proofs.Characters.{chars-push}
use Rattle.function_prints.proofs.filling.put_character.Goals as goal

pub returns : goal.returns
returns c = ap chars c.in_ok-push.ensures.bytes
    ∙ chars-push _ c.args.character (IsUtf8-had _ c.args.out.now.ok) (search rules)
