use Rattle.std.proofs.Common.{◌∙◌, ap, rules}
use Rattle.std.specs.Str.{chars}
use Rattle.std.proofs.lemmas.Str.{IsUtf8-had}
use Rattle.foundation.proofs.Characters.{chars-push}
use Rattle.arm_expr.proofs.lexer.add_quote.Goals as goal

pub returns : goal.returns
returns c = ap chars c.in_ok-push.ensures.bytes ∙ chars-push _ 39 (IsUtf8-had _ c.args.value.now.ok) (search rules)
