use Rattle.std.proofs.Common.{◌∙◌, ◌++◌, ap, string_bytes}
use Rattle.std.specs.Str.{chars}
use Rattle.std.proofs.lemmas.Str.{IsUtf8-had, chars-append}
use Rattle.arm_expr.proofs.lexer.add_part.Goals as goal

pub returns-clause-front : goal.returns-clause-front
returns-clause-front c =
    ap chars c.in_ok-push_str.ensures.bytes
    ∙ chars-append (string_bytes c.args.value.now) c.run_of.result.0.now (IsUtf8-had _ c.args.value.now.ok)
    ∙ ap (λ r. chars (string_bytes c.args.value.now) ++ r) c.run_of.ensures.front
