use Rattle.std.proofs.Common.{◌∙◌, ◌++◌, ap, string_bytes}
use Rattle.std.specs.Str.{chars}
use Rattle.std.proofs.lemmas.Str.{IsUtf8-had, chars-append}
use Rattle.bicep_outcomes.proofs.parts.push.Goals as goal

pub returns : goal.returns
returns c =
    ap chars c.in_ok-push_str.ensures.bytes
    ∙ chars-append (string_bytes c.args.out.now) c.as_str.result.now (IsUtf8-had _ c.args.out.now.ok)
    ∙ ap (λ r. chars (string_bytes c.args.out.now) ++ r) c.as_str.ensures.characters
