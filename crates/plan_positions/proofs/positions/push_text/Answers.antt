use Rattle.std.proofs.Common.{◌∙◌, ap, chars, string_bytes}
use Rattle.std.proofs.lemmas.Str.{chars-append, IsUtf8-string_bytes}
use Rattle.plan_positions.proofs.positions.push_text.Goals as goal

pub returns : goal.returns
returns c =
    ap chars c.in_ok-push_str.ensures.bytes
    ∙ chars-append (string_bytes c.args.position.now) c.args.text.now (IsUtf8-string_bytes c.args.position.now)
