use Rattle.std.proofs.Common.{◌∙◌, sym, ap, encode_utf8_all}
use Rattle.std.proofs.lemmas.Str.{encodes-chars, IsUtf8-string_bytes}
use Rattle.arm_value.proofs.text.Text.into_string.Goals as goal

pub returns-clause-bytes : goal.returns-clause-bytes
returns-clause-bytes c = sym (encodes-chars _ (IsUtf8-string_bytes c.self.inside.text))
    ∙ ap encode_utf8_all c.self.view_is
