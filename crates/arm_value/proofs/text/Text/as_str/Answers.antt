use Rattle.std.proofs.Common.{sym}
use Rattle.std.proofs.lemmas.Str.{encodes-chars, IsUtf8-string_bytes}
use Rattle.arm_value.proofs.text.Text.as_str.Goals as goal

pub returns-clause-bytes : goal.returns-clause-bytes
returns-clause-bytes c =
    rw (c.as_str.ensures.value, ← c.self.view_is) (sym (encodes-chars _ (IsUtf8-string_bytes c.self.inside.text)))
