use Rattle.std.proofs.Common.{◌∙◌, ap, encode_utf8_all, List, ℕ, Vec, Global}
use Rattle.arm_value.specs.Look.{fold}
use Rattle.arm_value.proofs.TextLemmas.{fold-chars}
use Rattle.name_set.proofs.set.key_of.Goals as goal

pub returns : goal.returns
returns c =
    ap (λ (v : Vec ℕ Global). v.items) c.into_bytes.ensures.value
    ∙ c.into_string.ensures.bytes ∙ c.from_string-folded.ensures.bytes
    ∙ c.in_ok-to_ascii_lowercase.ensures.ok ∙ fold-chars c.as_str.result.now c.as_str.utf8
    ∙ ap (λ (t : List ℕ). encode_utf8_all (fold t)) c.as_str.ensures.characters
