use Rattle.std.proofs.Common.{◌∙◌, ap, encode_utf8_all}
use Rattle.std.specs.Str.{chars}
use Rattle.base64.specs.Engines.{standard}
use Rattle.base64.specs.GeneralPurpose.{encode_of}
use Rattle.function_identities.proofs.TextLemmas.{encoded_characters}
use Rattle.function_identities.proofs.encodings.encoded.Goals as goal

pub returns : goal.returns
returns c =
    c.from_string.ensures.characters
    ∙ ap chars (c.in_ok-encoded.ensures.text
    ∙ ap (encode_of standard) (c.as_bytes.ensures.value ∙ c.as_str.ensures.bytes))
    ∙ encoded_characters (encode_utf8_all c.args.text.now)
