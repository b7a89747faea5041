use Rattle.std.proofs.Common.{◌∙◌, ap, sym, subst, option_and_then}
use Rattle.base64.specs.Engines.{standard}
use Rattle.base64.specs.GeneralPurpose.{IsDecodeFailure, decoded_of}
use Rattle.function_identities.specs.Encodings.{text_of_bytes}
use Rattle.function_identities.proofs.TextLemmas.{decodes, decodes_not}
use Rattle.function_identities.proofs.encodings.decoded.Goals as goal

pub returns-in-Ok : goal.returns-in-Ok
returns-in-Ok c =
    let input = c.as_bytes.ensures.value ∙ c.as_str.ensures.bytes in
    c.text_of_bytes.ensures
    ∙ ap (option_and_then text_of_bytes)
    (sym (ap (decoded_of standard) (sym input) ∙ decodes c.as_bytes.result.now _ c.in-Ok.ensures.ok))

pub returns-in-Err-DecodeError : goal.returns-in-Err-DecodeError
returns-in-Err-DecodeError c =
    let input = c.as_bytes.ensures.value ∙ c.as_str.ensures.bytes in
    let failed = subst (λ e. IsDecodeFailure standard c.as_bytes.result.now e) c.in-Err-DecodeError.field-0-is
    c.in-Err-DecodeError.ensures.err in
    sym (ap (option_and_then text_of_bytes) (ap (decoded_of standard) (sym input)
    ∙ decodes_not c.as_bytes.result.now c.in-Err-DecodeError.field-0-0 failed))
