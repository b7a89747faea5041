use Rattle.std.proofs.Common.{◌∙◌, Some, ap, sym, subst, IsUtf8}
use Rattle.std.specs.Str.{chars}
use Rattle.std.proofs.lemmas.Str.{IsUtf8-string_bytes}
use Rattle.function_identities.proofs.TextLemmas.{is_text, no_text}
use Rattle.function_identities.proofs.encodings.text_of_bytes.Goals as goal

pub returns-in-Ok : goal.returns-in-Ok
returns-in-Ok c =
    let same = ap (λ v. v.items) c.in-Ok.ensures.ok in
    ap Some (c.from_string.ensures.characters ∙ ap chars same)
    ∙ sym (is_text c.args.bytes.items (subst IsUtf8 same (IsUtf8-string_bytes c.in-Ok.text)))

pub returns : goal.returns
returns c = no_text c.args.bytes.items c.in-Err.ensures.succeeds
