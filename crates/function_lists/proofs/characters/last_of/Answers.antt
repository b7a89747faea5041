use Rattle.std.proofs.Common.{rules, ◌≡◌, ◌++◌, ◌∙◌, ap, sym, length, encode_utf8}
use Rattle.std.specs.Str.{chars}
use Rattle.std.specs.Str.Iter.{chars_rest}
use Rattle.function_lists.proofs.CharacterLemmas.{no_last, last_begins, last_alone}
use Rattle.function_lists.proofs.characters.last_of.Goals as goal

pub split_at-requires : goal.split_at-requires
split_at-requires c =
    let e : c.args.text.now ≡ c.as_str-front.result.now ++ encode_utf8 c.in-Some.field-0 =
    sym c.chars-characters.ensures.rest ∙ c.in-Some.ensures.steps
    ∙ ap (λ l. l ++ encode_utf8 c.in-Some.field-0) (sym c.as_str-front.ensures) in
    last_begins c.args.text.now c.as_str-front.result.now c.in-Some.field-0 c.as_str-front.utf8 (search rules) e

pub returns-in-Some : goal.returns-in-Some
returns-in-Some c =
    let e : c.args.text.now ≡ c.as_str-front.result.now ++ encode_utf8 c.in-Some.field-0 =
    sym c.chars-characters.ensures.rest ∙ c.in-Some.ensures.steps
    ∙ ap (λ l. l ++ encode_utf8 c.in-Some.field-0) (sym c.as_str-front.ensures) in
    ap chars c.split_at.ensures.back
    ∙ last_alone c.args.text.now c.as_str-front.result.now c.in-Some.field-0 c.as_str-front.utf8 (search rules) e

pub returns-in-None : goal.returns-in-None
returns-in-None c = no_last c.args.text.now (sym (ap length c.chars-characters.ensures.rest) ∙ c.in-None.ensures.steps.0)
