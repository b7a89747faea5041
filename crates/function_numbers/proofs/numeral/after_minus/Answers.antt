use Rattle.std.proofs.Common.{◌≡◌, ◌++◌, ◌∙◌, ap, sym, Some}
use Rattle.std.specs.Str.{chars}
use lib.Utf8.{encode}
use Rattle.std.proofs.lemmas.Str.{chars_past_char}
use Rattle.function_numbers.proofs.TextLemmas.{is_after_minus}
use Rattle.function_numbers.proofs.numeral.after_minus.Goals as goal

pub returns-in-Some-eq45 : goal.returns-in-Some-eq45
returns-in-Some-eq45 c =
    let front : c.args.text.now ≡ encode c.in-Some-eq45.field-0 ++ c.next.new.self.rest.now =
    sym c.chars-characters.ensures.rest ∙ c.in-Some-eq45.ensures.steps.0 in
    let e = chars_past_char c.args.text.now c.next.new.self.rest.now c.in-Some-eq45.field-0 c.utf8.text front in
    ap (λ bs. Some (chars bs)) c.as_str.ensures
    ∙ is_after_minus (chars c.args.text.now) (chars c.next.new.self.rest.now) c.in-Some-eq45.field-0 e
    c.in-Some-eq45.field-0-test
