use Rattle.std.proofs.Common.{◌++◌, ◌∙◌, chars, ap}
use Rattle.std.proofs.lemmas.Str.{chars-append}
use Rattle.lock_rules.proofs.parts.joined.Goals as goal

pub returns : goal.returns
returns c =
    let first = c.args.first.now in
    let between = c.args.between.now in
    let last = c.args.last.now in
    c.from_string.ensures.characters ∙ ap chars c.in_ok-text.ensures.ok
    ∙ chars-append first (between ++ last) c.utf8.first
    ∙ ap (λ t. chars first ++ t) (chars-append between last c.utf8.between)
