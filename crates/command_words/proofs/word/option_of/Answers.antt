use Rattle.std.proofs.Common.{Some, None, lit<, sym, ◌∙◌}
use Rattle.std.proofs.lemmas.Str.Pattern.{split_once_first}
use Rattle.command_words.proofs.WordLemmas.{no_equals, at_equals}
use Rattle.command_words.proofs.word.option_of.Goals as goal

pub returns-in-None : goal.returns-in-None
returns-in-None c =
    sym (no_equals c.args.option.now (split_once_first 61 c.args.option.now None c.in-None.ensures.cases (lit< tt)))

pub returns-in-Some : goal.returns-in-Some
returns-in-Some c =
    let parts = split_once_first 61 c.args.option.now (Some (c.in-Some.name, c.in-Some.value)) c.in-Some.ensures.cases
    (lit< tt) in
    c.valued.ensures ∙ sym (at_equals c.args.option.now c.in-Some.name.now c.in-Some.value.now parts.0 parts.1 parts.2)
