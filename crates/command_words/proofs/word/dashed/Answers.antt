use Rattle.std.proofs.Common.{Some, None, lit<, sym, ◌∙◌}
use Rattle.std.proofs.lemmas.Str.Pattern.{strip_prefix_char}
use Rattle.command_words.proofs.WordLemmas.{no_second, two_dashes}
use Rattle.command_words.proofs.word.dashed.Goals as goal

pub returns-in-None : goal.returns-in-None
returns-in-None c =
    sym (no_second c.args.rest.now (strip_prefix_char 45 c.args.rest.now None c.in-None.ensures.cases (lit< tt)))

pub returns-in-Some : goal.returns-in-Some
returns-in-Some c =
    c.option_of.ensures ∙ sym (two_dashes c.args.rest.now c.in-Some.option.now
    (strip_prefix_char 45 c.args.rest.now (Some c.in-Some.option) c.in-Some.ensures.cases (lit< tt)))
