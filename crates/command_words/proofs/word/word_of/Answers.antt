use Rattle.std.proofs.Common.{Some, None, lit<, sym, ◌∙◌}
use Rattle.std.proofs.lemmas.Str.Pattern.{strip_prefix_char}
use Rattle.command_words.proofs.WordLemmas.{no_dash, one_dash}
use Rattle.command_words.proofs.word.word_of.Goals as goal

pub returns-in-None : goal.returns-in-None
returns-in-None c =
    c.value_of.ensures ∙ sym (no_dash c.args.word.now
    (strip_prefix_char 45 c.args.word.now None c.in-None.ensures.cases (lit< tt)))

pub returns-in-Some : goal.returns-in-Some
returns-in-Some c =
    c.dashed.ensures ∙ sym (one_dash c.args.word.now c.in-Some.rest.now
    (strip_prefix_char 45 c.args.word.now (Some c.in-Some.rest) c.in-Some.ensures.cases (lit< tt)))
