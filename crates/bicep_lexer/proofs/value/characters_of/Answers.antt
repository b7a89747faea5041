use Rattle.std.proofs.lemmas.Iterator.{items_from_collect, YieldsList-from_chars}
use Rattle.bicep_lexer.proofs.value.characters_of.Goals as goal

pub returns-clause-characters : goal.returns-clause-characters
returns-clause-characters c =
    items_from_collect c.collect.result c.collect.ensures.ran
    (YieldsList-from_chars c.args.text.now c.utf8.text c.chars.ensures.rest)

pub returns-clause-utf8 : goal.returns-clause-utf8
returns-clause-utf8 c = c.utf8.text
