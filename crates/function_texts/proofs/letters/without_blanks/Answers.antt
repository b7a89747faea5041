use Rattle.std.proofs.Common.{◌∙◌, sym}
use Rattle.function_texts.proofs.LetterLemmas.{blank_front, front_begins, all_blank}
use Rattle.function_texts.proofs.letters.without_blanks.Goals as goal

pub front-preserved : goal.front-preserved
front-preserved c =
    blank_front c.args.characters.now c.front.start c.index-characters-start.result _ c.front-test.true
    c.index-characters-start.is (sym c.is_blank.ensures ∙ c.if-is_blank.true) c.front.invariant

pub returns-else-is_blank : goal.returns-else-is_blank
returns-else-is_blank c =
    front_begins c.args.characters.now c.front.start c.index-characters-start.result _ c.front-test.true
    c.index-characters-start.is (sym c.is_blank.ensures ∙ c.if-is_blank.false) c.front.invariant

pub returns : goal.returns
returns c = all_blank c.args.characters.now c.front.start _ c.front-test.false c.front.invariant
