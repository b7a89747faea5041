use Rattle.std.proofs.Common.{Some, None, lit<, rules, ◌∙◌, ◌∷◌, ap}
use Rattle.std.proofs.lemmas.Str.Pattern.{strip_prefix_char, strip_suffix_char}
use Rattle.arm_expr.proofs.BracketLemmas.{in_characters, no_front, no_back}
use Rattle.arm_expr.proofs.reader.inside.Goals as goal

pub returns-in-None : goal.returns-in-None
returns-in-None c =
    no_front c.args.text.now c.utf8.text (strip_prefix_char 91 c.args.text.now None c.in-None.ensures.cases (lit< tt))

pub returns-in-None-strip_suffix : goal.returns-in-None-strip_suffix
returns-in-None-strip_suffix c =
    no_back c.args.text.now c.in-Some.rest.now c.utf8.text
    (strip_prefix_char 91 c.args.text.now (Some c.in-Some.rest) c.in-Some.ensures.cases (lit< tt))
    (strip_suffix_char 93 c.in-Some.rest.now None c.in-None-strip_suffix.ensures.cases (lit< tt))

pub returns-in-Some-strip_suffix : goal.returns-in-Some-strip_suffix
returns-in-Some-strip_suffix c =
    in_characters c.args.text.now c.in-Some-strip_suffix.inner.now (search rules)
    (strip_prefix_char 91 c.args.text.now (Some c.in-Some.rest) c.in-Some.ensures.cases (lit< tt)
    ∙ ap (λ x. 91 ∷ x)
    (strip_suffix_char 93 c.in-Some.rest.now (Some c.in-Some-strip_suffix.inner)
    c.in-Some-strip_suffix.ensures.cases (lit< tt)))
