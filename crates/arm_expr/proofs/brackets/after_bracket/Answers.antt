use Rattle.std.proofs.Common.{Some, None, lit<, rules}
use Rattle.std.proofs.lemmas.Str.Pattern.{strip_prefix_char, strip_suffix_char}
use Rattle.arm_expr.proofs.BracketLemmas.{no_bracket, no_last, shut_brackets, chars_after}
use Rattle.arm_expr.proofs.brackets.after_bracket.Goals as goal

pub returns-in-None : goal.returns-in-None
returns-in-None c =
    no_bracket c.args.text.now c.utf8.text
    (strip_prefix_char 91 c.args.text.now None c.in-None.ensures.cases (lit< tt))

pub returns-in-None-strip_suffix : goal.returns-in-None-strip_suffix
returns-in-None-strip_suffix c =
    no_last c.args.text.now c.in-Some.rest.now (search rules)
    (strip_prefix_char 91 c.args.text.now (Some c.in-Some.rest) c.in-Some.ensures.cases (lit< tt))
    (strip_suffix_char 93 c.in-Some.rest.now None c.in-None-strip_suffix.ensures.cases (lit< tt))

pub returns-in-Some-strip_suffix : goal.returns-in-Some-strip_suffix
returns-in-Some-strip_suffix c =
    let first = strip_prefix_char 91 c.args.text.now (Some c.in-Some.rest) c.in-Some.ensures.cases (lit< tt) in
    let last =
    strip_suffix_char 93 c.in-Some.rest.now (Some c.in-Some-strip_suffix._inner)
    c.in-Some-strip_suffix.ensures.cases (lit< tt) in (
      shut_brackets c.args.text.now c.in-Some.rest.now c.in-Some-strip_suffix._inner.now (search rules) first last,
      chars_after c.args.text.now c.in-Some.rest.now first,
    )
