use Rattle.std.proofs.Common.{Some, None, lit<, sym}
use Rattle.std.proofs.lemmas.Str.Pattern.{strip_prefix_char}
use Rattle.arm_expr.proofs.BracketLemmas.{no_first, opened}
use Rattle.arm_expr.proofs.brackets.opens.Goals as goal

pub returns-in-None : goal.returns-in-None
returns-in-None c =
    sym (no_first c.args.text.now c.utf8.text
    (strip_prefix_char 91 c.args.text.now None c.in-None.ensures.cases (lit< tt)))

pub returns-in-Some : goal.returns-in-Some
returns-in-Some c =
    sym (opened c.args.text.now c.in-Some._rest.now
    (strip_prefix_char 91 c.args.text.now (Some c.in-Some._rest) c.in-Some.ensures.cases (lit< tt)))
