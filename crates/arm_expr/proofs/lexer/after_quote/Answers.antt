use Rattle.std.proofs.Common.{Some, None, lit<}
use Rattle.std.proofs.lemmas.Str.Pattern.{strip_prefix_char}
use Rattle.arm_expr.proofs.LexerLemmas.{no_quote, past_quote}
use Rattle.arm_expr.proofs.lexer.after_quote.Goals as goal

pub returns-in-None : goal.returns-in-None
returns-in-None c =
    no_quote c.args.text.now c.utf8.text (strip_prefix_char 39 c.args.text.now None c.in-None.ensures.cases (lit< tt))

pub returns-in-Some : goal.returns-in-Some
returns-in-Some c =
    past_quote c.args.text.now c.in-Some.left.now
    (strip_prefix_char 39 c.args.text.now (Some c.in-Some.left) c.in-Some.ensures.cases (lit< tt))
