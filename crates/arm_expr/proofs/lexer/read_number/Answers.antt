use Rattle.std.proofs.Common.{◌∙◌, ap, arith, map, length}
use Rattle.std.specs.Str.{chars}
use Rattle.arm_expr.specs.Lexer.{lex, between}
use Rattle.arm_expr.specs.Runs.{onto}
use Rattle.arm_expr.specs.Tokens.{token_of}
use Rattle.arm_expr.proofs.LexerLemmas.{no_number, number_found}
use Rattle.arm_expr.proofs.lexer.read_number.Goals as goal

pub returns-in-None : goal.returns-in-None
returns-in-None c =
    no_number c.args.negative c.deref.result.now (chars c.args.text.now) c.in-None.ensures
    (c.deref.ensures.value ∙ c.in_ok-digits.ensures ∙ c.run_of.ensures.front)

pub returns : goal.returns
returns c = (
  ap (λ r. onto (map token_of c.put.new.tokens.items) (lex between r)) c.run_of.ensures.rest
      ∙ number_found c.args.negative (map token_of c.args.tokens.now.items) (map token_of c.put.new.tokens.items)
      (token_of c.in-Some.token) c.deref.result.now (chars c.args.text.now) c.in_ok-put-in-Some.ensures
      c.in-Some.ensures (c.deref.ensures.value ∙ c.in_ok-digits.ensures ∙ c.run_of.ensures.front),
  omega (arith, ap length c.run_of.ensures.rest),
)
