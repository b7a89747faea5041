use Rattle.std.proofs.Common.{◌≡◌, ◌∙◌, ap, sym, arith, length, map, true}
use Rattle.std.specs.Str.{chars}
use Rattle.arm_expr.specs.Lexer.{start_sign}
use Rattle.arm_expr.specs.Runs.{begun, counted, rest, continues}
use Rattle.arm_expr.specs.Tokens.{token_of}
use Rattle.arm_expr.specs.declared.lexer.Run.TheVariants as runs
use Rattle.arm_expr.proofs.LexerLemmas.{reads_as, minus_first, rest-shorter}
use Rattle.arm_expr.proofs.lexer.read_sign.Goals as goal

pub returns-in-45 : goal.returns-in-45
returns-in-45 c =
    let cs = chars c.args.left.now in
    let is : 45 ≡ c.args.c = omega (arith, c.in-45.is) in
    reads_as (map token_of c.args.tokens.now.items) (map token_of c.read_number.new.tokens.items) (counted true cs)
    (begun (start_sign c.args.c) cs) (length (rest (continues runs.Digits) cs)) (length cs) c.read_number.result
    (sym (minus_first cs) ∙ ap (λ d. begun (start_sign d) cs) is) (rest-shorter (continues runs.Digits) cs)
    c.read_number.ensures
